-- Where parts of a packet lead, and parts one behind the other.
-- Assumes nothing.
use Rattle.std.specs.Prelude.{if◌then◌else◌}
use Prim.Native.Nat.{ℕ, ◌+◌, ◌-◌, ◌≤◌}
use mathlib.Core.Path.{◌≡◌, refl, sym, ap, ap₂, ◌∙◌}
use mathlib.Core.Bool.{true, false}
use mathlib.Core.List.{List, [], ◌∷◌, ◌++◌, append_assoc, append-nil}
use native.Mathlib.Omega.{arith}
use lib.Dec.{eqb}
use lib.ListN.{length, replicate, length-append, replicate-append-replicate}
use borrow.Author.Tests.{ne_eqb}
use Rattle.packet.specs.Packets.{stx, etx, check_bytes, packet_of, Heard, nothing, wrong, good, is_length, is_check, ending, judged}
use Rattle.packet.specs.Streams.{Standing, outside, behind, goes_on, told, next, reading, ended, Leads}
use Rattle.packet.proofs.Judging.{in_range, out_of_range, filling, at_end_lem, check_right}

pub reading_append : (p : Standing) (s t : List ℕ) → reading p (s ++ t) ≡ reading p s ++ reading (ended p s) t
unfolding reading ended
reading_append p [] t = refl
reading_append p (b ∷ s) t = ap (λ (hs : List Heard). told p b ∷ hs) (reading_append (next p b) s t)

pub ended_append : (p : Standing) (s t : List ℕ) → ended p (s ++ t) ≡ ended (ended p s) t
unfolding ended
ended_append p [] t = refl
ended_append p (b ∷ s) t = ended_append (next p b) s t

pub leads_then : {p q r : Standing} {s t : List ℕ} {hs ks : List Heard} → Leads p s hs q → Leads q t ks r → Leads p (s ++ t) (hs ++ ks) r
leads_then {p} {q} {r} {s} {t} {hs} {ks} a b =
    record {
      reads =
          reading_append p s t
          ∙ ap₂ (λ (u v : List Heard). u ++ v) a.reads (ap (λ (x : Standing). reading x t) a.ends ∙ b.reads);
      ends = ended_append p s t ∙ ap (λ (x : Standing). ended x t) a.ends ∙ b.ends;
    }

pub leads_as : {p q : Standing} {s : List ℕ} {hs ks : List Heard} → Leads p s hs q → hs ≡ ks → Leads p s ks q
leads_as a e = record { reads = a.reads ∙ e; ends = a.ends }

-- one byte in a packet
one : (s : List ℕ) (b : ℕ) (h : Heard) → judged (s ++ (b ∷ [])) ≡ h → Leads (behind s) (b ∷ []) (h ∷ []) (goes_on (s ++ (b ∷ [])) h)
unfolding reading ended told next
one s b h j = record { reads = ap (λ (x : Heard). x ∷ []) j; ends = ap (goes_on (s ++ (b ∷ []))) j }

begins : Leads outside (stx ∷ []) (nothing ∷ []) (behind [])
unfolding reading ended told next
begins = record { reads = refl; ends = refl }

fills : (n : ℕ) (s t : List ℕ) → is_length n ≡ true → length s + length t ≤ n - 4
    → Leads (behind (n ∷ s)) t (replicate (length t) nothing) (behind (n ∷ (s ++ t)))
unfolding reading ended
fills n s [] e h = record { reads = refl; ends = ap (λ (u : List ℕ). behind (n ∷ u)) (sym (append-nil s)) }
fills n s (b ∷ t) e h =
    let more : length (s ++ (b ∷ [])) ≡ length s + 1 = length-append s (b ∷ []) in
    let a : Leads (behind (n ∷ s)) (b ∷ []) (nothing ∷ []) (behind (n ∷ (s ++ (b ∷ [])))) =
    one (n ∷ s) b nothing (filling n (s ++ (b ∷ [])) e (omega arith)) in
    let w = leads_then a (fills n (s ++ (b ∷ [])) t e (omega arith)) in
    record {
      reads = w.reads;
      ends = w.ends ∙ ap (λ (u : List ℕ). behind (n ∷ u)) (append_assoc s (b ∷ []) t);
    }

-- STX and a length
pub length_wrong : (n : ℕ) → is_length n ≡ false → Leads outside (stx ∷ n ∷ []) (nothing ∷ wrong ∷ []) outside
length_wrong n e = leads_then begins (one [] n wrong (out_of_range n [] e))

length_right : (n : ℕ) → is_length n ≡ true → Leads outside (stx ∷ n ∷ []) (nothing ∷ nothing ∷ []) (behind (n ∷ []))
length_right n e = leads_then begins (one [] n nothing (filling n [] e (omega arith)))

module _ (d : List ℕ) (h : length d ≤ 40) where
  fine : is_length (length d + 4) ≡ true
  fine = in_range (length d + 4) (omega arith) (omega arith)

  by_end : (t : List ℕ) → judged ((length d + 4) ∷ (d ++ t)) ≡ ending d t
  by_end t = at_end_lem (length d + 4) d t refl h

  -- STX, the length and the data
  data_comes : Leads outside (stx ∷ (length d + 4) ∷ d) (replicate (length d + 2) nothing) (behind ((length d + 4) ∷ d))
  data_comes =
      let w = leads_then (length_right (length d + 4) fine) (fills (length d + 4) [] d fine (omega arith)) in
      let k : 2 + length d ≡ length d + 2 = omega arith in
      leads_as w (replicate-append-replicate 2 (length d) nothing ∙ ap (λ (x : ℕ). replicate x nothing) k)

  high_comes : (b : ℕ) → Leads (behind ((length d + 4) ∷ d)) (b ∷ []) (nothing ∷ []) (behind ((length d + 4) ∷ (d ++ (b ∷ []))))
  unfolding ending
  high_comes b = one ((length d + 4) ∷ d) b nothing (by_end (b ∷ []))

  module _ (b c : ℕ) where
    two : judged ((length d + 4) ∷ (d ++ (b ∷ []) ++ (c ∷ []))) ≡ (if is_check d b c then nothing else wrong)
    unfolding ending
    two = ap (λ (u : List ℕ). judged ((length d + 4) ∷ u)) (append_assoc d (b ∷ []) (c ∷ [])) ∙ by_end (b ∷ c ∷ [])

    -- two bytes that are not the check
    pub check_wrong :
        is_check d b c ≡ false
        → Leads outside (stx ∷ (length d + 4) ∷ (d ++ (b ∷ c ∷ []))) (replicate (length d + 3) nothing ++ (wrong ∷ [])) outside
    check_wrong e =
        let w = leads_then (high_comes b) (one ((length d + 4) ∷ (d ++ (b ∷ []))) c wrong (two ∙ simp e)) in
        let k : length d + 2 + 1 ≡ length d + 3 = omega arith in
        leads_as (leads_then data_comes w)
        (sym (append_assoc (replicate (length d + 2) nothing) (nothing ∷ []) (wrong ∷ []))
        ∙ ap (λ (u : List Heard). u ++ (wrong ∷ []))
        (replicate-append-replicate (length d + 2) 1 nothing ∙ ap (λ (x : ℕ). replicate x nothing) k))

    check_comes :
        is_check d b c ≡ true
        → Leads (behind ((length d + 4) ∷ d)) (b ∷ c ∷ []) (nothing ∷ nothing ∷ []) (behind ((length d + 4) ∷ (d ++ (b ∷ []) ++ (c ∷ []))))
    check_comes e = leads_then (high_comes b) (one ((length d + 4) ∷ (d ++ (b ∷ []))) c nothing (two ∙ simp e))

  -- all but ETX
  body_comes :
      Leads outside (stx ∷ (length d + 4) ∷ (d ++ check_bytes d)) (replicate (length d + 4) nothing)
      (behind ((length d + 4) ∷ (d ++ check_bytes d)))
  unfolding check_bytes
  body_comes =
      let w = leads_then data_comes (check_comes _ _ (check_right d)) in
      let k : length d + 2 + 2 ≡ length d + 4 = omega arith in
      record {
        reads = w.reads ∙ replicate-append-replicate (length d + 2) 2 nothing ∙ ap (λ (x : ℕ). replicate x nothing) k;
        ends = w.ends ∙ ap (λ (u : List ℕ). behind ((length d + 4) ∷ u)) (append_assoc d _ _);
      }

  three : (e : ℕ) → judged ((length d + 4) ∷ (d ++ check_bytes d ++ (e ∷ []))) ≡ (if eqb e etx then good d else wrong)
  unfolding ending check_bytes
  three e =
      ap (λ (u : List ℕ). judged ((length d + 4) ∷ u)) (append_assoc d (check_bytes d) (e ∷ [])) ∙ by_end (check_bytes d ++ (e ∷ []))
      ∙ simp (check_right d)

  pub packet_comes : Leads outside (packet_of d) (replicate (length d + 4) nothing ++ (good d ∷ [])) outside
  unfolding packet_of
  packet_comes = leads_then body_comes (one ((length d + 4) ∷ (d ++ check_bytes d)) etx (good d) (three etx))

  pub etx_wrong :
      (e : ℕ)
      → (e ≡ etx → ⊥)
      → Leads outside (stx ∷ (length d + 4) ∷ (d ++ check_bytes d ++ (e ∷ []))) (replicate (length d + 4) nothing ++ (wrong ∷ [])) outside
  etx_wrong e n = leads_then body_comes (one ((length d + 4) ∷ (d ++ check_bytes d)) e wrong (three e ∙ simp (ne_eqb e etx n)))
