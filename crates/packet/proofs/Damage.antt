-- Damage behind the length that the check finds: what is received instead of the data and their check is answered as wrong.
-- Assumes nothing.
use Prim.Native.Nat.{ℕ, zero, suc, ◌+◌, ◌≤◌}
use mathlib.Core.Path.{◌≡◌, refl, sym, ap, subst, ◌∙◌}
use mathlib.Core.Logic.{inl, inr}
use mathlib.Core.Bool.{Bool, true, false}
use mathlib.Core.List.{List, [], ◌∷◌, ◌++◌}
use native.Mathlib.Nat.{mod-lt}
use native.Mathlib.Omega.{arith}
use lib.Dec.{lit<}
use lib.ListN.{length, replicate, length-append}
use Rattle.crc.specs.Check.{check_of}
use Rattle.crc.specs.Noise.{Bytes}
use Rattle.crc.proofs.Theorems.{sent_good, pair_found, run_found, odd_found, bits_found}
use Rattle.crc.proofs.Told.{check_small}
use Rattle.packet.specs.Packets.{stx, check_bytes, nothing, wrong, is_check}
use Rattle.packet.specs.Streams.{outside, Leads}
use Rattle.packet.specs.Noise.{Noise}
use Rattle.packet.proofs.Judging.{check_bytes_lem}
use Rattle.packet.proofs.Leading.{check_wrong}

bytes_left : (s t : List ℕ) → Bytes (s ++ t) → Bytes s
unfolding Bytes
bytes_left [] t h = tt
bytes_left (b ∷ s) t h = (h.0, bytes_left s t h.1)

bytes_right : (s t : List ℕ) → Bytes (s ++ t) → Bytes t
unfolding Bytes
bytes_right [] t h = h
bytes_right (b ∷ s) t h = bytes_right s t h.1

bytes_both : (s t : List ℕ) → Bytes s → Bytes t → Bytes (s ++ t)
unfolding Bytes
bytes_both [] t h l = l
bytes_both (b ∷ s) t h l = (h.0, bytes_both s t h.1 l)

middle : (s p m q : List ℕ) → Bytes s → s ≡ p ++ m ++ q → Bytes m
middle s p m q h e = bytes_right p m (bytes_left (p ++ m) q (subst Bytes e h))

-- two lists of bytes with one check, that noise of one of the four kinds made of each other, are one
pub noise_found :
    (s t : List ℕ) → Bytes s → Bytes t → length s ≡ length t → length s ≤ 4095 → Noise s t → check_of s ≡ check_of t → s ≡ t
noise_found s t h l n m (inl w) e =
    let a = w.start in
    let q = w.rest in
    w.of_sent
    ∙ ap (λ (u : List ℕ). a ++ u ++ q)
    (pair_found a w.sent w.received q (middle s a w.sent q h w.of_sent) (middle t a w.received q l w.of_received)
    w.as_long w.short (ap check_of (sym w.of_sent) ∙ e ∙ ap check_of w.of_received))
    ∙ sym w.of_received
noise_found s t h l n m (inr (inl w)) e = run_found s t h l w e
noise_found s t h l n m (inr (inr (inl a))) e = bits_found s t h l n m a e
noise_found s t h l n m (inr (inr (inr a))) e = absurd (odd_found s t n a e)

bytes_body : (d : List ℕ) → Bytes d → Bytes (d ++ check_bytes d)
unfolding check_bytes Bytes
bytes_body d h = bytes_both d (check_bytes d) h (omega (arith, check_small d), (mod-lt (check_of d) (lit< tt), tt))

body_zero : (d : List ℕ) → check_of (d ++ check_bytes d) ≡ 0
unfolding check_bytes
body_zero d = sent_good d

-- the last two of some bytes
record Last (k : ℕ) (t : List ℕ) : Type 0 where
  front : List ℕ
  high : ℕ
  low : ℕ
  whole : t ≡ front ++ (high ∷ low ∷ [])
  size : length front ≡ k

last_two : (k : ℕ) (t : List ℕ) → length t ≡ k + 2 → Last k t
last_two zero [] e = absurd (omega arith)
last_two zero (h ∷ []) e = absurd (omega arith)
last_two zero (h ∷ l ∷ []) e = record { front = []; high = h; low = l; whole = refl; size = refl }
last_two zero (h ∷ l ∷ x ∷ t) e = absurd (omega arith)
last_two (suc k) [] e = absurd (omega arith)
last_two (suc k) (b ∷ t) e =
    let w = last_two k t (omega arith) in
    record {
      front = b ∷ w.front;
      high = w.high;
      low = w.low;
      whole = ap (λ (u : List ℕ). b ∷ u) w.whole;
      size = ap suc w.size;
    }

-- k data and two check bytes come behind their length, and are wrong at the second of these
abbrev Comes : ℕ → List ℕ → Type 0
Comes k t = Leads outside (stx ∷ (k + 4) ∷ t) (replicate (k + 3) nothing ++ (wrong ∷ [])) outside

-- The data d and their check were sent behind their length, and t was received in their place: wrong at the second check byte.
pub damage_told :
    (d t : List ℕ)
    → length d ≤ 40
    → Bytes d
    → Bytes t
    → length t ≡ length (d ++ check_bytes d)
    → Noise (d ++ check_bytes d) t
    → (d ++ check_bytes d ≡ t → ⊥)
    → Leads outside (stx ∷ (length d + 4) ∷ t) (replicate (length d + 3) nothing ++ (wrong ∷ [])) outside
unfolding check_bytes
damage_told d t h b c n w differs = go (is_check l.front l.high l.low) refl
  where
    long : length (d ++ check_bytes d) ≡ length d + 2
    long = length-append d (check_bytes d)

    l : Last (length d) t
    l = last_two (length d) t (n ∙ long)

    go : (v : Bool) → is_check l.front l.high l.low ≡ v → Comes (length d) t
    go true e =
        let zero_too : check_of t ≡ 0 =
        ap check_of l.whole ∙ ap (λ (u : List ℕ). check_of (l.front ++ u)) (check_bytes_lem l.front l.high l.low e)
        ∙ body_zero l.front in
        absurd
        (differs
        (noise_found (d ++ check_bytes d) t (bytes_body d b) c (sym n) (omega (arith, long)) w (body_zero d ∙ sym zero_too)))
    go false e =
        let a : Comes (length l.front) (l.front ++ (l.high ∷ l.low ∷ [])) =
        check_wrong l.front (omega (arith, l.size)) l.high l.low e in
        let b : Comes (length d) (l.front ++ (l.high ∷ l.low ∷ [])) =
        subst (λ (k : ℕ). Comes k (l.front ++ (l.high ∷ l.low ∷ []))) l.size a in
        subst (Comes (length d)) (sym l.whole) b
