-- The receiver follows the stream: one byte more, by what it holds, tells and leads where the stream's meaning says.
-- Assumes nothing.
use Rattle.std.specs.Prelude.{if◌then◌else◌, Option, None, Some}
use Prim.Native.Nat.{ℕ, ◌+◌, ◌-◌, ◌≤◌, ◌<◌}
use mathlib.Core.Path.{◌≡◌, refl, sym, ap, ap₂, subst, ◌∙◌}
use mathlib.Core.Bool.{Bool, true, false}
use mathlib.Core.List.{List, [], ◌∷◌, ◌++◌, append_assoc}
use native.Mathlib.Numerals.{add-one}
use native.Mathlib.Omega.{arith}
use lib.Dec.{eqb}
use lib.ListN.{length, take, set, replicate, length-take, length-set, length-append}
use lib.Seq.{take-suc-set, length-take-le}
use borrow.Author.Tests.{lt-ltb, le-leb, ltb-true, leb-true, eqb-true}
use Rattle.base.proofs.Choices.{false_true}
use Rattle.packet.specs.Packets.{stx, etx, check_bytes, Heard, nothing, wrong, good, is_length, is_check, ending, judged}
use Rattle.packet.specs.Streams.{Standing, outside, behind, goes_on, told, next, reading, ended}
use Rattle.packet.specs.Receiver.{outside_receiver, going_on, wrong_now, length_taken, data_taken, low_taken, end_taken}
use Rattle.packet.specs.Receiver.{begun_by, taken_by, after_in, after_byte, sound_stage, sound_receiver}
use Rattle.packet.specs.Follows.{came, standing_in, standing, heard, answers, after_all, Sound}
use Rattle.packet.specs.declared.receiver.Stage.{Stage}
use Rattle.packet.specs.declared.receiver.Stage.TheVariants.{Length, Data, High, Low, End}
use Rattle.packet.specs.declared.receiver.Part.{Part}
use Rattle.packet.specs.declared.receiver.Receiver.{Receiver}
use Rattle.packet.specs.declared.receiver.Outcome.TheVariants.{Nothing, Good}
use Rattle.packet.specs.declared.receiver.Arrived.{Arrived}
use Rattle.packet.proofs.Steps.{stage_sound}
use Rattle.packet.proofs.Judging.{in_range, range_of, out_of_range, filling, at_end_lem, check_right, check_bytes_lem}

-- what the receiver makes of a byte is what the stream says of it
pub record Right (a : Arrived) (h : Heard) (p : Standing) : Type 0 where
  pub tells : heard a ≡ h
  pub leads : standing a.receiver ≡ p
  pub sound : Sound a.receiver

-- the bytes behind STX, the newest with them
abbrev Fits : Arrived → List ℕ → Type 0
Fits a s = Right a (judged s) (goes_on s (judged s))

pub outside_sound : Sound outside_receiver
unfolding sound_receiver
outside_sound = record { places = refl; tested = refl }

on : (l : List ℕ) (g : Stage) (s : List ℕ) → length l ≡ 40 → sound_stage g ≡ true → came l g ≡ s → judged s ≡ nothing → Fits (going_on l g) s
unfolding sound_receiver
on l g s n t e j =
    record {
      tells = sym j;
      leads = ap behind e ∙ sym (ap (goes_on s) j);
      sound = record { places = n; tested = t };
    }

off : (s : List ℕ) → judged s ≡ wrong → Fits wrong_now s
off s j = record { tells = sym j; leads = sym (ap (goes_on s) j); sound = outside_sound }

zeros : length {A = ℕ} (replicate 40 0) ≡ 40
zeros = refl

-- ---- the length
length_fits : (b : ℕ) → Fits (length_taken b) (b ∷ [])
unfolding length_taken
length_fits b = go (is_length b) refl
  where
    some : (t : Bool) → is_length b ≡ true → eqb b 4 ≡ t
        → Fits (if t then going_on (replicate 40 0) (High 0) else going_on (replicate 40 0) (Data 0 (b - 5))) (b ∷ [])
    some true e f =
        on (replicate 40 0) (High 0) (b ∷ []) zeros refl (ap (λ (x : ℕ). x ∷ []) (sym (eqb-true b 4 f))) (filling b [] e (omega arith))
    some false e f =
        let r = range_of b e in
        let n : b ≡ 4 → ⊥ = λ z. false_true (sym f ∙ ap (λ (x : ℕ). eqb x 4) z) in
        let z : 0 + (b - 5) + 5 ≡ b = omega arith in
        on (replicate 40 0) (Data 0 (b - 5)) (b ∷ []) zeros (lt-ltb (0 + (b - 5)) 40 (omega arith)) (ap (λ (x : ℕ). x ∷ []) z)
        (filling b [] e (omega arith))

    go : (t : Bool) → is_length b ≡ t
        → Fits (if t then if eqb b 4 then going_on (replicate 40 0) (High 0) else going_on (replicate 40 0) (Data 0 (b - 5)) else wrong_now)
        (b ∷ [])
    go true e = some (eqb b 4) e refl
    go false e = off (b ∷ []) (out_of_range b [] e)

-- ---- the data
module _ (l : List ℕ) (full : length l ≡ 40) (have more b : ℕ) (h : have + more < 40) where
  one_more : take (have + 1) (set l have b) ≡ take have l ++ (b ∷ [])
  one_more = rw add-one (take-suc-set l have b (omega arith))

  still : judged ((have + more + 5) ∷ (take have l ++ (b ∷ []))) ≡ nothing
  still =
      filling (have + more + 5) (take have l ++ (b ∷ [])) (in_range (have + more + 5) (omega arith) (omega arith))
      (simp (length-append, length-take) (omega arith))

  data_fits : Fits (data_taken l have more b) ((have + more + 5) ∷ (take have l ++ (b ∷ [])))
  unfolding data_taken
  data_fits = go (eqb more 0) refl
    where
      go : (t : Bool) → eqb more 0 ≡ t
          → Fits (if t then going_on (set l have b) (High (have + 1)) else going_on (set l have b) (Data (have + 1) (more - 1)))
          ((have + more + 5) ∷ (take have l ++ (b ∷ [])))
      go true e =
          let m : more ≡ 0 = eqb-true more 0 e in
          let z : have + 1 + 4 ≡ have + more + 5 = omega arith in
          on (set l have b) (High (have + 1)) _ (length-set l have b ∙ full) (le-leb (have + 1) 40 (omega arith))
          (ap₂ (λ (x : ℕ) (s : List ℕ). x ∷ s) z one_more) still
      go false e =
          let n : more ≡ 0 → ⊥ = λ z. false_true (sym e ∙ ap (λ (x : ℕ). eqb x 0) z) in
          let z : have + 1 + (more - 1) + 5 ≡ have + more + 5 = omega arith in
          on (set l have b) (Data (have + 1) (more - 1)) _ (length-set l have b ∙ full)
          (lt-ltb (have + 1 + (more - 1)) 40 (omega arith)) (ap₂ (λ (x : ℕ) (s : List ℕ). x ∷ s) z one_more) still

-- ---- behind the data
module _ (l : List ℕ) (full : length l ≡ 40) (n : ℕ) (h : n ≤ 40) where
  all_came : length (take n l) ≡ n
  all_came = length-take-le n l (omega arith)

  judged_by : (t : List ℕ) → judged ((n + 4) ∷ (take n l ++ t)) ≡ ending (take n l) t
  judged_by t = at_end_lem (n + 4) (take n l) t (omega (arith, all_came)) (omega (arith, all_came))

  high_fits : (b : ℕ) → Fits (going_on l (Low n b)) ((n + 4) ∷ (take n l ++ (b ∷ [])))
  unfolding ending
  high_fits b = on l (Low n b) _ full (le-leb n 40 h) refl (judged_by (b ∷ []))

  low_fits : (high b : ℕ) → Fits (low_taken l n high b) ((n + 4) ∷ (take n l ++ (high ∷ []) ++ (b ∷ [])))
  unfolding low_taken ending
  low_fits high b = subst (λ (s : List ℕ). Fits (low_taken l n high b) ((n + 4) ∷ s)) (sym (append_assoc (take n l) (high ∷ []) (b ∷ [])))
      (go (is_check (take n l) high b) refl)
    where
      go : (t : Bool) → is_check (take n l) high b ≡ t
          → Fits (if t then going_on l (End n) else wrong_now) ((n + 4) ∷ (take n l ++ (high ∷ b ∷ [])))
      go true e =
          on l (End n) _ full (le-leb n 40 h)
          (ap (λ (u : List ℕ). (n + 4) ∷ (take n l ++ u)) (sym (check_bytes_lem (take n l) high b e))) (judged_by (high ∷ b ∷ []) ∙ simp e)
      go false e = off _ (judged_by (high ∷ b ∷ []) ∙ simp e)

  end_fits : (b : ℕ) → Fits (end_taken l n b) ((n + 4) ∷ (take n l ++ check_bytes (take n l) ++ (b ∷ [])))
  unfolding end_taken ending check_bytes sound_receiver
  end_fits b =
      subst (λ (s : List ℕ). Fits (end_taken l n b) ((n + 4) ∷ s)) (sym (append_assoc (take n l) (check_bytes (take n l)) (b ∷ [])))
      (go (eqb b etx) refl)
    where
      go : (t : Bool) → eqb b etx ≡ t
          → Fits (if t then record { receiver = record { bytes = l; part = None }; outcome = Good n } else wrong_now)
          ((n + 4) ∷ (take n l ++ (check_bytes (take n l) ++ (b ∷ []))))
      go true e =
          let j : judged ((n + 4) ∷ (take n l ++ (check_bytes (take n l) ++ (b ∷ [])))) ≡ good (take n l) =
          judged_by (check_bytes (take n l) ++ (b ∷ [])) ∙ simp (check_right (take n l), e) in
          record {
            tells = sym j;
            leads = sym (ap (goes_on ((n + 4) ∷ (take n l ++ (check_bytes (take n l) ++ (b ∷ []))))) j);
            sound = record { places = full; tested = refl };
          }
      go false e = off _ (judged_by (check_bytes (take n l) ++ (b ∷ [])) ∙ simp (check_right (take n l), e))

taken_fits : (l : List ℕ) (g : Stage) (b : ℕ) → length l ≡ 40 → sound_stage g ≡ true → Fits (taken_by l g b) (came l g ++ (b ∷ []))
taken_fits l Length b n t = length_fits b
taken_fits l (Data have more) b n t = data_fits l n have more b (ltb-true (have + more) 40 t)
taken_fits l (High k) b n t = high_fits l n k (leb-true k 40 t) b
taken_fits l (Low k high) b n t = low_fits l n k (leb-true k 40 t) high b
taken_fits l (End k) b n t = end_fits l n k (leb-true k 40 t) b

begun_right : (r : Receiver) (b : ℕ) → Sound r → r.part ≡ None → Right (begun_by r b) (told outside b) (next outside b)
unfolding begun_by told next sound_receiver
begun_right r b s e = go (eqb b stx)
  where
    go : (t : Bool)
        → Right (if t then going_on (replicate 40 0) Length else record { receiver = r; outcome = Nothing }) nothing
        (if t then behind [] else outside)
    go true = record { tells = refl; leads = refl; sound = record { places = zeros; tested = refl } }
    go false = record { tells = refl; leads = ap (standing_in r.bytes) e; sound = s }

in_place : (r : Receiver) (b : ℕ) (p : Option Part) → Sound r → r.part ≡ p
    → Right (after_in r p b) (told (standing_in r.bytes p) b) (next (standing_in r.bytes p) b)
unfolding told next
in_place r b None s e = begun_right r b s e
in_place r b (Some p) s e = taken_fits r.bytes p.stage b s.places (stage_sound r p s.tested e)

-- One byte: a sound receiver tells what the stream says, stands where the stream says, and is sound.
pub byte_right : (r : Receiver) (b : ℕ) → Sound r → Right (after_byte r b) (told (standing r) b) (next (standing r) b)
unfolding after_byte
byte_right r b s = in_place r b r.part s refl

-- Any bytes.
pub follows : (bs : List ℕ) (r : Receiver) → Sound r → answers r bs ≡ reading (standing r) bs
unfolding answers reading
follows [] r s = refl
follows (b ∷ bs) r s =
    let w = byte_right r b s in
    ap₂ (λ (h : Heard) (hs : List Heard). h ∷ hs) w.tells
    (follows bs (after_byte r b).receiver w.sound ∙ ap (λ (p : Standing). reading p bs) w.leads)

pub stands : (bs : List ℕ) (r : Receiver) → Sound r → standing (after_all r bs) ≡ ended (standing r) bs
unfolding after_all ended
stands [] r s = refl
stands (b ∷ bs) r s =
    let w = byte_right r b s in
    stands bs (after_byte r b).receiver w.sound ∙ ap (λ (p : Standing). ended p bs) w.leads

pub all_sound : (bs : List ℕ) (r : Receiver) → Sound r → Sound (after_all r bs)
unfolding after_all
all_sound [] r s = s
all_sound (b ∷ bs) r s = all_sound bs (after_byte r b).receiver (byte_right r b s).sound
