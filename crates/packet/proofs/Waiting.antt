-- Ticks with no byte keep a receiver sound, add up, and count from the last byte.
-- Assumes nothing.
use Rattle.std.specs.Prelude.{if◌then◌else◌, Option, None, Some}
use Prim.Native.Nat.{ℕ, zero, suc, ◌+◌, ◌-◌, ◌≤◌, ◌<◌}
use mathlib.Core.Path.{◌≡◌, refl, sym, ap, subst, ◌∙◌}
use mathlib.Core.Bool.{Bool, true, false}
use mathlib.Core.List.{List}
use native.Mathlib.Nat.{zero-add, suc-add}
use native.Mathlib.Omega.{arith}
use lib.Dec.{ltb, eqb}
use lib.ListN.{take, set, replicate}
use borrow.Author.Tests.{ltb-true, ltb-false, leb-true, lt-ltb, le-leb}
use Rattle.base.proofs.Each.{and_both}
use Rattle.packet.specs.Packets.{stx, etx, is_length, is_check}
use Rattle.packet.specs.Receiver.{outside_receiver, waiting, going_on, wrong_now, length_taken, data_taken, low_taken, end_taken}
use Rattle.packet.specs.Receiver.{begun_by, taken_by, after_in, after_byte, sound_stage, sound_place, sound_receiver, tick_in, tick, ticks}
use Rattle.packet.specs.Follows.{standing, standing_in, Sound, StageFact, PlaceFact}
use Rattle.packet.specs.Streams.{outside}
use Rattle.packet.specs.Timed.{paused, Fresh}
use Rattle.packet.specs.declared.receiver.Stage.{Stage}
use Rattle.packet.specs.declared.receiver.Stage.TheVariants.{Length, Data, High, Low, End}
use Rattle.packet.specs.declared.receiver.Part.{Part}
use Rattle.packet.specs.declared.receiver.Receiver.{Receiver}
use Rattle.packet.specs.declared.receiver.Outcome.TheVariants.{Nothing, Good}
use Rattle.packet.specs.declared.receiver.Arrived.{Arrived}
use Rattle.packet.proofs.Steps.{stage_sound, not_late}
use Rattle.packet.proofs.Ticking.{ticks_outside, waits, drops}
use Rattle.packet.proofs.Following.{outside_sound}

-- ---- the test of soundness and its facts
stage_fact : (g : Stage) → sound_stage g ≡ true → StageFact g
stage_fact Length h = tt
stage_fact (Data have more) h = ltb-true (have + more) 40 h
stage_fact (High n) h = leb-true n 40 h
stage_fact (Low n high) h = leb-true n 40 h
stage_fact (End n) h = leb-true n 40 h

stage_test : (g : Stage) → StageFact g → sound_stage g ≡ true
stage_test Length h = refl
stage_test (Data have more) h = lt-ltb (have + more) 40 h
stage_test (High n) h = le-leb n 40 h
stage_test (Low n high) h = le-leb n 40 h
stage_test (End n) h = le-leb n 40 h

place_fact : (r : Receiver) (p : Option Part) → r.part ≡ p → sound_receiver r ≡ true → PlaceFact p
place_fact r None e h = tt
place_fact r (Some p) e h = (not_late r p h e, stage_fact p.stage (stage_sound r p h e))

pub facts_of : (r : Receiver) → sound_receiver r ≡ true → PlaceFact r.part
facts_of r h = place_fact r r.part refl h

place_test : (p : Option Part) → PlaceFact p → sound_place p ≡ true
place_test None h = refl
place_test (Some p) h =
    and_both (ltb p.quiet 500) (sound_stage p.stage) (lt-ltb p.quiet 500 h.0) (stage_test p.stage h.1)

pub test_of : (r : Receiver) → PlaceFact r.part → sound_receiver r ≡ true
unfolding sound_receiver
test_of r h = place_test r.part h

-- ---- ticks
tick_in_sound : (r : Receiver) (p : Option Part) → Sound r → r.part ≡ p → Sound (tick_in r p)
tick_in_sound r None s e = s
tick_in_sound r (Some p) s e = go (ltb (p.quiet + 1) 500) refl
  where
    go : (t : Bool) → ltb (p.quiet + 1) 500 ≡ t
        → Sound (if t then waiting r.bytes p.stage (p.quiet + 1) else outside_receiver)
    go true k =
        record {
          places = s.places;
          tested =
              test_of (waiting r.bytes p.stage (p.quiet + 1))
              (ltb-true (p.quiet + 1) 500 k, stage_fact p.stage (stage_sound r p s.tested e));
        }
    go false k = outside_sound

pub tick_sound : (r : Receiver) → Sound r → Sound (tick r)
unfolding tick
tick_sound r s = tick_in_sound r r.part s refl

pub ticks_sound : (n : ℕ) (r : Receiver) → Sound r → Sound (ticks n r)
unfolding ticks
ticks_sound zero r s = s
ticks_sound (suc n) r s = ticks_sound n (tick r) (tick_sound r s)

pub ticks_sum : (m n : ℕ) (r : Receiver) → ticks (m + n) r ≡ ticks n (ticks m r)
unfolding ticks
ticks_sum zero n r = ap (λ (k : ℕ). ticks k r) (zero-add n)
ticks_sum (suc m) n r = ap (λ (k : ℕ). ticks k r) (suc-add m n) ∙ ticks_sum m n (tick r)

-- ---- the ticks count from the last byte
taken_fresh : (l : List ℕ) (g : Stage) (b : ℕ) → Fresh (taken_by l g b).receiver.part
unfolding length_taken data_taken low_taken end_taken
taken_fresh l Length b = go (is_length b) (eqb b 4)
  where
    go : (t u : Bool)
        → Fresh (if t then if u then going_on (replicate 40 0) (High 0) else going_on (replicate 40 0) (Data 0 (b - 5)) else wrong_now).receiver.part
    go true true = refl
    go true false = refl
    go false u = tt
taken_fresh l (Data have more) b = go (eqb more 0)
  where
    go : (t : Bool)
        → Fresh (if t then going_on (set l have b) (High (have + 1)) else going_on (set l have b) (Data (have + 1) (more - 1))).receiver.part
    go true = refl
    go false = refl
taken_fresh l (High n) b = refl
taken_fresh l (Low n high) b = go (is_check (take n l) high b)
  where
    go : (t : Bool) → Fresh (if t then going_on l (End n) else wrong_now).receiver.part
    go true = refl
    go false = tt
taken_fresh l (End n) b = go (eqb b etx)
  where
    go : (t : Bool)
        → Fresh (if◌then◌else◌ {A = Arrived} t (record { receiver = record { bytes = l; part = None }; outcome = Good n }) wrong_now).receiver.part
    go true = tt
    go false = tt

fresh_in : (r : Receiver) (p : Option Part) (b : ℕ) → r.part ≡ p → Fresh (after_in r p b).receiver.part
unfolding begun_by
fresh_in r None b e = go (eqb b stx)
  where
    go : (t : Bool)
        → Fresh (if◌then◌else◌ {A = Arrived} t (going_on (replicate 40 0) Length) (record { receiver = r; outcome = Nothing })).receiver.part
    go true = refl
    go false = subst Fresh (sym e) tt
fresh_in r (Some p) b e = taken_fresh r.bytes p.stage b

pub byte_fresh : (r : Receiver) (b : ℕ) → Fresh (after_byte r b).receiver.part
unfolding after_byte
byte_fresh r b = fresh_in r r.part b refl

-- what a receiver waits for stands for fewer than 500 ticks, and not for more
kept_in : (n : ℕ) (r : Receiver) (p : Option Part) → Sound r → r.part ≡ p → Fresh p → n < 500 → standing (ticks n r) ≡ standing r
kept_in n r None s e f h = ap standing (ticks_outside n r e)
kept_in n r (Some p) s e f h =
    ap standing (sym (waits r p n s.tested e (omega arith))) ∙ ap (standing_in r.bytes) (sym e)

dropped_in : (n : ℕ) (r : Receiver) (p : Option Part) → Sound r → r.part ≡ p → Fresh p → 500 ≤ n → (ticks n r).part ≡ None
dropped_in n r None s e f h = ap (λ (x : Receiver). x.part) (ticks_outside n r e) ∙ e
dropped_in n r (Some p) s e f h = ap (λ (x : Receiver). x.part) (sym (drops r p n s.tested e (omega arith)))

pub kept_waiting : (n : ℕ) (r : Receiver) → Sound r → Fresh r.part → n < 500 → standing (ticks n r) ≡ standing r
kept_waiting n r s f h = kept_in n r r.part s refl f h

pub dropped_late : (n : ℕ) (r : Receiver) → Sound r → Fresh r.part → 500 ≤ n → (ticks n r).part ≡ None
dropped_late n r s f h = dropped_in n r r.part s refl f h

-- both, as the stream has them
pub stands_paused : (n : ℕ) (r : Receiver) → Sound r → Fresh r.part → standing (ticks n r) ≡ paused n (standing r)
unfolding paused
stands_paused n r s f = go (ltb n 500) refl
  where
    go : (t : Bool) → ltb n 500 ≡ t → standing (ticks n r) ≡ (if t then standing r else outside)
    go true e = kept_waiting n r s f (ltb-true n 500 e)
    go false e = ap (standing_in (ticks n r).bytes) (dropped_late n r s f (ltb-false n 500 e))
