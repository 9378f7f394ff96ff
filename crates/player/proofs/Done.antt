-- A call of many ticks:
--     few_done      it does no more ticks than it is asked for
--     some_done     it does at least one, where any is asked for and it is not refused
--     sent_sized    what it sends fits the buffer
-- Assumes nothing.
use Rattle.std.specs.Prelude.{if◌then◌else◌, Option, None, Some}
use Prim.Native.Nat.{ℕ, zero, suc, ◌≤◌}
use mathlib.Core.Path.{◌≡◌, refl, sym, ◌∙◌}
use mathlib.Core.Bool.{Bool, true, false}
use mathlib.Core.List.{List}
use native.Mathlib.Omega.{arith}
use lib.Dec.{eqb, leb, ltb}
use lib.ListN.{length}
use Rattle.base.proofs.Choices.{false_true}
use Rattle.leap.specs.Leaps.{most_ticks}
use Rattle.words.specs.declared.answers.Said.{Said}
use Rattle.answer.specs.Answers.{room, answer_of, length_in}
use Rattle.answer.specs.declared.frame.Frame.{Frame}
use Rattle.answer.proofs.Theorems.{answer_length}
use Rattle.pump.specs.Calls.{tick_at, tick_call, tick_done, and_tick, one_more, in_turn, ticks_call}
use Rattle.pump.specs.Holder.{is_sound_pump}
use Rattle.pump.specs.Reports.{of_byte, of_ticks, is_refused, refused, moved_by, Outcome}
use Rattle.pump.specs.declared.holder.Pump.{Pump}
use Rattle.pump.specs.declared.reports.Refusal.{Refusal}
use Rattle.pump.specs.declared.reports.Refusal.TheVariants.{ShortBuffer, Unsound, TooManyTicks}
use Rattle.pump.specs.declared.reports.Report.{Report}

-- ---- one tick
lengthy : (f : Frame) (s : Said) (buffer : List ℕ) → length_in f 0 s buffer ≤ 24
unfolding length_in
lengthy f s buffer = by (leb room (length buffer))
  where
    by : (t : Bool) → (if t then length (answer_of f 0 s) else 0) ≤ 24
    by true = answer_length f 0 s
    by false = omega arith

module _ (p : Pump) (buffer : List ℕ) where
  abbrev told : Option Refusal → Bool → Report
  told refusal t = if t then refused p refusal else moved_by p (tick_at p) buffer

  tick_few : (tick_call p buffer).ticks ≤ 1
  unfolding tick_call
  tick_few = by (of_byte (is_sound_pump p) (length buffer)) (is_refused (of_byte (is_sound_pump p) (length buffer)))
    where
      by : (refusal : Option Refusal) (t : Bool) → (told refusal t).ticks ≤ 1
      by refusal true = omega arith
      by refusal false = omega arith

  tick_sized : (tick_call p buffer).length ≤ 24
  unfolding tick_call
  tick_sized = by (of_byte (is_sound_pump p) (length buffer)) (is_refused (of_byte (is_sound_pump p) (length buffer)))
    where
      by : (refusal : Option Refusal) (t : Bool) → (told refusal t).length ≤ 24
      by refusal true = omega arith
      by refusal false = lengthy _ _ buffer

  tick_some : is_refused (of_byte (is_sound_pump p) (length buffer)) ≡ false → 1 ≤ (tick_call p buffer).ticks
  unfolding tick_call
  tick_some taken = rw taken (omega arith)

-- ---- one more, unless one sent an alarm
module _ (o : Outcome) where
  abbrev more : Bool → Outcome
  more t = if t then and_tick o (tick_done o.report.pump o.buffer) else o

  more_few : (n : ℕ) → o.report.ticks ≤ n → (one_more o).report.ticks ≤ suc n
  more_few n h = by (eqb o.report.length 0)
    where
      by : (t : Bool) → (more t).report.ticks ≤ suc n
      by true = omega (arith, h, tick_few o.report.pump o.buffer)
      by false = omega (arith, h)

  more_some : 1 ≤ o.report.ticks → 1 ≤ (one_more o).report.ticks
  more_some h = by (eqb o.report.length 0)
    where
      by : (t : Bool) → 1 ≤ (more t).report.ticks
      by true = omega (arith, h)
      by false = h

  more_sized : o.report.length ≤ 24 → (one_more o).report.length ≤ 24
  more_sized h = by (eqb o.report.length 0)
    where
      by : (t : Bool) → (more t).report.length ≤ 24
      by true = tick_sized o.report.pump o.buffer
      by false = h

-- ---- one after the other
module _ (p : Pump) (buffer : List ℕ) where
  turns_few : (n : ℕ) → (in_turn n p buffer).report.ticks ≤ n
  unfolding in_turn
  turns_few zero = omega arith
  turns_few (suc n) = more_few (in_turn n p buffer) n (turns_few n)

  turns_some : is_refused (of_byte (is_sound_pump p) (length buffer)) ≡ false → (n : ℕ) → 1 ≤ (in_turn (suc n) p buffer).report.ticks
  unfolding in_turn
  turns_some taken zero = omega (arith, tick_some p buffer taken)
  turns_some taken (suc n) = more_some (in_turn (suc n) p buffer) (turns_some taken n)

  turns_sized : (n : ℕ) → (in_turn n p buffer).report.length ≤ 24
  unfolding in_turn
  turns_sized zero = omega arith
  turns_sized (suc n) = more_sized (in_turn n p buffer) (turns_sized n)

-- ---- the call. Where many ticks are taken, one is: 4 and 1 are asked of both
one_taken : (sound : Bool) (size n : ℕ) → is_refused (of_ticks sound size n) ≡ false → is_refused (of_byte sound size) ≡ false
unfolding of_ticks of_byte
one_taken sound size n h = by sound (ltb size room) (ltb most_ticks n) h
  where
    by :
        (s short many : Bool)
        → is_refused (if s then if short then Some ShortBuffer else if many then Some TooManyTicks else None else Some Unsound) ≡ false
        → is_refused (if s then if short then Some ShortBuffer else None else Some Unsound) ≡ false
    by true true many e = e
    by true false many e = refl
    by false short many e = e

module _ (p : Pump) (n : ℕ) (buffer : List ℕ) where
  abbrev refusal : Option Refusal
  refusal = of_ticks (is_sound_pump p) (length buffer) n

  abbrev reports : Option Refusal → Bool → Report
  reports x t = if t then refused p x else (in_turn n p buffer).report

  pub few_done : (ticks_call p n buffer).ticks ≤ n
  unfolding ticks_call
  few_done = by refusal (is_refused refusal)
    where
      by : (x : Option Refusal) (t : Bool) → (reports x t).ticks ≤ n
      by x true = omega arith
      by x false = turns_few p buffer n

  pub sent_sized : (ticks_call p n buffer).length ≤ 24
  unfolding ticks_call
  sent_sized = by refusal (is_refused refusal)
    where
      by : (x : Option Refusal) (t : Bool) → (reports x t).length ≤ 24
      by x true = omega arith
      by x false = turns_sized p buffer n

  pub some_done : 1 ≤ n → is_refused (ticks_call p n buffer).refusal ≡ false → 1 ≤ (ticks_call p n buffer).ticks
  unfolding ticks_call
  some_done some taken = by refusal (is_refused refusal) refl (one_taken (is_sound_pump p) (length buffer) n) taken
    where
      by :
          (x : Option Refusal) (t : Bool)
          → is_refused x ≡ t
          → (is_refused x ≡ false → is_refused (of_byte (is_sound_pump p) (length buffer)) ≡ false)
          → is_refused (reports x t).refusal ≡ false
          → 1 ≤ (reports x t).ticks
      by x true e one h = false_true (sym h ∙ e)
      by x false e one h = first n some
        where
          first : (m : ℕ) → 1 ≤ m → 1 ≤ (in_turn m p buffer).report.ticks
          first zero none = absurd (omega arith)
          first (suc m) k = turns_some p buffer (one e) m
