-- The answer to a byte: none, or one with STX and ETX, a line or a packet, that the buffer holds.
-- Assumes nothing.
use Rattle.std.specs.Prelude.{if◌then◌else◌, Option}
use Prim.Native.Nat.{ℕ, ◌≤◌}
use mathlib.Core.Path.{◌≡◌, refl}
use mathlib.Core.Logic.{◌⊎◌, inl, inr, ⊎_elim}
use mathlib.Core.Bool.{Bool, true, false}
use native.Mathlib.Omega.{arith}
use lib.ListN.{length}
use Rattle.answer.specs.Answers.{answer_of, length_in}
use Rattle.answer.specs.declared.frame.Frame.{Frame}
use Rattle.answer.proofs.Lengths.{alarm_around, answer_around}
use Rattle.answer.proofs.Theorems.{answer_length}
use Rattle.words.specs.declared.answers.Said.{Said}
use Rattle.words.specs.declared.answers.Said.TheVariants as said
use Rattle.pump.specs.Calls.{byte_report, hear, frame_of, answered, received}
use Rattle.pump.specs.Holder.{is_sound_pump}
use Rattle.pump.specs.Reports.{of_byte, is_refused, refused}
use Rattle.pump.specs.declared.calls.Listened.{Listened}
use Rattle.pump.specs.declared.holder.Pump.{Pump}
use Rattle.pump.specs.declared.reports.Report.{Report}
use Rattle.pump.specs.declared.reports.Refusal.{Refusal}
use Rattle.player.specs.Elapsing.{zeros}

-- the lengths that an answer can have
abbrev pub Sized : ℕ → Type 0
Sized n = (n ≡ 0) ⊎ ((2 ≤ n) × (n ≤ 24))

answer_sized : (f : Frame) (s : Said) → Sized (length (answer_of f 0 s))
answer_sized f said.Nothing = inl refl
answer_sized f (said.Alarm a) = inr (omega (arith, alarm_around f 0 a), answer_length f 0 (said.Alarm a))
answer_sized f (said.Answer status r) = inr (omega (arith, answer_around f 0 status r), answer_length f 0 (said.Answer status r))

heard_sized : (f : Frame) (l : Listened) → Sized (answered l.pump f l.said zeros).length
unfolding length_in
heard_sized f l = answer_sized f l.said

pub byte_sized : (p : Pump) (b : ℕ) → Sized (byte_report p b zeros).length
unfolding byte_report
byte_sized p b = go (of_byte (is_sound_pump p) (length zeros))
  where
    by : (refusal : Option Refusal) (t : Bool) → Sized (if t then refused p refusal else received p b zeros).length
    by refusal true = inl refl
    by refusal false = heard_sized (frame_of p) (hear p b)

    go : (refusal : Option Refusal) → Sized (if is_refused refusal then refused p refusal else received p b zeros).length
    go refusal = by refusal (is_refused refusal)

pub sized : (p : Pump) (b : ℕ) (r : Report) → r ≡ byte_report p b zeros → Sized r.length
sized p b r e = rw e (byte_sized p b)

pub few_sized : (n : ℕ) → Sized n → n ≤ 24
few_sized n s = ⊎_elim (λ z. omega arith) (λ h. h.1) s
