-- How many bytes each part of an answer has.
-- Assumes nothing.
use Rattle.std.specs.Prelude.{if◌then◌else◌}
use Prim.Native.Nat.{ℕ, ◌+◌, ◌≤◌}
use mathlib.Core.Path.{◌≡◌, refl}
use mathlib.Core.Bool.{Bool, true, false, ◌||◌}
use mathlib.Core.List.{List, [], ◌∷◌}
use native.Mathlib.Omega.{arith}
use lib.Dec.{eqb}
use lib.ListN.{length, length-append}
use Rattle.decimal.specs.Print.{last_digit, print_two, print_tenths}
use Rattle.decimal.proofs.Theorems.{printed_length, two_length, three_length, tenths_length}
use Rattle.drive.specs.declared.rates.RateUnit.{RateUnit}
use Rattle.drive.specs.declared.rates.RateUnit.TheVariants.{Um, Mm, Uh, Mh}
use Rattle.drive.specs.declared.syringe.VolumeUnit.{VolumeUnit}
use Rattle.drive.specs.declared.syringe.VolumeUnit.TheVariants.{Microlitre, Millilitre}
use Rattle.drive.specs.declared.directions.Direction.{Direction}
use Rattle.drive.specs.declared.directions.Direction.TheVariants.{Infuse, Withdraw}
use Rattle.words.specs.Functions.{number, datum, takes_phase, takes_count, is_out}
use Rattle.words.specs.Spelling.{datum_text, rate_letters, volume_letters, direction_letters}
use Rattle.packet.specs.Packets.{check_bytes, packet_of}
use Rattle.words.specs.declared.answers.Alarm.{Alarm}
use Rattle.words.specs.declared.answers.Reply.{Reply}
use Rattle.words.specs.declared.answers.Reply.TheVariants as r
use Rattle.words.specs.declared.answers.Said.{Said}
use Rattle.words.specs.declared.answers.Said.TheVariants as said
use Rattle.words.specs.declared.answers.Status.{Status}
use Rattle.words.specs.declared.functions.Function.{Function}
use Rattle.answer.specs.Answers.{body_of, text_of, framed_as, answer_of}
use Rattle.answer.specs.Replies.{totals_text, data_of}
use Rattle.answer.specs.declared.frame.Frame.{Frame}
use Rattle.answer.specs.declared.frame.Frame.TheVariants as frame
use Rattle.answer.proofs.Functions.{name_length}

pub rate_unit_length : (unit : RateUnit) → length (rate_letters unit) ≡ 2
rate_unit_length Um = refl
rate_unit_length Mm = refl
rate_unit_length Uh = refl
rate_unit_length Mh = refl

pub volume_unit_length : (unit : VolumeUnit) → length (volume_letters unit) ≡ 2
volume_unit_length Microlitre = refl
volume_unit_length Millilitre = refl

pub direction_length : (d : Direction) → length (direction_letters d) ≡ 3
direction_length Infuse = refl
direction_length Withdraw = refl

datum_choice :
    (tenths two one : Bool) (n : ℕ)
    → length (if tenths then print_tenths n else if two then print_two n else if one then last_digit n ∷ [] else []) ≤ 3
datum_choice true two one n = omega (arith, tenths_length n)
datum_choice false true one n = omega (arith, two_length n)
datum_choice false false true n = omega arith
datum_choice false false false n = omega arith

pub datum_length : (g : Function) → length (datum_text g) ≤ 3
datum_length g = datum_choice (eqb (number g) 9) (takes_phase g || takes_count g || eqb (number g) 8) (is_out g) (datum g)

pub totals_length : (x y : ℕ) (unit : VolumeUnit) → length (totals_text x y unit) ≡ 14
totals_length x y unit = simp (length-append, printed_length, volume_unit_length)

-- the longest are the two totals
pub data_length : (reply : Reply) → length (data_of reply) ≤ 14
data_length r.Status = omega arith
data_length r.Malformed = omega arith
data_length r.NotApplicable = omega arith
data_length r.OutOfRange = omega arith
data_length r.Garbled = omega arith
data_length (r.Number x) = omega (arith, printed_length x)
data_length (r.Rate x unit) = simp (length-append, printed_length, rate_unit_length) (omega arith)
data_length (r.Volume x unit) = simp (length-append, printed_length, volume_unit_length) (omega arith)
data_length (r.Direction d) = omega (arith, direction_length d)
data_length (r.Phase n) = omega (arith, two_length n)
data_length (r.Limit n) = omega (arith, three_length n)
data_length (r.Function g) = simp length-append (omega (arith, name_length g, datum_length g))
data_length (r.Totals x y unit) = omega (arith, totals_length x y unit)

pub body_length : (said : Said) → length (body_of said) ≤ 15
body_length said.Nothing = omega arith
body_length (said.Alarm alarm) = omega arith
body_length (said.Answer status reply) = omega (arith, data_length reply)

-- the address in front of it
pub text_length : (address : ℕ) (said : Said) → length (text_of address said) ≡ 2 + length (body_of said)
unfolding text_of
text_length address said = simp (length-append, two_length)

-- what stands around the text: STX and ETX; in a packet also the length and two check bytes   (02, 2/12)
abbrev pub around : Frame → ℕ
around frame.Line = 2
around frame.Packet = 5

pub framed_length : (frame : Frame) (s : List ℕ) → length (framed_as frame s) ≡ around frame + length s
unfolding packet_of check_bytes
framed_length frame.Line s = simp length-append (omega arith)
framed_length frame.Packet s = simp length-append (omega arith)

module _ (frame : Frame) (address : ℕ) where
  pub alarm_around : (alarm : Alarm) → length (answer_of frame address (said.Alarm alarm)) ≡ around frame + 5
  alarm_around alarm =
      let s = text_of address (said.Alarm alarm) in
      omega (arith, framed_length frame s, text_length address (said.Alarm alarm))

  -- the address and the letter stand in front of the data
  pub answer_around :
      (status : Status) (reply : Reply)
      → length (answer_of frame address (said.Answer status reply)) ≡ around frame + (3 + length (data_of reply))
  answer_around status reply =
      let s = text_of address (said.Answer status reply) in
      omega (arith, framed_length frame s, text_length address (said.Answer status reply))
