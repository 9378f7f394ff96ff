-- What a caller may rely on, whatever the frame, the address, what is said, and the buffer:
--     answer_longest, answer_length    an answer has at most 19 bytes, as a packet 22, and so fits every buffer that takes one
--     answer_least, alarm_length       an answer has at least 5; an alarm 7, as a packet 10
--     written_then_kept    a buffer with room holds the answer, and behind it what stood there
--     length_kept          no buffer changes its length
--     short_untouched      a buffer without room is left as it is, and the told length is 0
-- Assumes nothing.
use Prim.Native.Nat.{ℕ, ◌+◌, ◌≤◌, ◌<◌}
use mathlib.Core.Path.{◌≡◌, refl, sym}
use mathlib.Core.Bool.{Bool, true, false}
use mathlib.Core.List.{List}
use native.Mathlib.Omega.{arith}
use borrow.Author.Tests.{le-leb, leb-true}
use lib.Dec.{leb}
use lib.ListN.{length, take, drop, length-append, length-drop}
use lib.Seq.{take_at, drop_at}
use Rattle.words.specs.declared.answers.Alarm.{Alarm}
use Rattle.words.specs.declared.answers.Reply.{Reply}
use Rattle.words.specs.declared.answers.Said.{Said}
use Rattle.words.specs.declared.answers.Said.TheVariants as said
use Rattle.words.specs.declared.answers.Status.{Status}
use Rattle.answer.specs.Answers.{answer_of, room, length_in, buffer_after}
use Rattle.answer.specs.declared.frame.Frame.{Frame}
use Rattle.answer.specs.declared.frame.Frame.TheVariants as frame
use Rattle.answer.proofs.Lengths.{around, alarm_around, answer_around, data_length}
use Rattle.answer.proofs.Buffers.{untouched}

-- the longest answer is that of DIS
abbrev pub longest : Frame → ℕ
longest frame.Line = 19
longest frame.Packet = 22

longest_around : (frame : Frame) → around frame + 17 ≡ longest frame
longest_around frame.Line = refl
longest_around frame.Packet = refl

around_least : (frame : Frame) → 2 ≤ around frame
around_least frame.Line = omega arith
around_least frame.Packet = omega arith

longest_fits : (frame : Frame) → longest frame ≤ room
longest_fits frame.Line = omega arith
longest_fits frame.Packet = omega arith

module _ (frame : Frame) (address : ℕ) where
  pub answer_least : (status : Status) (reply : Reply) → 5 ≤ length (answer_of frame address (said.Answer status reply))
  answer_least status reply = omega (arith, answer_around frame address status reply, around_least frame)

  pub alarm_length : (alarm : Alarm) → length (answer_of frame address (said.Alarm alarm)) ≡ around frame + 5
  alarm_length alarm = alarm_around frame address alarm

  pub answer_longest : (said : Said) → length (answer_of frame address said) ≤ longest frame
  answer_longest said.Nothing = omega arith
  answer_longest (said.Alarm alarm) = omega (arith, alarm_around frame address alarm, longest_around frame)
  answer_longest (said.Answer status reply) =
      omega (arith, answer_around frame address status reply, data_length reply, longest_around frame)

module _ (frame : Frame) (address : ℕ) (said : Said) where
  pub answer_length : length (answer_of frame address said) ≤ room
  answer_length = omega (arith, answer_longest frame address said, longest_fits frame)

  pub written_then_kept :
      (buffer : List ℕ)
      → room ≤ length buffer
      → (take (length (answer_of frame address said)) (buffer_after frame address said buffer) ≡ answer_of frame address said)
      × (drop (length (answer_of frame address said)) (buffer_after frame address said buffer)
      ≡ drop (length (answer_of frame address said)) buffer)
  unfolding buffer_after
  written_then_kept buffer h =
      let roomy = le-leb room (length buffer) h in
      (simp roomy (take_at (answer_of frame address said) _ _ refl), simp roomy (drop_at (answer_of frame address said) _ _ refl))

  pub length_kept : (buffer : List ℕ) → length (buffer_after frame address said buffer) ≡ length buffer
  unfolding buffer_after
  length_kept buffer = by_room (leb room (length buffer)) refl
    where
      by_room : (t : Bool) → leb room (length buffer) ≡ t → length (buffer_after frame address said buffer) ≡ length buffer
      by_room true e = simp (e, length-append, length-drop) (omega (arith, answer_length, leb-true room (length buffer) e))
      by_room false e = simp e

  pub short_untouched :
      (buffer : List ℕ) → length buffer < room → (buffer_after frame address said buffer ≡ buffer) × (length_in frame address said buffer ≡ 0)
  short_untouched buffer h =
      let met = untouched frame address said buffer h in
      (sym met.1, sym met.0)
