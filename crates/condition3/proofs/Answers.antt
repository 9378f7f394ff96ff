-- What the observer reads off an answer that a call wrote, as a line or as a packet: the text in it, whichever frame that has.
-- Assumes nothing.
use Rattle.std.specs.Prelude.{if◌then◌else◌}
use Prim.Native.Nat.{ℕ, ◌-◌, ◌≤◌}
use mathlib.Core.Path.{◌≡◌, refl, ap, ap₂, ◌∙◌}
use mathlib.Core.Bool.{Bool, true, false, ◌&&◌}
use mathlib.Core.List.{List, [], ◌∷◌, ◌++◌, append_assoc}
use native.Mathlib.Omega.{arith}
use lib.Dec.{eqb}
use lib.ListN.{length, take, drop}
use lib.Seq.{take_at}
use borrow.Author.Tests.{le-leb}
use Rattle.base.specs.Text.{text}
use Rattle.base.proofs.Choices.{false_true}
use Rattle.decimal.specs.Print.{print_two, last_digit}
use Rattle.words.specs.declared.answers.Alarm.{Alarm}
use Rattle.words.specs.declared.answers.Alarm.TheVariants.{TimeOut}
use Rattle.words.specs.declared.answers.Reply.{Reply}
use Rattle.words.specs.declared.answers.Reply.TheVariants as reply
use Rattle.words.specs.declared.answers.Said.{Said}
use Rattle.words.specs.declared.answers.Said.TheVariants as said
use Rattle.words.specs.declared.answers.Status.{Status}
use Rattle.packet.specs.Packets.{packet_of, check_bytes}
use Rattle.line.specs.Spelling.{leads, is_text}
use Rattle.answer.specs.Answers.{room, text_of, framed_as, answer_of, length_in, buffer_after}
use Rattle.answer.specs.declared.frame.Frame.{Frame}
use Rattle.answer.specs.declared.frame.Frame.TheVariants as frame
use Rattle.answer.proofs.Lengths.{framed_length}
use Rattle.statement.specs.Histories.{Event}
use Rattle.condition3.specs.Books.{view_of, is_safe, data_in, answer_data, is_obeyed, timed_out}
use Rattle.condition3.proofs.Obeying.{is_error}

-- ---- the text of what is said; where nothing is, none
abbrev pub words_of : Said → List ℕ
words_of said.Nothing = []
words_of (said.Alarm a) = text_of 0 (said.Alarm a)
words_of (said.Answer s r) = text_of 0 (said.Answer s r)

abbrev pub is_packet : Frame → Bool
is_packet frame.Line = false
is_packet frame.Packet = true

unframed : (f : Frame) (s : List ℕ) → data_in (is_packet f) (framed_as f s) ≡ s
unfolding packet_of check_bytes
unframed frame.Line s =
    let n : length s ≡ length (framed_as frame.Line s) - 2 = omega (arith, framed_length frame.Line s) in
    take_at s (3 ∷ []) _ n
unframed frame.Packet s =
    let n : length s ≡ length (framed_as frame.Packet s) - 5 = omega (arith, framed_length frame.Packet s) in
    ap (take (length (framed_as frame.Packet s) - 5)) (append_assoc s (check_bytes s) (3 ∷ []))
    ∙ take_at s (check_bytes s ++ (3 ∷ [])) _ n

pub unframed_words : (f : Frame) (s : Said) → data_in (is_packet f) (answer_of f 0 s) ≡ words_of s
unframed_words frame.Line said.Nothing = refl
unframed_words frame.Packet said.Nothing = refl
unframed_words f (said.Alarm a) = unframed f (text_of 0 (said.Alarm a))
unframed_words f (said.Answer x r) = unframed f (text_of 0 (said.Answer x r))

-- ---- the answer is in the buffer
module _ (f : Frame) (s : Said) (buffer : List ℕ) (roomy : room ≤ length buffer) where
  pub told_length : length_in f 0 s buffer ≡ length (answer_of f 0 s)
  unfolding length_in
  told_length = ap (λ (t : Bool). if t then length (answer_of f 0 s) else 0) (le-leb room (length buffer) roomy)

  written : take (length_in f 0 s buffer) (buffer_after f 0 s buffer) ≡ answer_of f 0 s
  unfolding length_in buffer_after
  written =
      let a = answer_of f 0 s in
      ap (λ (t : Bool). take (if t then length a else 0) (if t then a ++ drop (length a) buffer else buffer))
      (le-leb room (length buffer) roomy)
      ∙ take_at a (drop (length a) buffer) (length a) refl

  pub words_read :
      (e : Event)
      → is_safe (view_of e.before) ≡ is_packet f
      → e.report.length ≡ length_in f 0 s buffer
      → e.buffer ≡ buffer_after f 0 s buffer
      → answer_data e ≡ words_of s
  words_read e safe n b =
      ap₂ data_in safe (ap₂ (λ (k : ℕ) (l : List ℕ). take k l) n b ∙ written) ∙ unframed_words f s

-- ---- an answer that tells that a command was obeyed
abbrev pub plain : List ℕ → Bool
plain s = is_text (text "00") (take 2 s) && eqb (length s) 3

pub obeyed_as : (e : Event) (s : List ℕ) → answer_data e ≡ s → is_obeyed e ≡ plain s
unfolding is_obeyed
obeyed_as e s h = ap plain h

pub nothing_plain : plain (words_of said.Nothing) ≡ false
unfolding is_text leads
nothing_plain = refl

pub alarm_plain : (a : Alarm) → plain (words_of (said.Alarm a)) ≡ false
unfolding is_text leads text_of print_two last_digit
alarm_plain a = refl

pub status_plain : (s : Status) → plain (words_of (said.Answer s reply.Status)) ≡ true
unfolding is_text leads text_of print_two last_digit
status_plain s = refl

pub error_plain : (s : Status) (r : Reply) → is_error r ≡ true → plain (words_of (said.Answer s r)) ≡ false
unfolding is_text leads text_of print_two last_digit
error_plain s reply.Status e = false_true e
error_plain s reply.Malformed e = refl
error_plain s reply.NotApplicable e = refl
error_plain s reply.OutOfRange e = refl
error_plain s reply.Garbled e = refl
error_plain s (reply.Number x) e = false_true e
error_plain s (reply.Rate x unit) e = false_true e
error_plain s (reply.Volume x unit) e = false_true e
error_plain s (reply.Direction d) e = false_true e
error_plain s (reply.Phase n) e = false_true e
error_plain s (reply.Limit n) e = false_true e
error_plain s (reply.Function g) e = false_true e
error_plain s (reply.Totals infused withdrawn unit) e = false_true e

-- ---- alarm T
pub time_out_lem : is_text (text "00A?T") (words_of (said.Alarm TimeOut)) ≡ true
unfolding is_text leads text_of print_two last_digit
time_out_lem = refl

pub timed_out_lem : (e : Event) → is_safe (view_of e.before) ≡ true → answer_data e ≡ words_of (said.Alarm TimeOut) → timed_out e ≡ true
unfolding timed_out
timed_out_lem e safe h = ap₂ (λ (t : Bool) (s : List ℕ). t && is_text (text "00A?T") s) safe h ∙ time_out_lem

pub not_timed_out : (e : Event) → answer_data e ≡ [] → timed_out e ≡ false
unfolding timed_out is_text
not_timed_out e h = ap (λ (s : List ℕ). is_safe (view_of e.before) && is_text (text "00A?T") s) h ∙ go (is_safe (view_of e.before))
  where
    go : (t : Bool) → (t && is_text (text "00A?T") []) ≡ false
    go true = refl
    go false = refl
