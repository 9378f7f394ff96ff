-- The whole answer, as a line or as a packet, and the buffer that it is written to.   (01, Line and answer; Calls; 02, 2/12)
use Rattle.std.specs.Prelude.{ℕ, List, [], ◌∷◌, ◌++◌, leb, length, drop, if◌then◌else◌}
use Rattle.base.specs.Text.{text}
use Rattle.decimal.specs.Print.{print_two}
use Rattle.packet.specs.Packets.{packet_of}
use Rattle.words.specs.declared.answers.Said.{Said}
use Rattle.words.specs.declared.answers.Said.TheVariants as said
use Rattle.answer.specs.Letters.{status_letter, alarm_letter}
use Rattle.answer.specs.Replies.{data_of}
use Rattle.answer.specs.declared.frame.Frame.{Frame}
use Rattle.answer.specs.declared.frame.Frame.TheVariants as frame

-- what follows the address: the status letter and the data; an alarm has `A?` and its letter there
abbrev pub body_of : Said → List ℕ
body_of said.Nothing = []
body_of (said.Alarm alarm) = (text "A?") ++ (alarm_letter alarm ∷ [])
body_of (said.Answer status reply) = (status_letter status ∷ []) ++ data_of reply

-- the address as two digits, and what follows it
unfoldable pub text_of : ℕ → Said → List ℕ
text_of address said = print_two address ++ body_of said

-- a line is STX, the text, ETX; in Safe mode the text is the data of a packet   (02, 2/12)
abbrev pub framed_as : Frame → List ℕ → List ℕ
framed_as frame.Line s = (2 ∷ []) ++ s ++ (3 ∷ [])
framed_as frame.Packet s = packet_of s

-- where nothing is said, no byte is sent
abbrev pub answer_of : Frame → ℕ → Said → List ℕ
answer_of frame address said.Nothing = []
answer_of frame address (said.Alarm alarm) = framed_as frame (text_of address (said.Alarm alarm))
answer_of frame address (said.Answer status reply) = framed_as frame (text_of address (said.Answer status reply))

-- a buffer under 24 bytes takes no answer
abbrev pub room : ℕ
room = 24

-- the length that is told
unfoldable pub length_in : Frame → ℕ → Said → List ℕ → ℕ
length_in frame address said buffer = if leb room (length buffer) then length (answer_of frame address said) else 0

-- the whole buffer: the answer, and past it what stood there
unfoldable pub buffer_after : Frame → ℕ → Said → List ℕ → List ℕ
buffer_after frame address said buffer =
    if leb room (length buffer)
    then answer_of frame address said ++ drop (length (answer_of frame address said)) buffer
    else buffer
