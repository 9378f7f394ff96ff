-- What is sent to the pump: lines and packets, a byte a call; and ticks.   (01, Calls; Line and answer; Marked figures: the bench program;
-- 02, 2/12)
use Rattle.std.specs.Prelude.{ℕ, List, [], ◌∷◌, ◌++◌, replicate}
use Prim.Native.String.{String}
use Rattle.base.specs.Text.{text}
use Rattle.packet.specs.Packets.{packet_of}
use Rattle.answer.specs.Answers.{room}
use Rattle.statement.specs.Histories.{Call, byte_in, tick_in, single_ticks}

-- a buffer that has just room for an answer
abbrev pub blank_buffer : List ℕ
blank_buffer = replicate room 0

-- bytes, one after the other
abbrev pub bytes_in : List ℕ → List Call
bytes_in [] = []
bytes_in (b ∷ s) = byte_in b blank_buffer ∷ bytes_in s

-- a text, and the return that ends the line
abbrev pub line : String → List Call
line t = bytes_in (text t ++ 13 ∷ [])

-- one line after the other
abbrev pub lines : List String → List Call
lines [] = []
lines (t ∷ ts) = line t ++ lines ts

-- a text as the data of a packet, and one packet after the other
abbrev pub packet : String → List Call
packet t = bytes_in (packet_of (text t))

abbrev pub packets : List String → List Call
packets [] = []
packets (t ∷ ts) = packet t ++ packets ts

-- a tick, and n of them
abbrev pub one_tick : Call
one_tick = tick_in blank_buffer

abbrev pub ticks_of : ℕ → List Call
ticks_of n = single_ticks n blank_buffer
