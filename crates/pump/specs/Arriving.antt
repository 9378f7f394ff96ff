-- A byte, before what it brought is heard: what it makes of the line or, in Safe mode, of the packet under way.   (01, Line and answer;
-- 02, 2/12)
use Rattle.std.specs.Prelude.{ℕ, Bool, true, false, take, if◌then◌else◌}
use Rattle.line.specs.Lines.{empty_line, after_byte}
use Rattle.line.specs.Requests.{asked_in, asked_of}
use Rattle.line.specs.declared.lines.Arrived.{Arrived}
use Rattle.packet.specs.declared.receiver.Outcome.{Outcome}
use Rattle.packet.specs.declared.receiver.Outcome.TheVariants as packet
use Rattle.link.specs.Link.{is_safe, link_after, cleared_link}
use Rattle.link.specs.declared.Link.{Link}
use Rattle.pump.specs.Device.{with_line, with_link}
use Rattle.pump.specs.declared.arriving.Arrival.{Arrival}
use Rattle.pump.specs.declared.arriving.Brought.{Brought}
use Rattle.pump.specs.declared.arriving.Brought.TheVariants.{Nothing, Wrong, Text}
use Rattle.pump.specs.declared.device.Device.{Device}

-- ---- Basic mode: a byte goes to the line; a line that it ends is read, and emptied whatever it asks for
abbrev pub line_arrival : Device → Arrived → Arrival
line_arrival v a =
    if a.ended
    then record { device = with_line v empty_line; brought = Text (asked_in a.line) }
    else record { device = with_line v a.line; brought = Nothing }

-- ---- Safe mode: a byte goes to the packet under way, if there is one; the data of a good one are read, and put away   (02, 2/12)
abbrev pub packet_arrival : Device → Link → Outcome → Arrival
packet_arrival v l packet.Nothing = record { device = with_link v l; brought = Nothing }
packet_arrival v l packet.Wrong = record { device = with_link v l; brought = Wrong }
packet_arrival v l (packet.Good n) = record { device = with_link v (cleared_link l); brought = Text (asked_of (take n l.bytes)) }

-- how many data a good packet has
abbrev pub data_in : Outcome → ℕ
data_in packet.Nothing = 0
data_in packet.Wrong = 0
data_in (packet.Good n) = n

unfoldable pub arrival : Device → ℕ → Arrival
arrival v b =
    if is_safe v.link
    then packet_arrival v (link_after v.link b).link (link_after v.link b).outcome
    else line_arrival v (after_byte v.line b)

-- ---- whether there is something to be heard
abbrev pub is_whole : Brought → Bool
is_whole Nothing = false
is_whole Wrong = true
is_whole (Text asked) = true
