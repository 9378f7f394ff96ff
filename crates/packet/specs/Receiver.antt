-- The receiver's struct: one byte more, a tick with no byte, and which states it can be in.   (02, 2/12)
use Rattle.std.specs.Prelude.{ℕ, zero, suc, ◌+◌, ◌-◌, Bool, true, ◌&&◌, List, leb, ltb, eqb, take, set, replicate, if◌then◌else◌}
use Rattle.std.specs.Prelude.{Option, None, Some}
use Rattle.packet.specs.Packets.{stx, etx, is_length, is_check}
use Rattle.packet.specs.declared.receiver.Stage.{Stage}
use Rattle.packet.specs.declared.receiver.Stage.TheVariants.{Length, Data, High, Low, End}
use Rattle.packet.specs.declared.receiver.Part.{Part}
use Rattle.packet.specs.declared.receiver.Receiver.{Receiver}
use Rattle.packet.specs.declared.receiver.Outcome.TheVariants.{Nothing, Wrong, Good}
use Rattle.packet.specs.declared.receiver.Arrived.{Arrived}

-- outside a packet, zeros in every place
abbrev pub outside_receiver : Receiver
outside_receiver = record { bytes = replicate 40 0; part = None }

-- in a packet, with so many ticks since the last byte
abbrev pub waiting : List ℕ → Stage → ℕ → Receiver
waiting bytes stage q = record { bytes = bytes; part = Some (record { stage = stage; quiet = q }) }

-- the byte is taken, and no answer is due
abbrev pub going_on : List ℕ → Stage → Arrived
going_on bytes stage = record { receiver = waiting bytes stage 0; outcome = Nothing }

-- `?COM` is due; what follows is outside
abbrev pub wrong_now : Arrived
wrong_now = record { receiver = outside_receiver; outcome = Wrong }

-- ---- a byte, by what it should be
-- "length is the data count plus four, so 4 to 44": with 4 the check follows, else the data
unfoldable pub length_taken : ℕ → Arrived
length_taken b =
    if is_length b
    then if eqb b 4 then going_on (replicate 40 0) (High 0) else going_on (replicate 40 0) (Data 0 (b - 5))
    else wrong_now

-- one of the data, kept in the next place; behind the last one the check follows
unfoldable pub data_taken : List ℕ → ℕ → ℕ → ℕ → Arrived
data_taken bytes have more b =
    if eqb more 0 then going_on (set bytes have b) (High (have + 1)) else going_on (set bytes have b) (Data (have + 1) (more - 1))

-- "two check bytes with the high one first": wrong at the second, whatever ETX would be
unfoldable pub low_taken : List ℕ → ℕ → ℕ → ℕ → Arrived
low_taken bytes n high b = if is_check (take n bytes) high b then going_on bytes (End n) else wrong_now

-- ETX ends a good packet, and its data stay; any other byte in its place makes it wrong
unfoldable pub end_taken : List ℕ → ℕ → ℕ → Arrived
end_taken bytes n b =
    if eqb b etx then record { receiver = record { bytes = bytes; part = None }; outcome = Good n } else wrong_now

-- outside a packet all but STX is ignored
unfoldable pub begun_by : Receiver → ℕ → Arrived
begun_by r b = if eqb b stx then going_on (replicate 40 0) Length else record { receiver = r; outcome = Nothing }

abbrev pub taken_by : List ℕ → Stage → ℕ → Arrived
taken_by bytes Length b = length_taken b
taken_by bytes (Data have more) b = data_taken bytes have more b
taken_by bytes (High n) b = going_on bytes (Low n b)
taken_by bytes (Low n high) b = low_taken bytes n high b
taken_by bytes (End n) b = end_taken bytes n b

abbrev pub after_in : Receiver → Option Part → ℕ → Arrived
after_in r None b = begun_by r b
after_in r (Some p) b = taken_by r.bytes p.stage b

-- one byte more
unfoldable pub after_byte : Receiver → ℕ → Arrived
after_byte r b = after_in r r.part b

-- ---- "A part packet with no byte for 500 ticks is dropped in silence": the 500th tick drops it
abbrev pub tick_in : Receiver → Option Part → Receiver
tick_in r None = r
tick_in r (Some p) = if ltb (p.quiet + 1) 500 then waiting r.bytes p.stage (p.quiet + 1) else outside_receiver

unfoldable pub tick : Receiver → Receiver
tick r = tick_in r r.part

-- so many ticks with no byte, one after the other
unfoldable pub ticks : ℕ → Receiver → Receiver
ticks zero r = r
ticks (suc n) r = ticks n (tick r)

-- ---- at most 40 data, and fewer than 500 ticks since the last byte; all else is by type
abbrev pub sound_stage : Stage → Bool
sound_stage Length = true
sound_stage (Data have more) = ltb (have + more) 40
sound_stage (High n) = leb n 40
sound_stage (Low n high) = leb n 40
sound_stage (End n) = leb n 40

abbrev pub sound_place : Option Part → Bool
sound_place None = true
sound_place (Some p) = ltb p.quiet 500 && sound_stage p.stage

unfoldable pub sound_receiver : Receiver → Bool
sound_receiver r = sound_place r.part
