-- What bytes are to the observer: a packet with its bytes since STX, the data in it and in an answer, and what stands behind an address.
-- (01, Line and answer; 02, 2/12)
use Rattle.std.specs.Prelude.{if◌then◌else◌, ℕ, ◌-◌, Bool, true, false, ◌&&◌, ◌||◌, leb, eqb, List, [], ◌∷◌, ◌++◌, length, take, drop}

-- ---- the packet under way: STX, 2, begins one, and other bytes outside are ignored; it is over where it is answered, wrong, or good and
-- ours; and where as many bytes as its first one says came since STX, good, to another address
pub data Packet : Type 0 where
  outside : Packet
  inside : List ℕ → Packet

abbrev pub has_all : List ℕ → Bool
has_all [] = false
has_all (n ∷ s) = eqb (length (n ∷ s)) n

abbrev pub packet_by : Packet → Bool → ℕ → Packet
packet_by outside answered b = if eqb b 2 then inside [] else outside
packet_by (inside s) answered b = if answered || has_all (s ++ b ∷ []) then outside else inside (s ++ b ∷ [])

-- its data, where ETX alone is missing: behind the length, before two check bytes
abbrev pub packet_data : Packet → List ℕ
packet_data outside = []
packet_data (inside s) = take (length s - 3) (drop 1 s)

-- ---- the data of an answer: in Basic mode what is between STX and ETX, in Safe mode between STX, length and two check bytes, ETX
abbrev pub data_in : Bool → List ℕ → List ℕ
data_in true s = take (length s - 5) (drop 2 s)
data_in false s = take (length s - 2) (drop 1 s)

-- ---- up to two leading digits of a command are an address: past the first of them
abbrev pub past_digit : List ℕ → List ℕ
past_digit [] = []
past_digit (c ∷ s) = if leb 48 c && leb c 57 then s else c ∷ s
