-- The line under way: how characters are collected, which lines a sound pump may hold, whose address a line bears and what it asks
-- for.   (01, Line and answer; Calls)
use Rattle.std.specs.Prelude.{ℕ, ◌+◌, Bool, true, false, ◌&&◌, ◌||◌, not, List, [], ◌∷◌, leb, ltb, take, set, replicate, if◌then◌else◌}
use Rattle.line.specs.Characters.{arrival_of, can_stand}
use Rattle.line.specs.Addresses.{address_of, unaddressed}
use Rattle.line.specs.Commands.{command_of}
use Rattle.line.specs.declared.arriving.Arrival.{Arrival}
use Rattle.line.specs.declared.arriving.Arrival.TheVariants.{End, Dropped, Kept}
use Rattle.line.specs.declared.lines.Line.{Line}
use Rattle.line.specs.declared.lines.Arrived.{Arrived}
use Rattle.words.specs.declared.commands.Command.{Command}
use Rattle.words.specs.declared.commands.Command.TheVariants.{Malformed}

-- no character, zeros in every place
abbrev pub empty_line : Line
empty_line = record { bytes = replicate 40 0; len = 0; overlong = false }

-- one more is kept, in the next place
abbrev pub kept : Line → ℕ → Line
kept l c = record { bytes = set l.bytes l.len c; len = l.len + 1; overlong = l.overlong }

-- one too many
abbrev pub over_long : Line → Line
over_long l = record { bytes = l.bytes; len = l.len; overlong = true }

-- up to 40 characters are kept; a longer line is over-long
unfoldable pub with_character : Line → ℕ → Line
with_character l c = if ltb l.len 40 then kept l c else over_long l

-- one byte more
abbrev pub after_arrival : Line → Arrival → Arrived
after_arrival l End = record { line = l; ended = true }
after_arrival l Dropped = record { line = l; ended = false }
after_arrival l (Kept c) = record { line = with_character l c; ended = false }

unfoldable pub after_byte : Line → ℕ → Arrived
after_byte l b = after_arrival l (arrival_of b)

-- the characters that are kept
abbrev pub line_text : Line → List ℕ
line_text l = take l.len l.bytes

-- each character is one that a line can hold
unfoldable pub all_stand : List ℕ → Bool
all_stand [] = true
all_stand (c ∷ s) = can_stand c && all_stand s

-- at most 40 characters, over-long only with 40, each character one that a line can hold
unfoldable pub is_sound_line : Line → Bool
is_sound_line l = leb l.len 40 && (not l.overlong || leb 40 l.len) && all_stand (line_text l)

-- the address that a line bears
unfoldable pub address_in : Line → ℕ
address_in l = address_of (line_text l)

-- what it asks for behind its address; an over-long line is malformed
unfoldable pub command_in : Line → Command
command_in l = if l.overlong then Malformed else command_of (unaddressed (line_text l))
