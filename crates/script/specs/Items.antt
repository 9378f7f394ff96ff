-- What an input says: its lines, and the item of each. What the items do to the pump and print stands in player/specs/Effects.antt.
-- (01, Marked figures: the bench program; docs/DECISIONS.md, 29 to 31)
use Rattle.std.specs.Prelude.{ℕ, ◌+◌, ◌*◌, ◌-◌, Bool, true, false, ◌&&◌, List, [], ◌∷◌, eqb, leb, if◌then◌else◌}
use Rattle.base.specs.Text.{letter}
use Rattle.decimal.specs.Read.{is_digit}
use Rattle.script.specs.Places.{carriage_return, newline}

-- ---- the lines of an input
abbrev pub at_newline : List ℕ → Bool
at_newline [] = false
at_newline (b ∷ s) = eqb b newline

-- one byte more in front of the first line
abbrev pub in_front : ℕ → List (List ℕ) → List (List ℕ)
in_front b [] = (b ∷ []) ∷ []
in_front b (line ∷ lines) = (b ∷ line) ∷ lines

-- a newline ends a line, a return just before it belongs to the line's end, and a last line without a newline counts
unfoldable pub lines_of : List ℕ → List (List ℕ)
lines_of [] = []
lines_of (b ∷ s) =
    if eqb b newline
    then [] ∷ lines_of s
    else if eqb b carriage_return && at_newline s then lines_of s else in_front b (lines_of s)

-- ---- numbers: one or more plain digits
abbrev pub only_digits : List ℕ → Bool
only_digits [] = true
only_digits (b ∷ s) = is_digit b && only_digits s

abbrev pub is_number : List ℕ → Bool
is_number [] = false
is_number (b ∷ s) = is_digit b && only_digits s

-- n with these digits written behind it
abbrev pub value_from : ℕ → List ℕ → ℕ
value_from n [] = n
value_from n (b ∷ s) = value_from (n * 10 + (b - 48)) s

abbrev pub value_of : List ℕ → ℕ
value_of s = value_from 0 s

-- ---- the parts of a line: what stands before its first blank, and what stands behind it
abbrev pub up_to_blank : List ℕ → List ℕ
up_to_blank [] = []
up_to_blank (b ∷ s) = if eqb b (letter " ") then [] else b ∷ up_to_blank s

abbrev pub past_blank : List ℕ → List ℕ
past_blank [] = []
past_blank (b ∷ s) = if eqb b (letter " ") then s else past_blank s

-- ---- the item of a line
pub data Item : Type 0 where
  say : List ℕ → Item
  level : ℕ → ℕ → Item
  elapse : ℕ → Item
  no_item : Item

-- `T n` (1 to 10,000,000)
unfoldable pub ticks_item : List ℕ → Item
ticks_item n = if is_number n && leb 1 (value_of n) && leb (value_of n) 10_000_000 then elapse (value_of n) else no_item

-- `E pin level`: the call takes a byte for each, and refuses what is no pin and no level
unfoldable pub level_item : List ℕ → List ℕ → Item
level_item pin high =
    if is_number pin && is_number high && leb (value_of pin) 255 && leb (value_of high) 255
    then level (value_of pin) (value_of high)
    else no_item

-- behind the letter stands exactly one blank, and one more between a pin and its level
abbrev pub tick_item : List ℕ → Item
tick_item [] = no_item
tick_item (b ∷ s) = if eqb b (letter " ") then ticks_item s else no_item

abbrev pub edge_item : List ℕ → Item
edge_item [] = no_item
edge_item (b ∷ s) = if eqb b (letter " ") then level_item (up_to_blank s) (past_blank s) else no_item

-- `>` and a text, whatever it holds; any other line, an empty one too, is none
unfoldable pub item_of : List ℕ → Item
item_of [] = no_item
item_of (b ∷ s) =
    if eqb b (letter ">")
    then say s
    else if eqb b (letter "T") then tick_item s else if eqb b (letter "E") then edge_item s else no_item
