-- Inputs and their lines, lines and their items, computed from the definitions.   (01, Marked figures: the bench program;
-- docs/DECISIONS.md, 29 to 31)
use Prim.Native.Nat.{ℕ}
use mathlib.Core.Path.{refl}
use mathlib.Core.List.{List, [], ◌∷◌, ◌++◌}
use Rattle.base.specs.Rows.{Gives}
use Rattle.base.specs.Text.{text}
use Rattle.decimal.specs.Read.{is_digit}
use Rattle.script.specs.Items.{lines_of, Item, say, level, elapse, no_item, ticks_item, level_item, item_of}

-- ---- a newline is 10, a return 13
abbrev inputs : List (List ℕ × List (List ℕ))
inputs =
    ([], [])
    ∷ (text "T 1" ++ (10 ∷ text "E 2 0"), text "T 1" ∷ text "E 2 0" ∷ [])
    ∷ (text "T 1" ++ (10 ∷ 10 ∷ []), text "T 1" ∷ [] ∷ [])
    ∷ (text "T 1" ++ (13 ∷ 10 ∷ []), text "T 1" ∷ [])
    ∷ (text "T 1" ++ (13 ∷ 13 ∷ 10 ∷ []), (text "T 1" ++ (13 ∷ [])) ∷ [])
    ∷ (text ">" ++ (13 ∷ text "DIA"), (text ">" ++ (13 ∷ text "DIA")) ∷ [])
    ∷ (text "T 1" ++ (13 ∷ []), (text "T 1" ++ (13 ∷ [])) ∷ [])
    ∷ []

pub inputs_as_decided : Gives lines_of inputs
unfolding lines_of
inputs_as_decided = refl

abbrev rows : List (List ℕ × Item)
rows =
    (text ">RAT 200.0 MH", say (text "RAT 200.0 MH"))
    ∷ (text ">", say [])
    ∷ (text "T 19", elapse 19)
    ∷ (text "T 007", elapse 7)
    ∷ (text "T 10000000", elapse 10_000_000)
    ∷ (text "T 10000001", no_item)
    ∷ (text "T 99999999999999999999", no_item)
    ∷ (text "T 0", no_item)
    ∷ (text "T ", no_item)
    ∷ (text "T  1", no_item)
    ∷ (text "T 1 ", no_item)
    ∷ (text "T 1" ++ (13 ∷ []), no_item)
    ∷ (text "E 2 0", level 2 0)
    ∷ (text "E 02 001", level 2 1)
    ∷ (text "E 3 7", level 3 7)
    ∷ (text "E 2 ", no_item)
    ∷ (text "E  0", no_item)
    ∷ (text "E 2  0", no_item)
    ∷ (text "E 258 0", no_item)
    ∷ (text "", no_item)
    ∷ (text "t 1", no_item)
    ∷ []

pub as_the_document : Gives item_of rows
unfolding item_of ticks_item level_item is_digit
as_the_document = refl
