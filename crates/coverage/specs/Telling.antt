-- What is read off the events of a history alone: the steps that their reports tell, the lines that their answers are printed as, whether
-- a call was refused; and, with the items of an input, all that is printed for it.   (01, Marked figures: the bench program; Calls;
-- 02, 1/12)
use Rattle.std.specs.Prelude.{ℕ, ◌+◌, Bool, false, ◌||◌, List, [], ◌∷◌, ◌++◌, length, take, drop, if◌then◌else◌}
use Rattle.drive.specs.declared.directions.Direction.{Direction}
use Rattle.drive.specs.declared.directions.Direction.TheVariants.{Infuse, Withdraw}
use Rattle.pump.specs.Reports.{is_refused}
use Rattle.script.specs.Items.{Item, say, level, elapse, no_item, item_of}
use Rattle.player.specs.Effects.{or_empty_line}
use Rattle.player.specs.Printing.{complaint_line, counts_line}
use Rattle.player.specs.Rigs.{answer_line}
use Rattle.pump.specs.declared.holder.Pump.{Pump}
use Rattle.statement.specs.Histories.{Event, after}
use Rattle.condition3.specs.Books.{told}
use Rattle.coverage.specs.Calls.{calls_of}

-- ---- the sum of the steps that all the reports tell in a direction
unfoldable pub steps_told : Direction → List Event → ℕ
steps_told d [] = 0
steps_told d (e ∷ es) = told d e + steps_told d es

-- ---- what is printed for bytes: of each call the line of its answer, by its report and the buffer behind it
unfoldable pub answers_in : List Event → List ℕ
answers_in [] = []
answers_in (e ∷ es) = answer_line e.report e.buffer ++ answers_in es

-- ---- whether a call among them was refused
unfoldable pub some_refused : List Event → Bool
some_refused [] = false
some_refused (e ∷ es) = is_refused e.report.refusal || some_refused es

-- ---- what an item prints, by the events of its calls: answers, or an empty line where there is none; nothing for a pin; for
-- ---- ticks the sums of the steps that their calls tell; and `!` for a refused call and for a line that is no item
unfoldable pub item_told : Item → List Event → List ℕ
item_told (say s) es = or_empty_line (answers_in es)
item_told (level pin high) es = if some_refused es then complaint_line else []
item_told (elapse n) es = if some_refused es then complaint_line else counts_line n (steps_told Infuse es) (steps_told Withdraw es)
item_told no_item es = complaint_line

-- ---- line by line, from a pump: the first events, as many as the item has calls, are those of the first line
unfoldable pub lines_told : Pump → List (List ℕ) → List Event → List ℕ
lines_told p [] es = []
lines_told p (line ∷ lines) es =
    let calls = calls_of p (item_of line) in
    item_told (item_of line) (take (length calls) es) ++ lines_told (after p calls) lines (drop (length calls) es)
