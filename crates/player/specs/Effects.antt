-- What the items of a script do to the pump and print: all that the program prints for an input.   (01, Marked figures: the bench
-- program; docs/DECISIONS.md, 29 to 31)
use Rattle.std.specs.Prelude.{ℕ, List, [], ◌∷◌, ◌++◌, if◌then◌else◌}
use Rattle.pump.specs.Calls.{pin_call}
use Rattle.pump.specs.Holder.{model_phases, fresh_pump}
use Rattle.pump.specs.Reports.{is_refused}
use Rattle.pump.specs.declared.holder.Pump.{Pump}
use Rattle.script.specs.Items.{Item, say, level, elapse, no_item, lines_of, item_of}
use Rattle.script.specs.Places.{carriage_return, newline}
use Rattle.player.specs.Elapsing.{elapsed}
use Rattle.player.specs.Printing.{complaint_line, counts_line}
use Rattle.player.specs.Rigs.{report_on, buffer_on, answer_line}

-- ---- bytes sent to the pump, one after the other: each answer is a line, and so is the `!` of a refused call
unfoldable pub pump_sent : Pump → List ℕ → Pump
pump_sent p [] = p
pump_sent p (b ∷ s) = pump_sent (report_on p b).pump s

unfoldable pub answers : Pump → List ℕ → List ℕ
answers p [] = []
answers p (b ∷ s) = answer_line (report_on p b) (buffer_on p b) ++ answers (report_on p b).pump s

-- an empty line if no answer
abbrev pub or_empty_line : List ℕ → List ℕ
or_empty_line [] = newline ∷ []
or_empty_line (b ∷ s) = b ∷ s

-- ---- what an item does: a text is sent with a return, a pin is set, ticks are run unless they are refused
abbrev pub pump_after : Pump → Item → Pump
pump_after p (say s) = pump_sent p (s ++ (carriage_return ∷ []))
pump_after p (level pin high) = (pin_call p pin high).pump
pump_after p (elapse n) = (elapsed n p).pump
pump_after p no_item = p

-- ---- and what it prints
abbrev pub item_lines : Pump → Item → List ℕ
item_lines p (say s) = or_empty_line (answers p (s ++ (carriage_return ∷ [])))
item_lines p (level pin high) = if is_refused (pin_call p pin high).refusal then complaint_line else []
item_lines p (elapse n) =
    if (elapsed n p).refused then complaint_line else counts_line n (elapsed n p).infused (elapsed n p).withdrawn
item_lines p no_item = complaint_line

-- ---- line by line: all that is printed, and the pump behind the last line
unfoldable pub all_lines : Pump → List (List ℕ) → List ℕ
all_lines p [] = []
all_lines p (line ∷ lines) = item_lines p (item_of line) ++ all_lines (pump_after p (item_of line)) lines

unfoldable pub pump_behind : Pump → List (List ℕ) → Pump
pump_behind p [] = p
pump_behind p (line ∷ lines) = pump_behind (pump_after p (item_of line)) lines

-- ---- all that the program prints for an input
unfoldable pub script_of : List ℕ → List ℕ
script_of s = all_lines (fresh_pump model_phases) (lines_of s)
