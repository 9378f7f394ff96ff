-- The calls that the bench program makes for an input, item by item: its history.   (01, Marked figures: the bench program; Calls;
-- 02, 1/12 and 2/12)
use Rattle.std.specs.Prelude.{ℕ, List, [], ◌∷◌, ◌++◌, map}
use Rattle.pump.specs.Holder.{model_phases, fresh_pump}
use Rattle.pump.specs.declared.holder.Pump.{Pump}
use Rattle.script.specs.Items.{Item, say, level, elapse, no_item, lines_of, item_of}
use Rattle.script.specs.Places.{carriage_return, input_end}
use Rattle.player.specs.Elapsing.{zeros, portions}
use Rattle.player.specs.Rigs.{rig_after}
use Rattle.player.specs.Scripts.{fresh_bench, play}
use Rattle.statement.specs.Histories.{Call, pin_at, ticks_in, after}
use Rattle.condition3.specs.Sending.{bytes_in}

-- ---- the calls of an item, made to a pump: `>` and a text sends it with a return, each byte with a buffer of 24 zeros, `E pin level` sets
-- a pin, `T n` runs n ticks, by calls of many ticks, each with such a buffer, until n are done; what is no item, none
abbrev pub ticks_for : ℕ → Call
ticks_for n = ticks_in n zeros

unfoldable pub calls_of : Pump → Item → List Call
calls_of p (say s) = bytes_in (s ++ (carriage_return ∷ []))
calls_of p (level pin high) = pin_at pin high ∷ []
calls_of p (elapse n) = map ticks_for (portions n p)
calls_of p no_item = []

-- ---- line by line: how many calls the ticks take may depend on the pump, since one that sends an alarm ends its call   (02, 2/12)
unfoldable pub calls_by : Pump → List (List ℕ) → List Call
calls_by p [] = []
calls_by p (line ∷ lines) = calls_of p (item_of line) ++ calls_by (after p (calls_of p (item_of line))) lines

-- ---- the calls of a whole input
unfoldable pub calls_in : List ℕ → List Call
calls_in s = calls_by (fresh_pump model_phases) (lines_of s)

-- ---- the pump that the program has at its end: it has played the input byte by byte, and done what the input's end asks for
unfoldable pub pump_left : List ℕ → Pump
pump_left s = (rig_after (play fresh_bench s).rig (input_end (play fresh_bench s).place)).pump
