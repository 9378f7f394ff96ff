-- What is done for an input is a history of calls.
--     ticks_history     from any pump: the pump behind n ticks is the one after their calls
--     item_history      so is the pump behind an item the one after its calls
--     lines_history     and the pump behind any lines
--     plays_history     the pump behind a script is the one after the calls of the script, from power-up
--     program_history   and so is the pump that the program leaves, which plays the input byte by byte
--     program_whole     what holds after every history holds of it: it is sound,
--     program_meets     and condition 3 holds of it and of the events of the script, tick by tick   (02, 1/12)
-- Assumes nothing.
use Prim.Native.Nat.{ℕ}
use mathlib.Core.Path.{◌≡◌, refl, sym, ap, subst, ◌∙◌}
use mathlib.Core.List.{List, [], ◌∷◌, map}
use Rattle.pump.specs.Calls.{ticks_call}
use Rattle.pump.specs.Holder.{model_phases, fresh_pump}
use Rattle.pump.specs.declared.holder.Pump.{Pump}
use Rattle.script.specs.Items.{Item, say, level, elapse, no_item, lines_of, item_of}
use Rattle.player.specs.Effects.{pump_sent, pump_after, pump_behind}
use Rattle.player.specs.Elapsing.{zeros, portions, begun, further, after_calls, elapsed}
use Rattle.player.specs.Rigs.{report_on}
use Rattle.player.specs.declared.elapsing.Elapsed.{Elapsed}
use Rattle.player.specs.declared.rigs.Rig.{Rig}
use Rattle.player.proofs.Itemised.{rig_itemised}
use Rattle.statement.specs.Histories.{after, trace, tick_by_tick, Whole}
use Rattle.statement.proofs.Always.{model, whole_after}
use Rattle.statement.proofs.Joining.{after_both}
use Rattle.condition3.specs.Condition.{Condition3}
use Rattle.condition3.specs.Sending.{bytes_in}
use Rattle.condition3.proofs.Theorem.{condition3_here}
use Rattle.coverage.specs.Calls.{ticks_for, calls_of, calls_by, calls_in, pump_left}

-- ---- bytes
pub bytes_history : (p : Pump) (s : List ℕ) → pump_sent p s ≡ after p (bytes_in s)
unfolding pump_sent report_on after
bytes_history p [] = refl
bytes_history p (b ∷ s) = bytes_history (report_on p b).pump s

-- ---- ticks: calls of many, one after the other
calls_history : (t : Elapsed) (ns : List ℕ) → (after_calls t ns).pump ≡ after t.pump (map ticks_for ns)
unfolding after_calls after
calls_history t [] = refl
calls_history t (n ∷ ns) = calls_history (further t (ticks_call t.pump n zeros)) ns

pub ticks_history : (n : ℕ) (p : Pump) → (elapsed n p).pump ≡ after p (map ticks_for (portions n p))
unfolding elapsed
ticks_history n p = calls_history (begun n p) (portions n p)

-- ---- an item
pub item_history : (p : Pump) (i : Item) → pump_after p i ≡ after p (calls_of p i)
unfolding calls_of after
item_history p (say s) = bytes_history p _
item_history p (level pin high) = refl
item_history p (elapse n) = ticks_history n p
item_history p no_item = refl

-- ---- lines, and a whole input
pub lines_history : (p : Pump) (lines : List (List ℕ)) → pump_behind p lines ≡ after p (calls_by p lines)
unfolding pump_behind calls_by after
lines_history p [] = refl
lines_history p (line ∷ lines) =
    let i = item_of line in
    lines_history (pump_after p i) lines
    ∙ ap (λ (q : Pump). after q (calls_by q lines)) (item_history p i)
    ∙ sym (after_both p (calls_of p i) (calls_by (after p (calls_of p i)) lines))

pub plays_history : (s : List ℕ) → pump_behind (fresh_pump model_phases) (lines_of s) ≡ after (fresh_pump model_phases) (calls_in s)
unfolding calls_in
plays_history s = lines_history (fresh_pump model_phases) (lines_of s)

pub program_history : (s : List ℕ) → pump_left s ≡ after (fresh_pump model_phases) (calls_in s)
unfolding pump_left
program_history s = ap (λ (g : Rig). g.pump) (rig_itemised (fresh_pump model_phases) s) ∙ plays_history s

pub program_whole : (s : List ℕ) → Whole (pump_left s)
program_whole s = subst Whole (sym (program_history s)) (whole_after model_phases model (calls_in s))

pub program_meets : (s : List ℕ) → Condition3 (pump_left s) (tick_by_tick (trace (fresh_pump model_phases) (calls_in s)))
program_meets s =
    subst (λ (p : Pump). Condition3 p (tick_by_tick (trace (fresh_pump model_phases) (calls_in s)))) (sym (program_history s))
    (condition3_here (calls_in s))
