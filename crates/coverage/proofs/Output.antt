-- All that the program prints for an input is read off the events of its history.
--     item_told_lem        from any pump, sound or not: what an item prints is told by the events of its calls
--     lines_told_lem       and so is what lines print
--     output_is_told   and the whole output of the program, from power-up
-- Assumes nothing.
use Rattle.std.specs.Prelude.{if◌then◌else◌}
use Prim.Native.Nat.{ℕ}
use mathlib.Core.Path.{◌≡◌, refl, sym, ap, ap₂, ◌∙◌}
use mathlib.Core.Bool.{Bool, or-false}
use mathlib.Core.List.{List, [], ◌∷◌, ◌++◌}
use lib.ListN.{length, take, drop}
use Rattle.pump.specs.Calls.{pin_call}
use Rattle.pump.specs.Holder.{model_phases, fresh_pump}
use Rattle.pump.specs.Reports.{is_refused}
use Rattle.pump.specs.declared.holder.Pump.{Pump}
use Rattle.script.specs.Items.{Item, say, level, elapse, no_item, lines_of, item_of}
use Rattle.player.specs.Effects.{item_lines, all_lines, script_of, or_empty_line}
use Rattle.player.specs.Printing.{complaint_line, counts_line}
use Rattle.player.specs.Scripts.{script}
use Rattle.player.proofs.Itemised.{itemised}
use Rattle.statement.specs.Histories.{Call, report_after, after, Event, event_of, trace}
use Rattle.coverage.specs.Calls.{calls_of, calls_by, calls_in}
use Rattle.coverage.specs.Telling.{some_refused, item_told, lines_told}
use Rattle.coverage.proofs.Playing.{item_history}
use Rattle.coverage.proofs.Telling.{counts_are_sums, refusals_are_told, answers_are_told}

-- ---- the events of the first calls, and those of the others
front : (p : Pump) (a b : List Call) → take (length a) (trace p (a ++ b)) ≡ trace p a
unfolding trace
front p [] b = refl
front p (c ∷ a) b = ap (λ (es : List Event). event_of p c ∷ es) (front (report_after p c).pump a b)

rest : (p : Pump) (a b : List Call) → drop (length a) (trace p (a ++ b)) ≡ trace (after p a) b
unfolding trace after
rest p [] b = refl
rest p (c ∷ a) b = rest (report_after p c).pump a b

-- ---- an item
pub item_told_lem : (p : Pump) (i : Item) → item_lines p i ≡ item_told i (trace p (calls_of p i))
unfolding calls_of item_told trace some_refused
item_told_lem p (say s) = ap or_empty_line (answers_are_told p _)
item_told_lem p (level pin high) =
    ap (λ (t : Bool). if t then complaint_line else []) (sym (or-false (is_refused (pin_call p pin high).refusal)))
item_told_lem p (elapse n) =
    ap₂ (λ (t : Bool) (u : List ℕ). if t then complaint_line else u) (refusals_are_told n p)
    (ap₂ (counts_line n) (counts_are_sums n p).0 (counts_are_sums n p).1)
item_told_lem p no_item = refl

-- ---- lines, and a whole input
pub lines_told_lem : (p : Pump) (lines : List (List ℕ)) → all_lines p lines ≡ lines_told p lines (trace p (calls_by p lines))
unfolding all_lines lines_told calls_by
lines_told_lem p [] = refl
lines_told_lem p (line ∷ lines) =
    let i = item_of line in
    let cs = calls_of p i in
    let more = calls_by (after p cs) lines in
    ap₂
    (λ (u v : List ℕ). u ++ v)
    (item_told_lem p i ∙ ap (item_told i) (sym (front p cs more)))
    (ap (λ (q : Pump). all_lines q lines) (item_history p i)
    ∙ lines_told_lem (after p cs) lines
    ∙ ap (lines_told (after p cs) lines) (sym (rest p cs more)))

pub output_is_told : (s : List ℕ) → script s ≡ lines_told (fresh_pump model_phases) (lines_of s) (trace (fresh_pump model_phases) (calls_in s))
unfolding script_of calls_in
output_is_told s = itemised s ∙ lines_told_lem (fresh_pump model_phases) (lines_of s)
