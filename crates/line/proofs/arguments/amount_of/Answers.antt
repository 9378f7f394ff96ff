-- `amount_of` meets its contract: where there are units, all but the last two letters.
-- Assumes nothing.
use Rattle.line.proofs.Asking.{no_units, some_units, units_within}
use Rattle.line.proofs.arguments.amount_of.Goals as goal

pub returns-then-is_none : goal.returns-then-is_none
returns-then-is_none c = no_units _ _ c.units_at_end.ensures c.if-is_none.ensures

pub slice_bounds-result-count : goal.slice_bounds-result-count
slice_bounds-result-count c = units_within _ _ c.units_at_end.ensures c.if-is_none.ensures

pub returns : goal.returns
returns c = some_units _ _ c.units_at_end.ensures c.if-is_none.ensures
