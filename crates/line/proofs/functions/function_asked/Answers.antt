-- `function_asked` meets its contract: the function that is called, with the datum behind its name.
-- Assumes nothing.
use Rattle.std.proofs.Common.{rules}
use Rattle.line.proofs.Behind.{asks_function, some_function, no_function}
use Rattle.line.proofs.Calling.{called_within}
use Rattle.line.proofs.functions.function_asked.Goals as goal

pub returns-then-is_empty : goal.returns-then-is_empty
returns-then-is_empty c = search (rules, asks_function)

pub slice_bounds-with_datum-count : goal.slice_bounds-with_datum-count
slice_bounds-with_datum-count c = search called_within

pub slice_bounds-with_datum-start : goal.slice_bounds-with_datum-start
slice_bounds-with_datum-start c = search called_within

pub returns-in-Some : goal.returns-in-Some
returns-in-Some c =
    some_function _ (search rules) _ c.called_in.ensures _ _ _ c.in-Some.is c.name.ensures c.with_datum.ensures

pub returns-in-None : goal.returns-in-None
returns-in-None c = search (rules, no_function)
