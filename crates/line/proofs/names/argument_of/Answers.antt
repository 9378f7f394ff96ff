-- `argument_of` meets its contract: the part behind the letters of the name, or the whole text.
-- Assumes nothing.
use Rattle.line.proofs.Naming.{name_fits, behind_name, whole_text}
use Rattle.line.proofs.names.argument_of.Goals as goal

pub slice_bounds-result-count : goal.slice_bounds-result-count
slice_bounds-result-count c = search name_fits

pub slice_bounds-result-start : goal.slice_bounds-result-start
slice_bounds-result-start c = search name_fits

pub returns-in-Some : goal.returns-in-Some
returns-in-Some c = search behind_name

pub returns-in-None : goal.returns-in-None
returns-in-None c = search whole_text
