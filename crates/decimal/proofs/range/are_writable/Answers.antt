-- `are_writable` meets its contract: two small numbers at once, else one after the other.
-- Assumes nothing.
use mathlib.Core.Path.{◌∙◌}
use borrow.Author.Tests.{le-leb}
use Rattle.decimal.proofs.Grid.{small_both}
use Rattle.decimal.proofs.range.are_writable.Goals as goal

pub returns-then-x-y-le9999 : goal.returns-then-x-y-le9999
returns-then-x-y-le9999 c = search (le-leb, small_both, ◌∙◌)
