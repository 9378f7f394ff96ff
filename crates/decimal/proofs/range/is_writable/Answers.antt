-- `is_writable` meets its contract: `ranges` has `is_writable` in each of its ranges.
use Rattle.decimal.proofs.Grid.{ranges}
use Rattle.decimal.proofs.range.is_writable.Goals as goal

pub returns-then-x-eq0 : goal.returns-then-x-eq0
returns-then-x-eq0 c = search ranges

pub returns-then-x-le9999 : goal.returns-then-x-le9999
returns-then-x-le9999 c = search ranges

pub returns-then-x-le99990 : goal.returns-then-x-le99990
returns-then-x-le99990 c = search ranges

pub returns-then-x-le999900 : goal.returns-then-x-le999900
returns-then-x-le999900 c = search ranges

pub returns-else-x-le999900 : goal.returns-else-x-le999900
returns-else-x-le999900 c = search (ranges, c.if-x-eq0.false)
