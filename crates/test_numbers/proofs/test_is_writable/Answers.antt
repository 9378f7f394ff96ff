-- `test_is_writable` meets its contract: each arm answers what `test_as` gives for its outcome of `is_writable`.
use Rattle.test_numbers.proofs.Handed.{as_numbers}
use Rattle.test_numbers.proofs.test_is_writable.Goals as goal

pub returns-then-is_writable : goal.returns-then-is_writable
returns-then-is_writable c = search as_numbers

pub returns-else-is_writable : goal.returns-else-is_writable
returns-else-is_writable c = search as_numbers
