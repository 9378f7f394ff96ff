-- `hand` meets its contract: by the test, what `copy` wrote from the first byte on is the text, or nothing was written.
use Rattle.test_numbers.proofs.Handed.{in_buffers}
use Rattle.test_numbers.proofs.hand.Goals as goal

pub returns-then-text-out : goal.returns-then-text-out
returns-then-text-out c = search in_buffers

pub returns-else-text-out : goal.returns-else-text-out
returns-else-text-out c = search in_buffers
