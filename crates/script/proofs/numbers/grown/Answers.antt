-- `grown` meets its contract: one digit more, up to the most.
-- Assumes nothing.
use Rattle.script.proofs.Asking.{growing}
use Rattle.script.proofs.numbers.grown.Goals as goal

pub returns-then-n-gt-MOST_TICKS : goal.returns-then-n-gt-MOST_TICKS
returns-then-n-gt-MOST_TICKS c = search growing

pub returns : goal.returns
returns c = search growing
