-- `jump_if` meets its contract.
-- Assumes nothing.
use Rattle.program.proofs.Choosing.{choices}
use Rattle.tick.specs.Entering.{jump_if}
use Rattle.tick.proofs.entering.jump_if.Goals as goal

pub returns-then-six : goal.returns-then-six
unfolding jump_if
returns-then-six c = search choices

pub returns : goal.returns
unfolding jump_if
returns c = search choices
