-- `clear_trap` meets its contract.
-- Assumes nothing.
use Rattle.tick.specs.Entering.{clear_trap}
use Rattle.tick.proofs.entering.clear_trap.Goals as goal

pub returns : goal.returns
unfolding clear_trap
returns c = rw (c.go_on.ensures, c.with_trap.ensures)
