-- `pass_loop` meets its contract.
-- Assumes nothing.
use Rattle.tick.specs.Entering.{pass_loop}
use Rattle.tick.proofs.entering.pass_loop.Goals as goal

pub returns : goal.returns
unfolding pass_loop
returns c = rw (c.go_to.ensures, c.with_loops.ensures, c.lop-turn.ensures)
