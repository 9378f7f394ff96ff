-- `end_loop` meets its contract.
-- Assumes nothing.
use Rattle.tick.specs.Entering.{end_loop}
use Rattle.tick.proofs.entering.end_loop.Goals as goal

pub returns : goal.returns
unfolding end_loop
returns c = rw (c.go_to.ensures, c.with_loops.ensures, c.lpe-turn.ensures)
