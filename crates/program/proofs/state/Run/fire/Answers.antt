-- `Run::fire` meets its contract.
-- Assumes nothing.
use Rattle.program.specs.Runs.{fire}
use Rattle.program.proofs.state.Run.fire.Goals as goal

pub returns : goal.returns
unfolding fire
returns c = rw (c.go_to.ensures, c.with_loops.ensures, c.none.ensures, c.with_trap-sprung.ensures)
