-- `Core::pin_four` meets its contract.
-- Assumes nothing.
use Rattle.program.specs.Edges.{pin_four}
use Rattle.program.proofs.state.Core.pin_four.Goals as goal

pub returns-then-before-level : goal.returns-then-before-level
unfolding pin_four
returns-then-before-level c = rw (c.with_run.ensures, c.spring.ensures) (simp c.if-before-level.true)

pub returns : goal.returns
unfolding pin_four
returns c = simp c.if-before-level.false
