-- `Core::pin_two` meets its contract.
-- Assumes nothing.
use Rattle.program.specs.Edges.{pin_two}
use Rattle.program.proofs.state.Core.pin_two.Goals as goal

pub returns-then-before-level : goal.returns-then-before-level
unfolding pin_two
returns-then-before-level c = rw (c.with_run.ensures, c.foot_switch.ensures) (simp c.if-before-level.true)

pub returns : goal.returns
unfolding pin_two
returns c = simp c.if-before-level.false
