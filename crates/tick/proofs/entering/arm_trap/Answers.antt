-- `arm_trap` meets its contract.
-- Assumes nothing.
use Rattle.program.proofs.Choosing.{choices}
use Rattle.tick.specs.Entering.{arm_trap}
use Rattle.tick.proofs.entering.arm_trap.Goals as goal

pub returns-then-four : goal.returns-then-four
unfolding arm_trap
returns-then-four c = rw (c.go_on.ensures, c.with_trap.ensures) (simp c.if-four.true)

pub returns : goal.returns
unfolding arm_trap
returns c = search choices
