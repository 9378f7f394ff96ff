-- `Run::spring` meets its contract.
-- Assumes nothing.
use Rattle.program.proofs.Choosing.{told}
use Rattle.program.proofs.Switching.{spring_none, spring_on, spring_off}
use Rattle.program.proofs.state.Run.spring.Goals as goal

pub returns-in_default : goal.returns-in_default
returns-in_default c = spring_none _ c.in_default.is

pub returns-then-is_operating : goal.returns-then-is_operating
returns-then-is_operating c = spring_on _ _ _ (told _ _ _ c.is_operating.ensures c.if-is_operating.true) c.in-Some.is c.fire.ensures

pub returns : goal.returns
returns c = spring_off _ (told _ _ _ c.is_operating.ensures c.if-is_operating.false)
