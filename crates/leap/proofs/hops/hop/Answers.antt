-- `hop` meets its contract.
-- Assumes nothing.
use Rattle.leap.proofs.Hopping.{hops_none, hops_jump, hops_pause}
use Rattle.leap.proofs.hops.hop.Goals as goal

pub returns-in-Jmp : goal.returns-in-Jmp
returns-in-Jmp c =
    let a = c.args in
    hops_jump a.run a.function a.n _ _ c.is_entering.ensures c.is_operating.ensures c.if-is_entering-is_operating.true
    _ _ c.requires.1 c.in-Jmp.is c.go_to.ensures

pub returns-then-ticks-n : goal.returns-then-ticks-n
returns-then-ticks-n c =
    let a = c.args in
    hops_pause a.run a.function a.n _ _ c.is_entering.ensures c.is_operating.ensures c.if-is_entering-is_operating.true
    _ _ _ _ c.in-Pas.is c.pause_ticks-ticks.ensures c.if-ticks-n.true c.with_rate.ensures c.go_on.ensures

pub returns-else-ticks-n : goal.returns-else-ticks-n
returns-else-ticks-n c = hops_none _ _ _

pub returns-in_default-function : goal.returns-in_default-function
returns-in_default-function c = hops_none _ _ _

pub returns-else-is_entering-is_operating : goal.returns-else-is_entering-is_operating
returns-else-is_entering-is_operating c = hops_none _ _ _
