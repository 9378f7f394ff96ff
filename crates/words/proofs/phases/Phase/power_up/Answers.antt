-- `Phase::power_up` meets its contract: phase 1 is RAT, any other STP.
-- Assumes nothing.
use borrow.Author.Tests.{eq-eqb, ne_eqb}
use Rattle.words.specs.Phases.{power_up}
use Rattle.words.proofs.phases.Phase.power_up.Goals as goal

pub returns-then-number-eq1 : goal.returns-then-number-eq1
unfolding power_up
returns-then-number-eq1 c = rw c.idle.ensures (simp (eq-eqb _ _ c.if-number-eq1.true))

pub returns : goal.returns
unfolding power_up
returns c = rw c.idle-2.ensures (simp (ne_eqb _ _ c.if-number-eq1.false))
