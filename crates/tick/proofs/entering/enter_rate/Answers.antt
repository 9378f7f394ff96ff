-- `enter_rate` meets its contract.
-- Assumes nothing.
use Rattle.tick.specs.Entering.{enter_rate}
use Rattle.tick.proofs.entering.enter_rate.Goals as goal

pub returns-then-is_usable : goal.returns-then-is_usable
unfolding enter_rate
returns-then-is_usable c = rw (c.begin_visit.ensures, c.with_rate.ensures) (simp (rw c.is_usable.ensures at c.if-is_usable.true))

pub returns : goal.returns
unfolding enter_rate
returns c = rw c.raise.ensures (simp (rw c.is_usable.ensures at c.if-is_usable.false))
