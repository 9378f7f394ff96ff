-- `enter_pause` meets its contract.
-- Assumes nothing.
use borrow.Author.Tests.{eq-eqb, ne_eqb}
use Rattle.tick.specs.Entering.{enter_pause}
use Rattle.tick.proofs.entering.enter_pause.Goals as goal

pub returns-then-ticks-eq0 : goal.returns-then-ticks-eq0
unfolding enter_pause
returns-then-ticks-eq0 c = rw (c.doing.ensures, c.with_rate-unrated.ensures) (simp (eq-eqb _ _ c.if-ticks-eq0.true))

pub returns : goal.returns
unfolding enter_pause
returns c = rw (c.doing-2.ensures, c.with_rate-unrated.ensures) (simp (ne_eqb _ _ c.if-ticks-eq0.false))
