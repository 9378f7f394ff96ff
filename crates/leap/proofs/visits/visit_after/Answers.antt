-- `visit_after` meets its contract.
-- Assumes nothing.
use native.Mathlib.Omega.{arith}
use borrow.Author.Tests.{eq-eqb, ne_eqb}
use Rattle.leap.specs.Visits.{given_after}
use Rattle.leap.proofs.Visiting.{short_below}
use Rattle.leap.proofs.visits.visit_after.Goals as goal

pub returns-then-target-eq0 : goal.returns-then-target-eq0
unfolding given_after
returns-then-target-eq0 c = simp (eq-eqb _ _ c.if-target-eq0.true)

pub overflow_add-result : goal.overflow_add-result
overflow_add-result c =
    omega (arith, short_below c.args.visit c.args.stride.steps c.requires c.if-target-eq0.false)

pub returns : goal.returns
unfolding given_after
returns c = simp (ne_eqb _ _ c.if-target-eq0.false)
