-- `Visit::work` meets its contract.
-- Assumes nothing.
use Prim.Native.Nat.{◌+◌, ◌-◌, ◌/◌, min}
use mathlib.Core.Path.{◌≡◌}
use borrow.Author.Tests.{eq-eqb, ne_eqb}
use native.Mathlib.Omega.{arith}
use Rattle.dispense.specs.Visits.{worked_of, given_of, store_of, steps_of, due_of}
use Rattle.dispense.proofs.Counting.{taken_off, taken_at_most}
use Rattle.dispense.proofs.visits.Visit.work.Goals as goal
use Rattle.dispense.proofs.visits.Visit.work.Goals.{then-due-left, else-due-left}

pub returns-then-target-eq0 : goal.returns-then-target-eq0
unfolding worked_of given_of store_of steps_of due_of
returns-then-target-eq0 c = rw (c.due_in-due.ensures, taken_off _ _) (simp (eq-eqb _ _ c.if-target-eq0.true))

pub returns : goal.returns
unfolding worked_of given_of store_of steps_of due_of
returns c =
    -- the steps that the two ways to here give
    let given : c.if-due-left.steps ≡ min ((c.args.self.store + c.args.hourly) / c.args.threshold) (c.args.self.target - c.args.self.given) =
    elim c.if-due-left.branch [ then-due-left w ↦ omega (arith, c.due_in-due.ensures) | else-due-left w ↦ omega (arith, c.due_in-due.ensures) ] in
    rw (given, c.due_in-due.ensures, taken_off _ _) (simp (ne_eqb _ _ c.if-target-eq0.false))
