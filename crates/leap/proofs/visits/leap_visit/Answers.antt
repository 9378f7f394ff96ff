-- `leap_visit` meets its contract.
-- Assumes nothing.
use mathlib.Core.Path.{ap, sym}
use Rattle.leap.specs.Visits.{leap_by, leap_visit}
use Rattle.leap.proofs.visits.leap_visit.Goals as goal

pub returns-in_default : goal.returns-in_default
unfolding leap_visit
returns-in_default c =
    let a = c.args in
    rw c.none.ensures
    (ap (leap_by a.core.run a.core.ledger a.core.syringe a.direction a.visit a.ticks) (sym c.in_default.is))

pub returns : goal.returns
unfolding leap_visit
returns c =
    let a = c.args in
    rw (c.leap_at.ensures, c.hourly_rate-hourly.ensures)
    (ap (leap_by a.core.run a.core.ledger a.core.syringe a.direction a.visit a.ticks) (sym c.in-Some.is))
