-- `work_visit` meets its contract.
-- Assumes nothing.
use mathlib.Core.Path.{ap, sym}
use Rattle.tick.specs.Working.{work_at, work_visit}
use Rattle.tick.proofs.working.work_visit.Goals as goal

pub returns-in_default : goal.returns-in_default
unfolding work_visit
returns-in_default c =
    let a = c.args in
    ap (work_at a.core.run a.core.ledger a.core.syringe a.direction a.visit) (sym c.in_default.is)

pub returns : goal.returns
unfolding work_visit
returns c =
    let a = c.args in
    rw (c.give_steps.ensures, c.hourly_rate-hourly.ensures)
    (ap (work_at a.core.run a.core.ledger a.core.syringe a.direction a.visit) (sym c.in-Some.is))
