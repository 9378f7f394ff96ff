-- `give_steps` meets its contract.
-- Assumes nothing.
use Prim.Native.Nat.{◌*◌, ◌≤◌}
use native.Mathlib.Omega.{arith}
use Rattle.tick.proofs.Visiting.{steps_small, dose_small, gives, gives_none}
use Rattle.tick.proofs.working.give_steps.Goals as goal

pub overflow_mul-dose : goal.overflow_mul-dose
overflow_mul-dose c =
    -- the steps' volume
    let a = c.args in
    let dose : c.work-worked.result.steps * c.step_volume.result ≤ 1_963_500_000 =
    dose_small a.core.run a.core.ledger a.core.syringe a.direction a.visit a.hourly _ _ _ 0 c.step_threshold.ensures c.work-worked.ensures
    c.step_volume.ensures c.requires.high c.requires.works in
    omega (arith, dose)

pub overflow_add-total_of : goal.overflow_add-total_of
overflow_add-total_of c =
    let a = c.args in
    let dose : c.work-worked.result.steps * c.step_volume.result ≤ 1_963_500_000 =
    dose_small a.core.run a.core.ledger a.core.syringe a.direction a.visit a.hourly _ _ _ 0 c.step_threshold.ensures c.work-worked.ensures
    c.step_volume.ensures c.requires.high c.requires.works in
    rw c.total_of.ensures (omega (arith, c.requires.total, dose))

pub overflow_cast-result : goal.overflow_cast-result
overflow_cast-result c =
    let a = c.args in
    let few : c.work-worked.result.steps ≤ 4 =
    steps_small a.core.run a.core.ledger a.core.syringe a.direction a.visit a.hourly _ _ 0 0 c.step_threshold.ensures c.work-worked.ensures
    c.requires.works in
    omega (arith, few)

pub returns-then-total_of-dose-le-MOST_TOTAL : goal.returns-then-total_of-dose-le-MOST_TOTAL
returns-then-total_of-dose-le-MOST_TOTAL c =
    let a = c.args in
    gives a.core.run a.core.ledger a.core.syringe a.direction a.visit a.hourly _ _ _ _ c.step_threshold.ensures
    c.work-worked.ensures c.step_volume.ensures c.total_of.ensures _ _ c.if-total_of-dose-le-MOST_TOTAL.true
    c.after_visit.ensures c.book.ensures

pub returns : goal.returns
returns c =
    let a = c.args in
    gives_none a.core.run a.core.ledger a.core.syringe a.direction a.visit a.hourly _ _ _ _ c.step_threshold.ensures
    c.work-worked.ensures c.step_volume.ensures c.total_of.ensures _ c.if-total_of-dose-le-MOST_TOTAL.false c.raise.ensures
