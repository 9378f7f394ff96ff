-- `leap_at` meets its contract.
-- Assumes nothing.
use native.Mathlib.Omega.{arith}
use Rattle.leap.proofs.Trying.{steps_small, dose_small, leaps_within, leaps_nowhere}
use Rattle.leap.proofs.visits.leap_at.Goals as goal

pub overflow_mul-dose : goal.overflow_mul-dose
overflow_mul-dose c =
    let a = c.args in
    let dose = dose_small a.core.syringe a.visit a.hourly a.ticks _ _ c.step_threshold.ensures c.stride-stride.ensures _ c.step_volume.ensures in
    omega (arith, dose c.requires.0.high c.requires.0.works c.requires.1)

pub overflow_add-total_of : goal.overflow_add-total_of
overflow_add-total_of c =
    let a = c.args in
    let dose = dose_small a.core.syringe a.visit a.hourly a.ticks _ _ c.step_threshold.ensures c.stride-stride.ensures _ c.step_volume.ensures in
    omega (arith, c.total_of.ensures, dose c.requires.0.high c.requires.0.works c.requires.1)

pub overflow_cast-result : goal.overflow_cast-result
overflow_cast-result c =
    let a = c.args in
    omega (
      arith,
      steps_small a.core.syringe a.visit a.hourly a.ticks _ _ c.step_threshold.ensures c.stride-stride.ensures c.requires.0.works c.requires.1,
    )

pub returns-then-short-total_of : goal.returns-then-short-total_of
returns-then-short-total_of c =
    let a = c.args in
    leaps_within a.core.syringe a.visit a.hourly a.ticks _ _ c.step_threshold.ensures c.stride-stride.ensures _
    c.step_volume.ensures a.core.run a.core.ledger a.direction _ _ c.total_of.ensures
    c.is_short-short.ensures _ _ _ c.if-short-total_of.true c.visit_after.ensures
    c.doing.ensures c.book.ensures

pub returns : goal.returns
returns c =
    let a = c.args in
    leaps_nowhere a.core.syringe a.visit a.hourly a.ticks _ _ c.step_threshold.ensures c.stride-stride.ensures _
    c.step_volume.ensures a.core.run a.core.ledger a.direction _ _ c.total_of.ensures
    c.is_short-short.ensures _ c.if-short-total_of.false c.none.ensures
