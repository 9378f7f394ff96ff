-- `Syringe::is_usable` meets its contract: a test against the limit divided by the unit is one of the product against the limit.
-- Assumes nothing.
use mathlib.Core.Path.{refl}
use native.Mathlib.Omega.{arith}
use Rattle.drive.specs.Rates.{is_usable}
use Rattle.drive.proofs.Bounds.{threshold_narrow, usable_by_division}
use Rattle.drive.proofs.syringe.Syringe.is_usable.Goals as goal

pub overflow_mul-limit : goal.overflow_mul-limit
overflow_mul-limit c = rw c.step_threshold-limit.ensures (omega (arith, threshold_narrow c.args.self (omega arith)))

pub returns-then-rate-le-MOST_RATE : goal.returns-then-rate-le-MOST_RATE
unfolding is_usable
returns-then-rate-le-MOST_RATE c = rw (c.hourly_rate.ensures, c.step_threshold-limit.ensures) refl

pub returns : goal.returns
returns c = rw (c.per_hour.ensures, c.step_threshold-limit.ensures) (usable_by_division _ _ _ (omega (arith, c.if-rate-le-MOST_RATE.false)))
