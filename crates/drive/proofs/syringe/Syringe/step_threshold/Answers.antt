-- `Syringe::step_threshold` meets its contract.
-- Assumes nothing.
use native.Mathlib.Omega.{arith}
use Rattle.drive.specs.Syringe.{step_threshold}
use Rattle.drive.proofs.Bounds.{step_volume_narrow}
use Rattle.drive.proofs.syringe.Syringe.step_threshold.Goals as goal

pub overflow_mul-result : goal.overflow_mul-result
overflow_mul-result c = rw c.step_volume.ensures (omega (arith, step_volume_narrow c.args.self (omega arith)))

pub returns : goal.returns
unfolding step_threshold
returns c = rw c.step_volume.ensures
