-- `Syringe::step_volume` meets its contract: the quotient is the definition.
-- Assumes nothing.
use mathlib.Core.Path.{refl}
use Rattle.drive.specs.Syringe.{step_volume}
use Rattle.drive.proofs.syringe.Syringe.step_volume.Goals as goal

pub returns : goal.returns
unfolding step_volume
returns c = refl
