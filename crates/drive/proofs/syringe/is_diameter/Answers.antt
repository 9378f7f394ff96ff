-- `drive::is_diameter` meets its contract: its two tests are the definition.
-- Assumes nothing.
use mathlib.Core.Path.{refl}
use Rattle.drive.specs.Syringe.{is_diameter}
use Rattle.drive.proofs.syringe.is_diameter.Goals as goal

pub returns : goal.returns
unfolding is_diameter
returns c = refl
