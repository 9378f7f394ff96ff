-- `Syringe::volume_in_fl` meets its contract: the product is the definition.
-- Assumes nothing.
use Rattle.drive.specs.Syringe.{volume_in_fl}
use Rattle.drive.proofs.syringe.Syringe.volume_in_fl.Goals as goal

pub returns : goal.returns
unfolding volume_in_fl
returns c = rw (c.thousandth.ensures, c.volume_unit.ensures)
