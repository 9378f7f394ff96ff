-- `Syringe::volume_unit` meets its contract.
-- Assumes nothing.
use borrow.Author.Tests.{le-leb, lt-leb}
use Rattle.drive.specs.Syringe.{volume_unit}
use Rattle.drive.proofs.syringe.Syringe.volume_unit.Goals as goal

pub returns-then-self-le14000 : goal.returns-then-self-le14000
unfolding volume_unit
returns-then-self-le14000 c = simp (le-leb _ _ c.if-self-le14000.true)

pub returns : goal.returns
unfolding volume_unit
returns c = simp (lt-leb _ _ c.if-self-le14000.false)
