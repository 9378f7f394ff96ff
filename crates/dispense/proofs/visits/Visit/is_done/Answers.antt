-- `Visit::is_done` meets its contract.
-- Assumes nothing.
use mathlib.Core.Path.{refl}
use Rattle.dispense.specs.Visits.{is_done}
use Rattle.dispense.proofs.visits.Visit.is_done.Goals as goal

pub returns : goal.returns
unfolding is_done
returns c = refl
