-- `Core::pin_six` meets its contract.
-- Assumes nothing.
use Rattle.program.specs.Edges.{pin_six}
use mathlib.Core.Path.{refl}
use Rattle.program.proofs.state.Core.pin_six.Goals as goal

pub returns : goal.returns
unfolding pin_six
returns c = refl
