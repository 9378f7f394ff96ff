-- `portion` meets its contract.
-- Assumes nothing.
use native.Mathlib.Omega.{arith}
use Rattle.player.specs.Elapsing.{portion}
use Rattle.player.proofs.elapsing.portion.Goals as goal

pub returns : goal.returns
unfolding portion
returns c = omega (arith, c.min.ensures)
