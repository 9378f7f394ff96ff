-- `effects_line` meets its contract: five counts with their letters.
-- Assumes nothing.
use native.Mathlib.Omega.{arith}
use Rattle.std.proofs.lemmas.Grind.{common_steps}
use Rattle.service.proofs.Lines.{effects_lem}
use Rattle.service.proofs.printing.effects_line.Goals as goal

pub returns : goal.returns
returns c =
    let a = c.args in grind (arith, common_steps, effects_lem a.n a.infused a.withdrawn a.beeps a.level)
