-- `labelled` meets its contract: the letter and a blank, the fewest digits that hold the number, and the byte behind them.
-- Assumes nothing.
use native.Mathlib.Omega.{arith}
use Rattle.std.proofs.lemmas.Grind.{common_steps}
use Rattle.player.proofs.Decimals.{counted}
use Rattle.player.proofs.printing.labelled.Goals as goal

pub returns : goal.returns
returns c =
    let d = c.decimal-k in
    let digits = counted c.args.n d.result (omega arith) d.ensures.len d.new.out d.ensures.digits in
    grind (arith, common_steps, digits)
