-- `entered` meets its contract.
-- Assumes nothing.
use Rattle.tick.specs.Ticks.{entered}
use Rattle.tick.proofs.entered.Goals as goal

pub returns : goal.returns
unfolding entered
returns c = rw (c.is_beep.ensures, c.output_after-output.ensures, c.enter-after.ensures)
