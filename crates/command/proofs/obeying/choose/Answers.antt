-- `choose` meets its contract.
-- Assumes nothing.
use Rattle.command.specs.Obeying.{choose}
use Rattle.command.proofs.obeying.choose.Goals as goal

pub returns : goal.returns
unfolding choose
returns c = rw (c.decide.ensures, c.judge_phase-verdict.ensures, c.is_operating.ensures)
