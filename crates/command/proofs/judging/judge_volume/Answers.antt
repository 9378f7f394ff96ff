-- `judge_volume` meets its contract.
-- Assumes nothing.
use Rattle.command.specs.Judging.{judge_volume}
use Rattle.command.proofs.Verdicts.{judging}
use Rattle.command.proofs.judging.judge_volume.Goals as goal

pub returns-then-is_rate_phase-operating : goal.returns-then-is_rate_phase-operating
unfolding judge_volume
returns-then-is_rate_phase-operating c = search judging

pub returns : goal.returns
unfolding judge_volume
returns c = search judging
