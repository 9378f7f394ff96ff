-- `judge_direction` meets its contract.
-- Assumes nothing.
use Rattle.command.specs.Judging.{judge_direction}
use Rattle.command.proofs.Verdicts.{judging}
use Rattle.command.proofs.judging.judge_direction.Goals as goal

pub returns-then-operating-is_rate_phase : goal.returns-then-operating-is_rate_phase
unfolding judge_direction
returns-then-operating-is_rate_phase c = search judging

pub returns : goal.returns
unfolding judge_direction
returns c = search judging
