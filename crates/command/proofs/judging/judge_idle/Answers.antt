-- `judge_idle` meets its contract.
-- Assumes nothing.
use Rattle.command.specs.Judging.{judge_idle}
use Rattle.command.proofs.Verdicts.{judging}
use Rattle.command.proofs.judging.judge_idle.Goals as goal

pub returns-then-operating : goal.returns-then-operating
unfolding judge_idle
returns-then-operating c = search judging

pub returns : goal.returns
unfolding judge_idle
returns c = search judging
