-- `judge_stored` meets its contract.
-- Assumes nothing.
use Rattle.command.specs.Judging.{judge_stored}
use Rattle.command.proofs.Verdicts.{judging}
use Rattle.command.proofs.judging.judge_stored.Goals as goal

pub returns-then-is_flow : goal.returns-then-is_flow
unfolding judge_stored
returns-then-is_flow c = search judging

pub returns-then-is_ramp-is_none : goal.returns-then-is_ramp-is_none
unfolding judge_stored
returns-then-is_ramp-is_none c = search judging

pub returns : goal.returns
unfolding judge_stored
returns c = search judging
