-- `judge_tuning` meets its contract.
-- Assumes nothing.
use Rattle.program.proofs.Choosing.{chosen}
use Rattle.command.specs.Judging.{judge_tuning}
use Rattle.command.proofs.Choosing.{told_four, told_none}
use Rattle.command.proofs.Verdicts.{judging}
use Rattle.command.proofs.judging.judge_tuning.Goals as goal

pub returns-then-is_flow-is_visiting : goal.returns-then-is_flow-is_visiting
unfolding judge_tuning
returns-then-is_flow-is_visiting c =
    chosen _ _ _ _
    (told_four _ _ _ _ _
    c.is_flow.ensures
    c.is_visiting.ensures
    _ _ _ _
    c.is_ramp.ensures
    (told_none _ _ c.is_none.ensures)
    c.if-is_flow-is_visiting.true)
    c.judge_rate.ensures

pub returns : goal.returns
unfolding judge_tuning
returns c = search judging
