-- `judge_phase` meets its contract.
-- Assumes nothing.
use Rattle.command.specs.Judging.{judge_phase}
use Rattle.command.proofs.Verdicts.{idle_passes, idle_declines}
use Rattle.command.proofs.judging.judge_phase.Goals as goal

pub returns-in_err-judge_idle : goal.returns-in_err-judge_idle
unfolding judge_phase
returns-in_err-judge_idle c = idle_declines _ _ _ _ _ c.judge_idle.ensures c.in_err-judge_idle.was c.from_residual.ensures.1

pub returns : goal.returns
unfolding judge_phase
returns c = idle_passes _ _ _ _ _ c.judge_idle.ensures c.in_ok-judge_idle.was c.if_in_range.ensures
