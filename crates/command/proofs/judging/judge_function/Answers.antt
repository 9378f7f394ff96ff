-- `judge_function` meets its contract.
-- Assumes nothing.
use Rattle.command.specs.Judging.{judge_function}
use Rattle.command.proofs.Verdicts.{in_range, idle_passes, idle_declines}
use Rattle.command.proofs.judging.judge_function.Goals as goal

pub returns-in_err-judge_idle : goal.returns-in_err-judge_idle
unfolding judge_function
returns-in_err-judge_idle c = idle_declines _ _ _ _ _ c.judge_idle.ensures c.in_err-judge_idle.was c.from_residual.ensures.1

pub returns : goal.returns
unfolding judge_function
returns c = idle_passes _ _ _ _ _ c.judge_idle.ensures c.in_ok-judge_idle.was (in_range _ _ _ c.if_in_range.ensures c.fits.ensures)
