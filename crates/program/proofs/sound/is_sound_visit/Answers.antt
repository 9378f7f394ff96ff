-- `is_sound_visit` meets its contract.
-- Assumes nothing.
use Rattle.program.specs.Sound.{is_sound_visit}
use Rattle.program.proofs.sound.is_sound_visit.Goals as goal

pub returns : goal.returns
unfolding is_sound_visit
returns c = rw (c.is_rate_phase.ensures, c.is_usable.ensures, c.step_target-target.ensures, c.step_threshold-threshold.ensures)
