-- `Syringe::step_target` meets its contract: the quotient is the definition, and where there is no step volume both are 0.
-- Assumes nothing.
use Rattle.drive.specs.Syringe.{step_target}
use Rattle.drive.proofs.Bounds.{no_target}
use mathlib.Core.Path.{sym, ◌∙◌}
use Rattle.drive.proofs.syringe.Syringe.step_target.Goals as goal

pub returns-then-v-eq0 : goal.returns-then-v-eq0
returns-then-v-eq0 c = no_target _ _ (sym c.step_volume-v.ensures ∙ c.if-v-eq0.true)

pub returns : goal.returns
unfolding step_target
returns c = rw (c.volume_in_fl.ensures, c.step_volume-v.ensures)
