-- `is_fit` meets its contract.
-- Assumes nothing.
use mathlib.Core.Path.{◌≡◌}
use borrow.Author.Rules.{rules}
use lib.ListN.{length}
use Rattle.pump.specs.Holder.{model_phases}
use Rattle.pump.proofs.Holding.{whole_sound}
use Rattle.pump.proofs.checks.is_fit.Goals as goal

pub returns : goal.returns
returns c =
    let full : length c.args.phases.now ≡ model_phases = search rules in
    whole_sound (record { phases = c.args.phases.now; device = c.args.device }) _ _ _ full c.phase_of-here.ensures c.is_sound.ensures
    c.all_sound.ensures
