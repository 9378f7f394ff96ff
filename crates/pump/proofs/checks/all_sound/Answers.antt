-- `all_sound` meets its contract: the closure tests one phase.
-- Assumes nothing.
use Rattle.std.proofs.Common.{rules, tests, ◌∙◌}
use Rattle.std.proofs.lemmas.Iterator.Adapters.{YieldsList-from_rev_slice}
use Rattle.std.proofs.lemmas.Iterator.Search.{all_from_yields_List}
use Rattle.words.specs.Phases.{is_sound_phase}
use Rattle.pump.specs.Holder.{model_phases}
use Rattle.pump.proofs.Phases.{sound_as}
use Rattle.pump.proofs.checks.all_sound.Goals as goal

pub returns : goal.returns
returns c =
    let ps = c.args.phases.now in
    all_from_yields_List (is_sound_phase model_phases) _ _ c.all.result c.all.ensures.ran (YieldsList-from_rev_slice ps cc)
    (λ x b q k. search (rules, tests))
    ∙ sound_as model_phases ps
