-- `set_diameter` meets its contract.
-- Assumes nothing.
use mathlib.Core.Logic.{inl, inr}
use mathlib.Core.Path.{ap, ◌∙◌}
use Rattle.program.specs.Cores.{with_run}
use Rattle.command.proofs.Deciding.{diameter_set}
use Rattle.command.proofs.obeying.set_diameter.Goals as goal
use Rattle.command.proofs.obeying.set_diameter.Goals.{then-x, else-x}

pub returns : goal.returns
returns c =
    let core = c.args.core in
    diameter_set _ _ _ _ _ _ _
    (c.with_run-after.ensures ∙ ap (with_run core) c.settle.ensures)
    c.is_operating.ensures
    c.judge_diameter-verdict.ensures
    c.decide.ensures
    (elim c.if-x.branch [ then-x w ↦ inl w.after-is | else-x w ↦ inr w.if-x.false ])
