-- `enter` meets its contract.
-- Assumes nothing.
use mathlib.Core.Path.{ap, ◌∙◌}
use Rattle.tick.specs.Entering.{enter_rate}
use Rattle.tick.proofs.Ticking.{enters_by, entering}
use Rattle.tick.proofs.entering.enter.Goals as goal
use Rattle.tick.proofs.entering.enter.Goals.{in-Rat, in-Inc, in-Dec}

pub returns-in-Stp : goal.returns-in-Stp
returns-in-Stp c = search entering

pub returns-in-Jmp : goal.returns-in-Jmp
returns-in-Jmp c = search entering

pub returns-in-Lop : goal.returns-in-Lop
returns-in-Lop c = search entering

pub returns-in-Lps : goal.returns-in-Lps
returns-in-Lps c = search entering

pub returns-in-Lpe : goal.returns-in-Lpe
returns-in-Lpe c = search entering

pub returns-in-Pas : goal.returns-in-Pas
returns-in-Pas c = search entering

pub returns-in-Tenths : goal.returns-in-Tenths
returns-in-Tenths c = search entering

pub returns-in-If : goal.returns-in-If
returns-in-If c = search entering

pub returns-in-Evn : goal.returns-in-Evn
returns-in-Evn c = search entering

pub returns-in-Evr : goal.returns-in-Evr
returns-in-Evr c = search entering

pub returns-in-Bep : goal.returns-in-Bep
returns-in-Bep c = search entering

pub returns-in-Out : goal.returns-in-Out
returns-in-Out c = search entering

pub returns : goal.returns
returns c =
    let a = c.args in
    let by_rate = enter_rate a.run a.syringe a.here in
    elim c.match-here.branch [
      | in-Rat w ↦ enters_by _ _ _ _ _ _ w.in-Rat.is (c.enter_rate.ensures ∙ ap by_rate w.rate-is)
      | in-Inc w ↦ enters_by _ _ _ _ _ _ w.in-Inc.is (c.enter_rate.ensures ∙ ap by_rate (w.rate-is ∙ w.increase-rate.ensures))
      | in-Dec w ↦ enters_by _ _ _ _ _ _ w.in-Dec.is (c.enter_rate.ensures ∙ ap by_rate (w.rate-is ∙ w.decrease-rate.ensures))
    ]
