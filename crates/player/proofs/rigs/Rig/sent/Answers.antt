-- `Rig::sent` meets its contract: what the byte call hands back, and its line.
-- Assumes nothing.
use mathlib.Core.Path.{◌∙◌}
use native.Mathlib.Omega.{arith}
use lib.ListN.{take, length-take}
use Rattle.std.proofs.lemmas.List.{length-take-le}
use Rattle.player.proofs.Acting.{sent_says, sent_holds}
use Rattle.player.proofs.Answers.{sized, few_sized}
use Rattle.player.proofs.Prints.{said_few}
use Rattle.player.proofs.rigs.Rig.sent.Goals as goal

pub slice_bounds-answer-end : goal.slice_bounds-answer-end
slice_bounds-answer-end c = let few = few_sized _ (sized _ _ _ c.byte-report.ensures.0) in omega (arith, few)

pub slice_bounds-answer_line-end : goal.slice_bounds-answer_line-end
slice_bounds-answer_line-end c =
    let few = few_sized _ (sized _ _ _ c.byte-report.ensures.0) in simp length-take (omega (arith, few))

pub answer_line-lines-requires : goal.answer_line-lines-requires
answer_line-lines-requires c =
    let z = sized _ _ _ c.byte-report.ensures.0 in
    let few = few_sized _ z in
    rw (length-take-le c.byte-report.result.length c.byte-report.new.out (omega (arith, few))) z

pub returns-clause-lines : goal.returns-clause-lines
returns-clause-lines c =
    let e = c.byte-report.ensures in
    let few = few_sized _ (sized _ _ _ e.0) in
    c.answer_line-lines.ensures ∙ sent_says c.args.self _ _ e.0 _ _ c.is_some.ensures e.1 (omega (arith, few))

pub returns-clause-rig : goal.returns-clause-rig
returns-clause-rig c =
    let e = c.byte-report.ensures in
    let few = few_sized _ (sized _ _ _ e.0) in
    let line = c.answer_line-lines.ensures ∙ sent_says c.args.self _ _ e.0 _ _ c.is_some.ensures e.1 (omega (arith, few)) in
    rw c.is_empty.ensures (sent_holds c.args.self _ _ e.0 _ line)

pub returns-clause-few : goal.returns-clause-few
returns-clause-few c =
    let few = few_sized _ (sized _ _ _ c.byte-report.ensures.0) in
    rw c.answer_line-lines.ensures
    (said_few c.is_some.result _ (take c.byte-report.result.length c.byte-report.new.out) (simp length-take (omega (arith, few))))
