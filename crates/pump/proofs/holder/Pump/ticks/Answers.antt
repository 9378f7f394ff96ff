-- `Pump::ticks` meets its contract: the phases are tested one after the other, and then the ticks that are allowed are run, up to one that
-- raises an alarm.
-- Assumes nothing.
use Prim.Native.Nat.{◌<◌}
use mathlib.Core.Logic.{inl, inr}
use mathlib.Core.Path.{ap, ◌∙◌}
use native.Mathlib.Omega.{arith}
use lib.Dec.{ltb}
use borrow.Author.Tests.{ltb-true}
use Rattle.base.proofs.Choices.{and_left, and_right}
use Rattle.pump.specs.Reports.{Outcome}
use Rattle.pump.proofs.Kept.{pump_link}
use Rattle.pump.proofs.Holding.{not_true}
use Rattle.pump.proofs.Running.{ran_none, calm_none, ongoing, ran_on, calm_on, calm_at, allowed, stopped, finished}
use Rattle.pump.proofs.holder.Pump.ticks.Goals as goal
use Rattle.pump.proofs.holder.Pump.ticks.Goals.{then-is_some, else-is_some}

pub loop-going-init : goal.loop-going-init
loop-going-init c = (
  ran_none c.args.self c.if-is_some.span _ c.from-going.ensures,
  calm_none c.args.self c.if-is_some.span _ c.from-going.ensures,
)

pub turn-going-requires : goal.turn-going-requires
turn-going-requires c =
    let full = c.well_formed.0.1.1.0.1.0.1 in
    let run = c.loop-going.invariant.0 in
    let some : 0 < c.loop-going.going.left = ltb-true 0 _ (and_left (ltb 0 c.loop-going.going.left) _ c.loop-going-test.true) in
    let may =
    allowed c.args.self c.args.out.now c.args.n c.if-is_some.span _ _ _ c.is_fit.ensures c.of_ticks-refusal.ensures
    c.is_some.ensures
    (elim c.if-is_some.branch [
      | then-is_some w ↦ inl (w.if-is_some.true, w.span-is)
      | else-is_some w ↦ inr (w.if-is_some.false, w.span-is ∙ w.reach-span.ensures)
    ])
    (omega (arith, some, run.inside)) in
    ongoing c.args.self _ _ run _ c.phase_of-here.ensures (omega (arith, full)) may.0 may.1 some

pub loop-going-preserved : goal.loop-going-preserved
loop-going-preserved c = (
  ran_on c.args.self _ _ c.loop-going.invariant.0 _ c.phase_of-here.ensures _ c.turn-going.ensures,
  calm_on c.args.self _ _ c.loop-going.invariant.0 _ c.phase_of-here.ensures _ c.turn-going.ensures
      (calm_at c.args.self c.loop-going.going.core _ _ c.is_watched-watched.ensures
      c.is_alarmed.ensures
      (not_true _ (and_right (ltb 0 c.loop-going.going.left) _ c.loop-going-test.true))),
)

pub gone-requires : goal.gone-requires
gone-requires c = (
  c.loop-going.invariant.0.inside,
  λ some.
      pump_link c.args.self
      (allowed c.args.self c.args.out.now c.args.n c.if-is_some.span _ _ _ c.is_fit.ensures
      c.of_ticks-refusal.ensures c.is_some.ensures
      (elim c.if-is_some.branch [
        | then-is_some w ↦ inl (w.if-is_some.true, w.span-is)
        | else-is_some w ↦ inr (w.if-is_some.false, w.span-is ∙ w.reach-span.ensures)
      ]) some).0,
)

pub returns : goal.returns
returns c =
    let done =
    finished c.args.self c.args.out.now c.args.n c.if-is_some.span _ _ _ c.is_fit.ensures
    c.of_ticks-refusal.ensures c.is_some.ensures c.loop-going.going c.loop-going.invariant.0 c.loop-going.invariant.1
    (stopped c.args.self c.loop-going.going _ _ c.is_watched-watched.ensures c.is_alarmed.ensures
    c.loop-going-test.false)
    (elim c.if-is_some.branch [
      | then-is_some w ↦ inl (w.if-is_some.true, w.span-is)
      | else-is_some w ↦ inr (w.if-is_some.false, w.span-is ∙ w.reach-span.ensures)
    ]) in
    let gone = c.gone.ensures in (
      gone.0 ∙ ap (λ (o : Outcome). o.report) done,
      gone.1 ∙ ap (λ (o : Outcome). o.buffer) done,
    )
