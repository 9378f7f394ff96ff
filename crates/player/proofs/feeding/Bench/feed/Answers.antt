-- `Bench::feed` meets its contract: after some turns the bench and the buffer are those of as many bytes.
-- Assumes nothing.
use mathlib.Core.Path.{refl, sym, ◌∙◌}
use native.Mathlib.Omega.{arith}
use Rattle.base.proofs.Writing.{wrote_as}
use Rattle.player.proofs.Playing.{feeding_none, feeding_act, feeding_wait, feeding_as, feeding_all, feeding_full}
use Rattle.player.proofs.feeding.Bench.feed.Goals as goal
use Rattle.player.proofs.feeding.Bench.feed.Goals.{then-is_deed, else-is_deed}
use Rattle.player.proofs.feeding.Bench.feed.Goals.{else-loop-b-test, then-loop-b-test+then-out-end-lt-ROOM}

pub loop-b-init : goal.loop-b-init
loop-b-init c = (refl, feeding_none _ _ _)

pub loop-b-preserved : goal.loop-b-preserved
loop-b-preserved c = (
  omega arith,
  elim c.if-is_deed.branch [
    | then-is_deed w ↦
        let lines = wrote_as w.copy-end.ensures (w.as_slice.ensures.value ∙ w.act-acted.ensures.lines) in
        feeding_as w.out-is w.rig-is w.end-is
        (feeding_act c.loop-b.invariant.1 c.loop-b-test.true _ c.after-step.ensures w.act-acted.ensures.rig lines)
    | else-is_deed w ↦
        feeding_as w.out-is w.rig-is w.end-is
        (feeding_wait c.loop-b.invariant.1 c.loop-b-test.true _ c.after-step.ensures (sym c.is_deed.ensures ∙ w.if-is_deed.false) (omega arith))
  ],
)

pub returns : goal.returns
returns c =
    let f = c.loop-b.invariant.1 in
    rw
    (c.new.ensures, c.loop-b.invariant.0)
    (elim c.loop-b-test.branch [
      | else-loop-b-test w ↦ feeding_all f w.loop-b-test.false
      | then-loop-b-test+then-out-end-lt-ROOM w ↦ feeding_full f c.requires w.if-out-end-lt-ROOM.true
    ])
