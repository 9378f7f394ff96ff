-- `elapse` meets its contract.
-- Assumes nothing.
use native.Mathlib.Omega.{arith}
use mathlib.Core.Path.{◌∙◌}
use Rattle.player.proofs.Going.{begun_roomy, going_first, first_led, going_roomy, going_less, going_on, going_last}
use Rattle.player.proofs.elapsing.elapse.Goals as goal

pub loop-elapsed-init : goal.loop-elapsed-init
loop-elapsed-init c = going_first _ _ _ _ c.new.ensures c.onward-elapsed.ensures

pub loop-elapsed-smaller : goal.loop-elapsed-smaller
loop-elapsed-smaller c = going_less _ _ _ c.loop-elapsed.invariant _ c.onward-elapsed-in-loop-elapsed.ensures c.loop-elapsed-test.true

pub loop-elapsed-preserved : goal.loop-elapsed-preserved
loop-elapsed-preserved c = going_on _ _ _ c.loop-elapsed.invariant _ c.onward-elapsed-in-loop-elapsed.ensures c.loop-elapsed-test.true

pub returns : goal.returns
returns c =
    going_last _ _ _ c.loop-elapsed.invariant c.loop-elapsed-test.false
    ∙ first_led _ _ _ _ c.new.ensures c.onward-elapsed.ensures
