-- `elapse` meets its contract.
-- Assumes nothing.
use Rattle.player.proofs.Going.{Going, led}
use Rattle.player.proofs.elapsing.elapse.Given as goal

abbrev pub invariant-loop-elapsed : goal.invariant-loop-elapsed
invariant-loop-elapsed l = Going l.n (led l.n l.initial.elapsed) l.elapsed

abbrev pub decreases-loop-elapsed : goal.decreases-loop-elapsed
decreases-loop-elapsed l = l.elapsed.left
