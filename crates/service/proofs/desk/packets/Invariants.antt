-- `packets` is safe and ends: each call that is not refused does at least a tick, and no more than are left.
-- Assumes nothing.
use Rattle.service.proofs.desk.packets.Given as goal

abbrev pub invariant-loop-left : goal.invariant-loop-left
invariant-loop-left g l = Unit

abbrev pub decreases-loop-left : goal.decreases-loop-left
decreases-loop-left g l = l.left
