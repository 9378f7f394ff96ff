-- `stride_in` meets its contract.
-- Assumes nothing.
use Rattle.leap.proofs.Striding.{parted_above}
use Rattle.leap.proofs.strides.stride_in.Goals as goal

pub returns-then-rest-threshold : goal.returns-then-rest-threshold
returns-then-rest-threshold c = parted_above c.args.sum c.args.threshold _ _ c.requires.0 c.if-taken-sum.true c.due_in-due.ensures
