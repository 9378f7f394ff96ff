-- `due_in` meets its contract.
-- Assumes nothing.
use native.Mathlib.Omega.{arith}
use Rattle.dispense.proofs.Counting.{due_few, due_counted}
use Rattle.dispense.proofs.visits.due_in.Goals as goal

pub returns : goal.returns
returns c = due_counted c.args.sum c.args.threshold c.requires.0
