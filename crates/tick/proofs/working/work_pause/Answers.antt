-- `work_pause` meets its contract.
-- Assumes nothing.
use native.Mathlib.Omega.{arith}
use borrow.Author.Tests.{le-leb, lt-leb}
use Rattle.tick.specs.Working.{work_pause}
use Rattle.tick.proofs.working.work_pause.Goals as goal

pub returns-then-left-le1 : goal.returns-then-left-le1
unfolding work_pause
returns-then-left-le1 c = rw c.go_on.ensures (simp (le-leb c.args.left 1 (omega arith)))

pub returns : goal.returns
unfolding work_pause
returns c = rw c.doing.ensures (simp (lt-leb c.args.left 1 (omega arith)))
