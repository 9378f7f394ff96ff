-- `read` meets its contract: its loop keeps `Scan`, and `scan` has a law for each way on and each way out, whose premises are the
-- tests of the code on the way there.
use Rattle.decimal.proofs.Scan.{Scan}
use Rattle.decimal.proofs.input.read.Given as goal

abbrev pub invariant-loop-b : goal.invariant-loop-b
invariant-loop-b l = Scan l.s l.value l.digits l.pointed l.after l.b-index
