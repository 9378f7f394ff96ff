-- `read_three` meets its contract: its loop keeps `Passed`, and `three_digits` has a law for each way on and each way out.
use Rattle.decimal.proofs.ThreeDigits.{Passed}
use Rattle.decimal.proofs.short.read_three.Given as goal

abbrev pub invariant-loop-b : goal.invariant-loop-b
invariant-loop-b l = Passed l.s l.value l.b-index
