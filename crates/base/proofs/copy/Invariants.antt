use Rattle.std.proofs.Common.{length, take, ◌≡◌}
use Rattle.base.specs.Wrote.{Wrote}
use Rattle.base.proofs.copy.Given as goal

abbrev pub invariant-loop-b : goal.invariant-loop-b
invariant-loop-b l = Wrote l.initial.out l.out l.at l.i (take l.b-index l.s) × (length l.out ≡ length l.initial.out)
