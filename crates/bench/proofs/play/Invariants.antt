-- What was taken is played and written.
use Rattle.std.proofs.Common.{length, ◌-◌}
use Rattle.bench.proofs.Inputs.{Plays}
use Rattle.bench.proofs.play.Given as goal

abbrev pub invariant-loop-from : goal.invariant-loop-from
invariant-loop-from g l =
    Plays l.s l.fn.bench l.fed.bench l.from l.out (g.W.Write.contents l.fn.output) (g.W.Write.contents l.output)

abbrev pub decreases-loop-from : goal.decreases-loop-from
decreases-loop-from g l = length l.s - l.from
