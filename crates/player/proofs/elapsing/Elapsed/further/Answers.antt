-- `Elapsed::further` meets its contract.
-- Assumes nothing.
use native.Mathlib.Omega.{arith}
use Rattle.player.specs.Elapsing.{left_after}
use Rattle.player.proofs.elapsing.Elapsed.further.Goals as goal

pub returns : goal.returns
unfolding left_after
returns c =
    record {
      same = rw (c.left_after-left.ensures, c.is_some-refused.ensures);
      infused_few = omega arith;
      withdrawn_few = omega arith;
      beeps_few = omega arith;
    }
