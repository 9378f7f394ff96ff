-- The number stops growing long before a u32 is full.
use Rattle.std.proofs.Common.{◌≤◌}
use Rattle.test_texts.proofs.numbers.whole.Given as goal

abbrev pub invariant-loop-b : goal.invariant-loop-b
invariant-loop-b l = l.x ≤ 1_000_000_000
