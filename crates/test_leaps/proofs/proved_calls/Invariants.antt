-- `proved_calls` is safe: each turn adds less than 2^32, and there are fewer than 2^32 turns.
-- Assumes nothing.
use Prim.Native.Nat.{◌*◌, ◌≤◌}
use Rattle.test_leaps.proofs.proved_calls.Given as goal

abbrev pub invariant-loop : goal.invariant-loop
invariant-loop l = l.steps ≤ l.counter * 4_294_967_295
