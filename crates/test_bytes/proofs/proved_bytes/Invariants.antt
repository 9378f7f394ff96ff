-- `proved_bytes` is safe: each byte adds at most 255, and there are eight at a time and fewer than 2^32 times.
-- Assumes nothing.
use Prim.Native.Nat.{◌+◌, ◌*◌, ◌≤◌}
use Rattle.test_bytes.proofs.proved_bytes.Given as goal

abbrev pub invariant-loop : goal.invariant-loop
invariant-loop l = l.said ≤ l.counter * 8 * 255

abbrev pub invariant-loop-b : goal.invariant-loop-b
invariant-loop-b l = l.said ≤ (l.counter * 8 + l.b-index) * 255
