-- `crc::check` meets its contract: the register so far, and what is left of the bytes, end as the check of all.
-- Assumes nothing.
use Rattle.crc.proofs.Slices.{Passed}
use Rattle.crc.proofs.check.Given as goal

abbrev pub invariant-loop-b : goal.invariant-loop-b
invariant-loop-b l = Passed l.bytes l.crc l.b-index
