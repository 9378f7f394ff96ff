-- `Receiver::low_taken` meets its contract: the check of the data that came, against the two bytes.
-- Assumes nothing.
use mathlib.Core.Path.{◌≡◌, ◌∙◌}
use native.Mathlib.Omega.{arith}
use lib.ListN.{length, length-take}
use Rattle.packet.specs.Receiver.{low_taken}
use Rattle.packet.proofs.Framing.{check_written}
use Rattle.packet.proofs.Steps.{check_tested}
use Rattle.packet.proofs.receiver.Receiver.low_taken.Goals as goal

pub returns-then-eq : goal.returns-then-eq
unfolding low_taken
returns-then-eq c =
    let written = c.to_be_bytes.ensures ∙ check_written _ _ c.check-check.ensures (omega arith) in
    rw c.going_on.ensures (simp (check_tested _ _ _ _ _ _ written c.eq.ensures c.if-eq.true))

pub returns : goal.returns
unfolding low_taken
returns c =
    let written = c.to_be_bytes.ensures ∙ check_written _ _ c.check-check.ensures (omega arith) in
    rw c.wrong.ensures (simp (check_tested _ _ _ _ _ _ written c.eq.ensures c.if-eq.false))
