-- `Receiver::end_taken` meets its contract.
-- Assumes nothing.
use borrow.Author.Tests.{eq-eqb, ne_eqb}
use Rattle.packet.specs.Receiver.{end_taken}
use Rattle.packet.proofs.receiver.Receiver.end_taken.Goals as goal

pub returns-then-b-eq-ETX : goal.returns-then-b-eq-ETX
unfolding end_taken
returns-then-b-eq-ETX c = simp (eq-eqb _ _ c.if-b-eq-ETX.true)

pub returns : goal.returns
unfolding end_taken
returns c = rw c.wrong.ensures (simp (ne_eqb _ _ c.if-b-eq-ETX.false))
