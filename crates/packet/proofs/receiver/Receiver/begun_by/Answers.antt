-- `Receiver::begun_by` meets its contract.
-- Assumes nothing.
use borrow.Author.Tests.{eq-eqb, ne_eqb}
use Rattle.packet.specs.Receiver.{begun_by}
use Rattle.packet.proofs.receiver.Receiver.begun_by.Goals as goal

pub returns-then-b-eq-STX : goal.returns-then-b-eq-STX
unfolding begun_by
returns-then-b-eq-STX c = rw c.going_on.ensures (simp (eq-eqb _ _ c.if-b-eq-STX.true))

pub returns : goal.returns
unfolding begun_by
returns c = simp (ne_eqb _ _ c.if-b-eq-STX.false)
