-- `Receiver::data_taken` meets its contract.
-- Assumes nothing.
use borrow.Author.Tests.{eq-eqb, ne_eqb}
use Rattle.packet.specs.Receiver.{data_taken}
use Rattle.packet.proofs.receiver.Receiver.data_taken.Goals as goal

pub returns-then-more-eq0 : goal.returns-then-more-eq0
unfolding data_taken
returns-then-more-eq0 c = rw c.going_on.ensures (simp (eq-eqb _ _ c.if-more-eq0.true))

pub returns : goal.returns
unfolding data_taken
returns c = rw c.going_on-2.ensures (simp (ne_eqb _ _ c.if-more-eq0.false))
