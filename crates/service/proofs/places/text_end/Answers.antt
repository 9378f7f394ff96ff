-- `text_end` meets its contract.
-- Assumes nothing.
use borrow.Author.Tests.{eq-eqb, ne_eqb}
use Rattle.service.specs.Reading.{text_end}
use Rattle.service.proofs.places.text_end.Goals as goal

pub returns-then-b-eq13 : goal.returns-then-b-eq13
unfolding text_end
returns-then-b-eq13 c = simp (eq-eqb _ _ c.if-b-eq13.true)

pub returns : goal.returns
unfolding text_end
returns c = simp (ne_eqb _ _ c.if-b-eq13.false)
