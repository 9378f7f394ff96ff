-- `Line::with_character` meets its contract.
-- Assumes nothing.
use borrow.Author.Tests.{lt-ltb, le-ltb}
use Rattle.line.specs.Lines.{with_character}
use Rattle.line.proofs.lines.Line.with_character.Goals as goal

pub returns-then-self-lt40 : goal.returns-then-self-lt40
unfolding with_character
returns-then-self-lt40 c = simp (lt-ltb _ _ c.if-self-lt40.true)

pub returns-else-self-lt40 : goal.returns-else-self-lt40
unfolding with_character
returns-else-self-lt40 c = simp (le-ltb _ _ c.if-self-lt40.false)
