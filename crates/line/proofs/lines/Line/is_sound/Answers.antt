-- `Line::is_sound` meets its contract: the three tests.
-- Assumes nothing.
use Rattle.std.proofs.Common.{arith}
use Rattle.std.proofs.lemmas.Grind.{common_steps}
use Rattle.line.specs.Lines.{is_sound_line}
use Rattle.line.proofs.lines.Line.is_sound.Goals as goal

pub returns-then-self-ge40 : goal.returns-then-self-ge40
unfolding is_sound_line
returns-then-self-ge40 c = grind (arith, common_steps)

pub returns-else-self-ge40 : goal.returns-else-self-ge40
unfolding is_sound_line
returns-else-self-ge40 c = grind (arith, common_steps)
