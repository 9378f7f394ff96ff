-- `Lines::as_slice` meets its contract: what stands before the end of the text.
-- Assumes nothing.
use mathlib.Core.Path.{refl}
use Rattle.player.specs.Printing.{lines_text}
use Rattle.player.proofs.joining.Lines.as_slice.Goals as goal

pub returns-clause-value : goal.returns-clause-value
unfolding lines_text
returns-clause-value c = refl
