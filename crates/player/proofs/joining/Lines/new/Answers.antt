-- `Lines::new` meets its contract: no byte stands before the end of the text.
-- Assumes nothing.
use mathlib.Core.Path.{refl}
use Rattle.player.specs.Printing.{lines_text}
use Rattle.player.proofs.joining.Lines.new.Goals as goal

pub returns : goal.returns
unfolding lines_text
returns c = refl
