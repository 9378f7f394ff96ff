-- `Lines::is_empty` meets its contract: as many bytes as stand before the end of the text.
-- Assumes nothing.
use native.Mathlib.Omega.{arith}
use mathlib.Core.Path.{refl}
use Rattle.std.proofs.lemmas.List.{length-take-le}
use Rattle.player.specs.Printing.{lines_text}
use Rattle.player.proofs.joining.Lines.is_empty.Goals as goal

pub returns : goal.returns
unfolding lines_text
returns c = rw (length-take-le c.args.self.now.end c.args.self.now.bytes (omega (arith, c.args.self.now.fits))) refl
