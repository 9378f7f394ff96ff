-- `hex_line` meets its contract: the digits of each byte, and a newline.
-- Assumes nothing.
use Rattle.service.proofs.Hexadecimal.{Spelt}
use Rattle.service.proofs.printing.hex_line.Given as goal

abbrev pub invariant-loop-b : goal.invariant-loop-b
invariant-loop-b g l = Spelt l.answer l.line.items l.b-index
