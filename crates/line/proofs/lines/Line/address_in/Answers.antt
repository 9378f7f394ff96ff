-- `Line::address_in` meets its contract: the address in the kept characters.
-- Assumes nothing.
use Rattle.line.specs.Lines.{address_in}
use Rattle.line.proofs.lines.Line.address_in.Goals as goal

pub returns : goal.returns
unfolding address_in
returns c = cc
