-- `kind` meets its contract: the first byte of a line.
-- Assumes nothing.
use Rattle.script.proofs.Letters.{bytes}
use Rattle.script.proofs.bytes.kind.Goals as goal

pub returns-in-62 : goal.returns-in-62
returns-in-62 c = search bytes

pub returns-in-84 : goal.returns-in-84
returns-in-84 c = search bytes

pub returns-in-69 : goal.returns-in-69
returns-in-69 c = search bytes

pub returns-in_default : goal.returns-in_default
returns-in_default c = search bytes
