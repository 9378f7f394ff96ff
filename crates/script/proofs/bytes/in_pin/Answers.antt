-- `in_pin` meets its contract: a digit of a pin, or the blank behind it.
-- Assumes nothing.
use Rattle.script.proofs.Letters.{bytes}
use Rattle.script.proofs.bytes.in_pin.Goals as goal

pub returns-in-32 : goal.returns-in-32
returns-in-32 c = search bytes

pub returns-in-48-to-57 : goal.returns-in-48-to-57
returns-in-48-to-57 c = search bytes

pub returns-in_default : goal.returns-in_default
returns-in_default c = search bytes

pub returns-in_default-2 : goal.returns-in_default-2
returns-in_default-2 c = search bytes
