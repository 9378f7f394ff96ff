-- `pin_ended` meets its contract: a pin has a digit.
-- Assumes nothing.
use Rattle.script.proofs.Letters.{bytes}
use Rattle.script.proofs.bytes.pin_ended.Goals as goal

pub returns-in-Some : goal.returns-in-Some
returns-in-Some c = search bytes

pub returns-in-None : goal.returns-in-None
returns-in-None c = search bytes
