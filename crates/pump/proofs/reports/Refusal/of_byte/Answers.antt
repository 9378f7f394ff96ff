-- `Refusal::of_byte` meets its contract.
-- Assumes nothing.
use Rattle.pump.proofs.Calling.{bytes}
use Rattle.pump.proofs.reports.Refusal.of_byte.Goals as goal

pub returns-then-size-lt-ROOM : goal.returns-then-size-lt-ROOM
returns-then-size-lt-ROOM c = search bytes

pub returns-then-sound : goal.returns-then-sound
returns-then-sound c = search bytes

pub returns : goal.returns
returns c = search bytes
