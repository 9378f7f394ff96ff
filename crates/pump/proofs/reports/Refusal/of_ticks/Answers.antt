-- `Refusal::of_ticks` meets its contract.
-- Assumes nothing.
use Rattle.pump.proofs.Calling.{many}
use Rattle.pump.proofs.reports.Refusal.of_ticks.Goals as goal

pub returns-then-n-gt-MOST_TICKS : goal.returns-then-n-gt-MOST_TICKS
returns-then-n-gt-MOST_TICKS c = search many

pub returns-then-size-ge-ROOM : goal.returns-then-size-ge-ROOM
returns-then-size-ge-ROOM c = search many

pub returns-then-sound : goal.returns-then-sound
returns-then-sound c = search many

pub returns : goal.returns
returns c = search many
