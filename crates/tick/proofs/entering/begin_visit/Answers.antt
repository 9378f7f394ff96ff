-- `begin_visit` meets its contract.
-- Assumes nothing.
use Rattle.tick.proofs.Visiting.{ends_at_entry, begins}
use Rattle.tick.proofs.entering.begin_visit.Goals as goal

pub returns-then-here-target : goal.returns-then-here-target
returns-then-here-target c = search ends_at_entry

pub returns : goal.returns
returns c = search begins
