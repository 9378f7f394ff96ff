-- `after_visit` meets its contract.
-- Assumes nothing.
use Rattle.program.proofs.Choosing.{choices}
use Rattle.tick.specs.Working.{after_visit}
use Rattle.tick.proofs.working.after_visit.Goals as goal

pub returns-then-is_done : goal.returns-then-is_done
unfolding after_visit
returns-then-is_done c = search choices

pub returns : goal.returns
unfolding after_visit
returns c = search choices
