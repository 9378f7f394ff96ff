-- `Phase::is_sound` meets its contract: a plain phase at once, another by its numbers and its function, one after the other.
-- Assumes nothing.
use Rattle.words.proofs.Data.{phase_tests}
use Rattle.words.proofs.phases.Phase.is_sound.Goals as goal

pub returns-then-is_writable-2 : goal.returns-then-is_writable-2
returns-then-is_writable-2 c = search phase_tests

pub returns-else-is_writable-2 : goal.returns-else-is_writable-2
returns-else-is_writable-2 c = search phase_tests

pub returns-else-is_writable : goal.returns-else-is_writable
returns-else-is_writable c = search phase_tests
