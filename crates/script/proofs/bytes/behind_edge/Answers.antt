-- `behind_edge` meets its contract: a blank behind `E`.
-- Assumes nothing.
use Rattle.script.proofs.Letters.{bytes}
use Rattle.script.proofs.bytes.behind_edge.Goals as goal

pub returns-then-b-eq32 : goal.returns-then-b-eq32
returns-then-b-eq32 c = search bytes

pub returns : goal.returns
returns c = search bytes
