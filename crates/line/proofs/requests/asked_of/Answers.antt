-- `asked_of` meets its contract: the address, and what stands behind it.
-- Assumes nothing.
use Rattle.line.proofs.Requesting.{asked_whole}
use Rattle.line.proofs.requests.asked_of.Goals as goal

pub returns : goal.returns
returns c = search asked_whole
