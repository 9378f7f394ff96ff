-- `crc::check` meets its contract: the register so far, and what is left of the bytes, end as the check of all.
-- Assumes nothing.
use Rattle.crc.proofs.Slices.{passing}
use Rattle.crc.proofs.check.Goals as goal

pub loop-b-init : goal.loop-b-init
loop-b-init c = search passing

pub loop-b-preserved : goal.loop-b-preserved
loop-b-preserved c = search passing

pub returns : goal.returns
returns c = search passing
