-- `Pump::new` meets its contract.
-- Assumes nothing.
use Rattle.pump.proofs.Holding.{fresh_as}
use Rattle.pump.proofs.holder.Pump.new.Goals as goal

pub returns : goal.returns
returns c = search fresh_as
