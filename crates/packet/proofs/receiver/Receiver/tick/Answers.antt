-- `Receiver::tick` meets its contract.
-- Assumes nothing.
use Rattle.packet.specs.Receiver.{ticks}
use Rattle.packet.proofs.receiver.Receiver.tick.Goals as goal

pub returns : goal.returns
unfolding ticks
returns c = c.quiet.ensures
