-- `Receiver::sound` meets its contract.
-- Assumes nothing.
use mathlib.Core.Path.{sym, ap}
use Rattle.packet.specs.Receiver.{sound_place, sound_receiver}
use Rattle.packet.proofs.receiver.Receiver.sound.Goals as goal

pub returns-in-None : goal.returns-in-None
unfolding sound_receiver
returns-in-None c = ap sound_place (sym c.in-None.is)

pub returns-in-Some : goal.returns-in-Some
unfolding sound_receiver
returns-in-Some c = rw c.sound_stage.ensures (ap sound_place (sym c.in-Some.is))
