-- `Device::is_sound` meets its contract.
-- Assumes nothing.
use Rattle.pump.specs.Device.{is_sound_device}
use Rattle.pump.proofs.device.Device.is_sound.Goals as goal

pub returns : goal.returns
unfolding is_sound_device
returns c =
    rw (
      c.is_sound-3.ensures,
      c.is_sound-2.ensures,
      c.is_sound.ensures,
      c.is_safe.ensures,
    )
