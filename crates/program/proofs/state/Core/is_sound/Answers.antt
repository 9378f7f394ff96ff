-- `Core::is_sound` meets its contract: its tests, joined, are the definition.
-- Assumes nothing.
use Rattle.program.specs.Sound.{is_sound_core}
use Rattle.program.proofs.state.Core.is_sound.Goals as goal

pub returns : goal.returns
unfolding is_sound_core
returns c =
    rw (c.is_sound-3.ensures, c.is_sound-2.ensures, c.is_sound.ensures)
    (rw (c.is_writable.ensures, c.is_diameter.ensures))
