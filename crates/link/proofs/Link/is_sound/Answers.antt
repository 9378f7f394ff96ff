-- `Link::is_sound` meets its contract: limit, timer and receiver, in Safe mode.
-- Assumes nothing.
use mathlib.Core.Path.{sym, ap}
use Rattle.link.specs.Link.{is_sound_link, is_sound_in}
use Rattle.link.proofs.Link.is_sound.Goals as goal

pub returns-in-None : goal.returns-in-None
unfolding is_sound_link
returns-in-None c = ap (is_sound_in c.args.self.bytes) (sym c.in-None.is)

pub returns-in-Some : goal.returns-in-Some
unfolding is_sound_link
returns-in-Some c =
    rw (c.is_timer_sound.ensures, c.sound.ensures, c.receiver.ensures)
    (ap (is_sound_in c.args.self.bytes) (sym c.in-Some.is))
