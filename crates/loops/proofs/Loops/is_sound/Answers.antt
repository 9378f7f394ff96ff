-- `Loops::is_sound` meets its contract: where no loop is open nothing is asked.
-- Assumes nothing.
use Rattle.loops.specs.Loops.{is_sound_loops}
use Rattle.loops.proofs.Places.{none_sound, sound_at}
use Rattle.loops.proofs.Loops.is_sound.Goals as goal

pub returns-then-count-eq0 : goal.returns-then-count-eq0
returns-then-count-eq0 c = search none_sound

pub returns : goal.returns
unfolding is_sound_loops
returns c =
    let full = c.well_formed.0.1.1.0.1.0.1 in
    sound_at c.args.phases c.args.self.count c.args.self.slots full
