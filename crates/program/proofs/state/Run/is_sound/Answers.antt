-- `Run::is_sound` meets its contract: its tests, joined, are the definition.
-- Assumes nothing.
use mathlib.Core.Path.{◌≡◌}
use borrow.Author.Rules.{rules}
use Rattle.dispense.specs.Rates.{thousandths}
use Rattle.program.specs.Sound.{is_sound_run}
use Rattle.program.proofs.state.Run.is_sound.Goals as goal

pub returns : goal.returns
unfolding is_sound_run
returns c =
    let rate : c.map_or.result ≡ thousandths c.args.self.rate = search rules in
    rw (c.is_sound_mode.ensures, c.is_sound.ensures, c.is_sound_trap.ensures, rate)
