-- `Rig::run` meets its contract: the ticks, and their counts where they were taken.
-- Assumes nothing.
use mathlib.Core.Path.{ap}
use Rattle.player.specs.Rigs.{with_pump, run_rig, run_lines}
use Rattle.player.specs.declared.elapsing.Elapsed.{Elapsed}
use Rattle.player.proofs.rigs.Rig.run.Goals as goal

pub returns-clause-rig : goal.returns-clause-rig
unfolding run_rig
returns-clause-rig c = ap (λ (t : Elapsed). with_pump c.args.self t.pump) c.elapse-elapsed.ensures

pub returns-clause-lines : goal.returns-clause-lines
unfolding run_lines
returns-clause-lines c = rw (c.ticks_line.ensures, c.elapse-elapsed.ensures)
