-- `Rig::set` meets its contract: what the pin call does, and whether it was refused.
-- Assumes nothing.
use mathlib.Core.Path.{ap}
use Rattle.pump.specs.declared.reports.Report.{Report}
use Rattle.player.specs.Rigs.{with_pump, set_rig, set_lines}
use Rattle.player.proofs.rigs.Rig.set.Goals as goal

pub returns-clause-rig : goal.returns-clause-rig
unfolding set_rig
returns-clause-rig c = ap (λ (r : Report). with_pump c.args.self r.pump) c.pin-report.ensures

pub returns-clause-lines : goal.returns-clause-lines
unfolding set_lines
returns-clause-lines c = rw (c.refusal_line.ensures, c.is_some.ensures, c.pin-report.ensures)
