-- `phase_of` meets its contract.
-- Assumes nothing.
use mathlib.Core.Path.{refl}
use Rattle.pump.proofs.Phases.{phase_read, phase_over, phase_under}
use Rattle.pump.proofs.holder.phase_of.Goals as goal
use Rattle.pump.proofs.holder.phase_of.Goals.{else-n-ge1-via-then-n-ge1+else-n-le-PHASES, else-n-ge1-via-else-n-ge1}

pub returns-then-n-le-PHASES : goal.returns-then-n-le-PHASES
returns-then-n-le-PHASES c =
    let full = c.told-phases in
    phase_read c.args.phases.now c.args.n _ full _ c.if-n-ge1.true c.if-n-le-PHASES.true refl

pub returns-else-n-ge1 : goal.returns-else-n-ge1
returns-else-n-ge1 c =
    let full = c.told-phases in
    let stops = c.power_up.ensures in
    elim c.else-n-ge1.branch [
      | else-n-ge1-via-then-n-ge1+else-n-le-PHASES w ↦ phase_over c.args.phases.now c.args.n _ full w.if-n-le-PHASES.false stops
      | else-n-ge1-via-else-n-ge1 w ↦ phase_under c.args.phases.now c.args.n _ full w.if-n-ge1.false stops
    ]
