-- `Pump::with_phase` meets its contract.
-- Assumes nothing.
use Rattle.pump.proofs.Phases.{set_within, set_over, set_under}
use Rattle.pump.proofs.holder.Pump.with_phase.Goals as goal
use Rattle.pump.proofs.holder.Pump.with_phase.Goals.{else-n-ge1-via-then-n-ge1+else-n-le-PHASES, else-n-ge1-via-else-n-ge1}

pub returns-then-n-le-PHASES : goal.returns-then-n-le-PHASES
returns-then-n-le-PHASES c =
    let full = c.well_formed.0.1.1.0.1.0.1 in
    set_within c.args.self c.args.n c.args.phase full c.if-n-ge1.true c.if-n-le-PHASES.true

pub returns-else-n-ge1 : goal.returns-else-n-ge1
returns-else-n-ge1 c =
    let full = c.well_formed.0.1.1.0.1.0.1 in
    elim c.else-n-ge1.branch [
      | else-n-ge1-via-then-n-ge1+else-n-le-PHASES w ↦ set_over c.args.self c.args.n c.args.phase full w.if-n-le-PHASES.false
      | else-n-ge1-via-else-n-ge1 w ↦ set_under c.args.self c.args.n c.args.phase full w.if-n-ge1.false
    ]
