-- `Pump::renew` meets its contract: after n turns the first n phases are those of power-up.
-- Assumes nothing.
use native.Mathlib.Omega.{arith}
use Rattle.pump.proofs.Renewing.{renewing_none, renewing_more, renewing_all}
use Rattle.pump.proofs.holder.Pump.renew.Goals as goal

pub returns : goal.returns
returns c =
    let turn = c.loop-n in
    let full = c.well_formed.0.1.1.0.1.0.1 in
    renewing_all c.args.self turn.self turn.n turn.invariant (omega (arith, full))
