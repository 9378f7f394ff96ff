-- `Pump::renew` meets its contract: after n turns the first n phases are those of power-up.
-- Assumes nothing.
use Rattle.pump.proofs.Renewing.{Renewing}
use Rattle.pump.proofs.holder.Pump.renew.Given as goal

abbrev pub invariant-loop-n : goal.invariant-loop-n
invariant-loop-n l = Renewing l.initial.self l.self l.n
