-- `Pump::ticks` meets its contract: the phases are tested one after the other, and then the ticks that are allowed are run, up to one that
-- raises an alarm.
-- Assumes nothing.
use Rattle.pump.proofs.Running.{Ran, Calm}
use Rattle.pump.proofs.holder.Pump.ticks.Given as goal

abbrev pub invariant-loop-going : goal.invariant-loop-going
invariant-loop-going l = Ran l.self l.span l.going × Calm l.self l.span l.going

abbrev pub decreases-loop-going : goal.decreases-loop-going
decreases-loop-going l = l.going.left
