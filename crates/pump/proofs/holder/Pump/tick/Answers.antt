-- `Pump::tick` meets its contract.
-- Assumes nothing.
use mathlib.Core.Path.{◌∙◌}
use Rattle.pump.proofs.Running.{one_tick_lem, one_tick_buffer}
use Rattle.pump.proofs.holder.Pump.tick.Goals as goal

pub returns : goal.returns
returns c =
    let ran = c.ticks.ensures in (
      ran.0 ∙ one_tick_lem c.args.self _,
      ran.1 ∙ one_tick_buffer c.args.self _,
    )
