-- `Pump::after_text` meets its contract.
-- Assumes nothing.
use Prim.Native.Nat.{◌≤◌}
use native.Mathlib.Omega.{arith}
use Rattle.pump.proofs.Calling.{few_in_hand, listened_as}
use Rattle.pump.proofs.holder.Pump.after_text.Goals as goal

pub returns : goal.returns
returns c =
    let full = c.well_formed.0.1.1.0.1.0.1 in
    search listened_as
