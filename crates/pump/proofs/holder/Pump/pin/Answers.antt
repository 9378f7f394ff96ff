-- `Pump::pin` meets its contract.
-- Assumes nothing.
use Prim.Native.Nat.{◌≤◌}
use mathlib.Core.Path.{ap, ◌∙◌}
use native.Mathlib.Omega.{arith}
use lib.ListN.{length}
use Rattle.pump.specs.Reports.{unstepped}
use Rattle.pump.specs.declared.holder.Pump.{Pump}
use Rattle.pump.proofs.Calling.{was_none, was_some, pin_handy, pin_refused, pin_done}
use Rattle.pump.proofs.holder.Pump.pin.Goals as goal
use Rattle.pump.proofs.holder.Pump.pin.Goals.{then-is_none, else-is_none}

pub edge-self-requires : goal.edge-self-requires
edge-self-requires c =
    let full = c.well_formed.0.1.1.0.1.0.1 in
    let few : length c.args.self.phases ≤ 99 = omega (arith, full) in
    (pin_handy c.args.self _ c.is_sound.ensures _ _ _ c.of_pin-refusal.ensures few
    (was_none _ _ c.is_none.ensures c.if-is_none.true)).current_few

pub returns : goal.returns
returns c =
    let sound = c.is_sound.ensures in
    let refusal = c.of_pin-refusal.ensures in
    let tested = c.is_none.ensures in
    let given = c.of_pin-refusal.result in
    c.unstepped.ensures
    ∙ elim c.if-is_none.branch [
      | then-is_none w ↦
          ap (λ (x : Pump). unstepped x 0 given) w.self-is
          ∙ pin_done c.args.self _ sound _ _ _ refusal _ (was_none _ _ tested w.if-is_none.true) w.edge-self.ensures
      | else-is_none w ↦
          ap (λ (x : Pump). unstepped x 0 given) w.self-is
          ∙ pin_refused c.args.self _ sound _ _ _ refusal (was_some _ _ tested w.if-is_none.false)
    ]
