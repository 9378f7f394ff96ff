-- `Pump::byte` meets its contract: the phases are tested one after the other, and then what the byte brought is heard.
-- Assumes nothing.
use Prim.Native.Nat.{ℕ}
use mathlib.Core.List.{List}
use mathlib.Core.Path.{ap}
use native.Mathlib.Omega.{arith}
use lib.ListN.{length}
use borrow.Author.Rules.{rules}
use Rattle.pump.proofs.Calling.{was_none, was_some, byte_ready, handy_behind, byte_refused, byte_silent, byte_answered, byte_parts}
use Rattle.pump.proofs.holder.Pump.byte.Goals as goal
use Rattle.pump.proofs.holder.Pump.byte.Goals.{then-is_none+then-is_whole, then-is_none+else-is_whole, else-is_none}

pub arrived-arrival-requires : goal.arrived-arrival-requires
arrived-arrival-requires c =
    let full = c.well_formed.0.1.1.0.1.0.1 in
    (byte_ready c.args.self _ _ _ c.is_fit.ensures c.of_byte-refusal.ensures (omega (arith, full))
    (was_none _ _ c.is_none.ensures c.if-is_none.true)).1

pub told-listened-requires : goal.told-listened-requires
told-listened-requires c =
    let full = c.well_formed.0.1.1.0.1.0.1 in
    let handy =
    (byte_ready c.args.self _ _ _ c.is_fit.ensures c.of_byte-refusal.ensures (omega (arith, full))
    (was_none _ _ c.is_none.ensures c.if-is_none.true)).0 in
    handy_behind c.args.self c.args.b _ handy c.arrived-arrival.ensures

pub returns : goal.returns
returns c =
    let refusal = c.of_byte-refusal.ensures in
    let tested = c.is_none.ensures in
    let given = c.unstepped.ensures in
    elim c.if-is_none.branch [
      | then-is_none+then-is_whole w ↦
          byte_parts _ _ _ _ _ _ _ _ _ given w.self-is w.length-is w.out-is
          (byte_answered c.args.self _ c.is_fit.ensures _ c.args.b _ refusal (was_none _ _ tested w.if-is_none.true) _ w.arrived-arrival.ensures _
          w.is_whole.ensures _ _ _ _ w.told-listened.ensures
          w.frame_in.ensures w.write-length.ensures.0 w.write-length.ensures.1)
      | then-is_none+else-is_whole w ↦
          byte_parts _ _ _ _ _ _ _ _ _ given w.self-is w.length-is w.out-is
          (byte_silent c.args.self _ c.is_fit.ensures _ c.args.b _ refusal (was_none _ _ tested w.if-is_none.true) _ w.arrived-arrival.ensures _
          w.is_whole.ensures w.if-is_whole.false)
      | else-is_none w ↦
          byte_parts _ _ _ _ _ _ _ _ _ given w.self-is w.length-is w.out-is
          (byte_refused c.args.self _ c.is_fit.ensures _ c.args.b _ refusal (was_some _ _ tested w.if-is_none.false))
    ]
