-- `Device::arrived` meets its contract.
-- Assumes nothing.
use Prim.Native.Nat.{◌≤◌}
use mathlib.Core.Path.{sym, ◌∙◌, subst}
use Rattle.link.specs.declared.Taken.{Taken}
use Rattle.pump.specs.Arriving.{data_in}
use Rattle.pump.specs.Device.{with_line}
use Rattle.pump.proofs.Arrivals.{by_packet, line_goes_on, line_ends, data_few}
use Rattle.pump.proofs.device.Device.arrived.Goals as goal
use Rattle.pump.proofs.device.Device.arrived.Goals.{then-arrived, else-arrived}

pub packet_arrived-requires : goal.packet_arrived-requires
packet_arrived-requires c = subst (λ (t : Taken). data_in t.outcome ≤ 40) (sym c.after-taken.ensures) (data_few _ _ c.requires)

pub returns-then-is_safe : goal.returns-then-is_safe
returns-then-is_safe c = search by_packet

pub returns : goal.returns
returns c =
    let basic = c.is_safe.ensures in
    let left = c.if-is_safe.false in
    let came = c.after_byte-arrived.ensures in
    elim c.if-arrived.branch [
      | then-arrived w ↦
          (λ i. record { device = with_line c.args.self (w.line-is i); brought = w.brought-is i })
          ∙ line_ends c.args.self c.args.b _ basic _ left came _ _ w.if-arrived.true w.empty-line.ensures w.asked_in.ensures
      | else-arrived w ↦
          (λ i. record { device = with_line c.args.self (w.line-is i); brought = w.brought-is i })
          ∙ line_goes_on c.args.self c.args.b _ basic _ left came w.if-arrived.false
    ]
