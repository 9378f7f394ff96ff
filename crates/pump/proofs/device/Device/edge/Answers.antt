-- `Device::edge` meets its contract.
-- Assumes nothing.
use mathlib.Core.Path.{◌≡◌, ap, ◌∙◌}
use Rattle.pump.specs.Device.{edge, edge_of, with_core}
use Rattle.pump.proofs.Hearing.{edge_2, edge_4, edge_6}
use Rattle.pump.proofs.device.Device.edge.Goals as goal
use Rattle.pump.proofs.device.Device.edge.Goals.{in-2, in-4, in_default}

pub returns : goal.returns
unfolding edge
returns c =
    let first = c.args in
    let core = c.match-pin.core in
    let moved : core ≡ edge_of first.self.core first.pin first.high =
    elim c.match-pin.branch [
      | in-2 w ↦ edge_2 first.self.core first.pin first.high core w.in-2.is (w.core-is ∙ w.pin_two-core.ensures)
      | in-4 w ↦ edge_4 first.self.core first.pin first.high core w.in-4.is (w.core-is ∙ w.pin_four-core.ensures)
      | in_default w ↦
          edge_6 first.self.core first.pin first.high core w.in_default.in_default-own.rest.0.1 w.in_default.in_default-own.rest.1 (w.core-is ∙ w.pin_six-core.ensures)
    ] in
    c.with_core.ensures ∙ ap (with_core first.self) moved
