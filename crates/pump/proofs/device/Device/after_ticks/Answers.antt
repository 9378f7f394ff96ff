-- `Device::after_ticks` meets its contract.
-- Assumes nothing.
use Prim.Native.Nat.{◌<◌}
use mathlib.Core.Bool.{true}
use mathlib.Core.Path.{◌≡◌, sym, ap, ◌∙◌, subst}
use lib.Dec.{ltb}
use borrow.Author.Tests.{ltb-true}
use Rattle.base.proofs.Choices.{and_left}
use Rattle.link.specs.Link.{is_sound_link, link_ticks}
use Rattle.link.specs.declared.Link.{Link}
use Rattle.pump.specs.declared.device.Device.{Device}
use Rattle.pump.proofs.Alarms.{after_still, after_due, after_work}
use Rattle.pump.proofs.device.Device.after_ticks.Goals as goal
use Rattle.pump.proofs.device.Device.after_ticks.Goals.{then-is_due, else-is_due}

pub returns-after-is_due : goal.returns-after-is_due
returns-after-is_due c =
    let v = c.args.self in
    let n = c.args.n in
    let s = c.args.core in
    let l = c.ticked-self.result in
    let same : c.if-is_due.self.link ≡ c.args.self.link =
    elim c.if-is_due.branch [
      | then-is_due w ↦ ap (λ (x : Device). x.link) w.self-is
      | else-is_due w ↦ ap (λ (x : Device). x.link) w.self-is
    ] in
    let ticked = c.ticked-self.ensures ∙ ap (link_ticks n) same in
    elim c.if-is_due.branch [
      | then-is_due w ↦
          after_due v n s _ _ c.is_due.ensures l ticked _ w.if-is_due.true w.time_out-self.ensures
          (ap (λ (x : Device). record { core = x.core; line = x.line; link = l }) w.self-is)
      | else-is_due w ↦
          after_work v n s _ _ c.is_due.ensures l ticked w.if-is_due.false
          (ap (λ (x : Device). record { core = x.core; line = x.line; link = l }) w.self-is)
    ]

pub returns-else-n-is_safe : goal.returns-else-n-is_safe
returns-else-n-is_safe c = search after_still
