-- `packets` is safe and ends: each call that is not refused does at least a tick, and no more than are left.
-- Assumes nothing.
use mathlib.Core.Path.{sym, ◌∙◌}
use native.Mathlib.Omega.{arith}
use lib.ListN.{length-take}
use Rattle.service.proofs.Lines.{packet_few, call_few, call_some}
use Rattle.service.proofs.desk.packets.Goals as goal

pub slice_bounds-packet-end : goal.slice_bounds-packet-end
slice_bounds-packet-end g c =
    let few = packet_few _ _ _ c.portion.ensures _ c.ticks-report.ensures.0 in
    omega (arith, few)

pub slice_bounds-answered-end : goal.slice_bounds-answered-end
slice_bounds-answered-end g c =
    let few = packet_few _ _ _ c.portion.ensures _ c.ticks-report.ensures.0 in
    simp length-take (omega (arith, few))

pub overflow_sub-left : goal.overflow_sub-left
overflow_sub-left g c = call_few _ _ _ c.portion.ensures _ c.ticks-report.ensures.0

pub loop-left-smaller : goal.loop-left-smaller
loop-left-smaller g c =
    let taken = sym c.is_some.ensures ∙ c.if-is_some.false in
    let asked = c.portion.ensures in
    let told = c.ticks-report.ensures.0 in
    omega (arith, call_some _ _ _ asked _ told (omega arith) taken, call_few _ _ _ asked _ told)
