-- `read` meets its contract: its loop keeps `Scan`, and `scan` has a law for each way on and each way out, whose premises are the
-- tests of the code on the way there.
use native.Mathlib.Omega.{arith}
use Rattle.decimal.proofs.Scan.{value_small, scan}
use Rattle.decimal.proofs.input.read.Goals as goal
use Rattle.decimal.proofs.input.read.Goals.{in-46+else-pointed, in-48-to-57+else-digits-ge4+then-pointed-2+else-after-ge3, in-48-to-57+else-digits-ge4+else-pointed-2}

pub returns-then-pointed : goal.returns-then-pointed
returns-then-pointed c = search scan

pub returns-then-digits-ge4 : goal.returns-then-digits-ge4
returns-then-digits-ge4 c = search scan

pub returns-then-after-ge3 : goal.returns-then-after-ge3
returns-then-after-ge3 c = search scan

pub loop-b-preserved : goal.loop-b-preserved
loop-b-preserved c =
    elim c.match-b.branch [
      | in-46+else-pointed w ↦ rw (w.value-is, w.digits-is, w.pointed-is, w.after-is) (search scan)
      | in-48-to-57+else-digits-ge4+then-pointed-2+else-after-ge3 w ↦
          rw (w.value-is, w.digits-is, w.pointed-is, w.after-is) (search scan)
      | in-48-to-57+else-digits-ge4+else-pointed-2 w ↦
          rw (w.value-is, w.digits-is, w.pointed-is, w.after-is) (search scan)
    ]

pub returns-in_default : goal.returns-in_default
returns-in_default c = search scan

pub returns-in_default-2 : goal.returns-in_default-2
returns-in_default-2 c = search scan

pub returns-then-digits-eq0 : goal.returns-then-digits-eq0
returns-then-digits-eq0 c = search scan

pub returns-in-0 : goal.returns-in-0
returns-in-0 c = search scan

pub returns-in-1 : goal.returns-in-1
returns-in-1 c = search scan

pub returns-in-2 : goal.returns-in-2
returns-in-2 c = search scan

pub returns-in_default-after : goal.returns-in_default-after
returns-in_default-after c = search scan
