-- `Pace::long_stride` meets its contract.
-- Assumes nothing.
use native.Mathlib.Omega.{arith}
use Rattle.leap.proofs.Striding.{long_small, by_thousands}
use Rattle.leap.proofs.pace.Pace.long_stride.Goals as goal

pub overflow_add-result-3 : goal.overflow_add-result-3
overflow_add-result-3 c =
    let a = c.args in
    omega (arith, long_small a.self.store a.self.hourly a.self.threshold a.ticks a.self.steady c.requires)

pub returns : goal.returns
returns c =
    let a = c.args in
    by_thousands a.self.store a.self.hourly a.self.threshold a.ticks a.self.steady c.requires
