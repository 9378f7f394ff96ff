-- `Pace::stride` meets its contract.
-- Assumes nothing.
use native.Mathlib.Omega.{arith}
use Rattle.leap.specs.Strides.{stride_steps, stride_store}
use Rattle.leap.proofs.Striding.{rates_small, sum_small}
use Rattle.leap.proofs.pace.Pace.stride.Goals as goal

pub overflow_mul-ticks : goal.overflow_mul-ticks
overflow_mul-ticks c =
    let a = c.args in
    omega (arith, rates_small a.self.store a.self.hourly a.self.threshold a.ticks a.self.steady c.requires c.if-ticks-self.true)

pub overflow_add-self : goal.overflow_add-self
overflow_add-self c =
    let a = c.args in
    omega (arith, sum_small a.self.store a.self.hourly a.self.threshold a.ticks a.self.steady c.requires c.if-ticks-self.true)

pub returns-then-ticks-self : goal.returns-then-ticks-self
unfolding stride_steps stride_store
returns-then-ticks-self c = c.stride_in.ensures
