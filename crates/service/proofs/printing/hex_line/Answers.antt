-- `hex_line` meets its contract: the digits of each byte, and a newline.
-- Assumes nothing.
use mathlib.Core.Path.{◌∙◌, ap, refl}
use mathlib.Core.List.{List, ◌∷◌, [], ◌++◌}
use Prim.Native.Nat.{ℕ}
use native.Mathlib.Omega.{arith}
use Rattle.service.proofs.Hexadecimal.{spelt_none, spelt_length, spelt_more, spelt_all}
use Rattle.service.proofs.printing.hex_line.Goals as goal

pub loop-b-init : goal.loop-b-init
loop-b-init g c = rw c.new-line.ensures (spelt_none _)

pub push-requires : goal.push-requires
push-requires g c = (omega arith, omega (arith, spelt_length c.loop-b.invariant))

pub push-requires-in-loop-b : goal.push-requires-in-loop-b
push-requires-in-loop-b g c = (omega arith, omega (arith, spelt_length c.loop-b.invariant, c.push.ensures.len))

pub push-requires-2 : goal.push-requires-2
push-requires-2 g c = (omega arith, omega (arith, spelt_length c.loop-b.invariant, c.loop-b.invariant.within))

pub loop-b-preserved : goal.loop-b-preserved
loop-b-preserved g c =
    rw
    (c.push-in-loop-b.ensures.items, c.push.ensures.items)
    (spelt_more c.loop-b.invariant _ _ c.loop-b-test.true c.hex_digit.ensures c.hex_digit-in-loop-b.ensures)

pub returns : goal.returns
returns g c = c.push-2.ensures.items ∙ spelt_all c.loop-b.invariant c.loop-b-test.false
