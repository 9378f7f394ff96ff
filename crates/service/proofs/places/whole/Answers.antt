-- `whole` meets its contract: a byte of two digits, held where there is room for it.
-- Assumes nothing.
use native.Mathlib.Omega.{arith}
use Rattle.service.proofs.Digits.{value_small}
use Rattle.service.proofs.Held.{whole_place_lem, whole_held_lem, broken}
use Rattle.service.proofs.places.whole.Goals as goal

pub overflow_add-held : goal.overflow_add-held
overflow_add-held c = let low = value_small _ _ c.in-Some.ensures in omega (arith, low)

pub returns-in-Some : goal.returns-in-Some
returns-in-Some c = (
  whole_place_lem _ _ _ _ _ c.in-Some.ensures c.if-high-lt16.true c.if-n-held.true,
  whole_held_lem _ _ _ _ _ c.in-Some.ensures c.if-high-lt16.true c.if-n-held.true,
)

pub returns-in_default : goal.returns-in_default
returns-in_default c = search broken

pub returns-in_default-2 : goal.returns-in_default-2
returns-in_default-2 c = search broken

pub returns-in_default-3 : goal.returns-in_default-3
returns-in_default-3 c = search broken
