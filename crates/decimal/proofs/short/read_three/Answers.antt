-- `read_three` meets its contract: its loop keeps `Passed`, and `three_digits` has a law for each way on and each way out. What is left
-- of the text is the measure.
use Rattle.std.proofs.Common.{rules}
use native.Mathlib.Omega.{arith}
use Rattle.decimal.proofs.ThreeDigits.{value_small, three_digits}
use Rattle.decimal.proofs.short.read_three.Goals as goal

pub returns-then-is_empty : goal.returns-then-is_empty
returns-then-is_empty c = search (rules, three_digits)

pub loop-b-preserved : goal.loop-b-preserved
loop-b-preserved c = search three_digits

pub returns-in_default : goal.returns-in_default
returns-in_default c = search three_digits

pub returns-in_default-2 : goal.returns-in_default-2
returns-in_default-2 c = search three_digits

pub returns : goal.returns
returns c = search three_digits
