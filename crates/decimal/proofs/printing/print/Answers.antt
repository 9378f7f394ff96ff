-- `print` meets its contract: `prints` has `print` in each of its four ranges, from its digits.
use Rattle.decimal.proofs.FourDigits.{prints}
use Rattle.decimal.proofs.printing.print.Goals as goal

pub returns-then-x-lt10000 : goal.returns-then-x-lt10000
returns-then-x-lt10000 c = search prints

pub returns-then-x-lt100000 : goal.returns-then-x-lt100000
returns-then-x-lt100000 c = search prints

pub returns-then-x-lt1000000 : goal.returns-then-x-lt1000000
returns-then-x-lt1000000 c = search prints

pub returns-else-x-lt1000000 : goal.returns-else-x-lt1000000
returns-else-x-lt1000000 c = search prints
