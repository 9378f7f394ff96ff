-- `last_digit` meets its contract: the sum is what `last_digit` says, and it fits a byte.
use Rattle.decimal.specs.Print.{last_digit}
use borrow.Author.Rules.{rules}
use Rattle.decimal.proofs.printing.last_digit.Goals as goal

pub returns : goal.returns
unfolding last_digit
returns c = search rules
