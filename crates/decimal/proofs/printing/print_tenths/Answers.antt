-- `print_tenths` meets its contract: the three bytes are those of `print_tenths`.
use Rattle.decimal.specs.Print.{print_tenths}
use borrow.Author.Rules.{rules}
use Rattle.decimal.proofs.printing.print_tenths.Goals as goal

pub returns : goal.returns
unfolding print_tenths
returns c = search rules
