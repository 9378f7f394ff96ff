-- `print_two` meets its contract: the two bytes are those of `print_two`.
use Rattle.decimal.specs.Print.{print_two}
use borrow.Author.Rules.{rules}
use Rattle.decimal.proofs.printing.print_two.Goals as goal

pub returns : goal.returns
unfolding print_two
returns c = search rules
