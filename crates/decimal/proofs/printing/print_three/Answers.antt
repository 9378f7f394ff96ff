-- `print_three` meets its contract: the three bytes are those of `print_three`.
use Rattle.decimal.specs.Print.{print_three}
use borrow.Author.Rules.{rules}
use Rattle.decimal.proofs.printing.print_three.Goals as goal

pub returns : goal.returns
unfolding print_three
returns c = search rules
