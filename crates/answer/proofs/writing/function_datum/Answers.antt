-- `answer::writing::function_datum` meets its contract: the output's level is its last digit.
-- Assumes nothing.
use mathlib.Core.Path.{◌∙◌}
use Rattle.decimal.specs.Print.{last_digit}
use Rattle.answer.proofs.Functions.{data_shown}
use Rattle.answer.proofs.writing.function_datum.Goals as goal

pub returns-then-is_out : goal.returns-then-is_out
unfolding last_digit
returns-then-is_out c = c.text-then-is_out.ensures ∙ search data_shown
