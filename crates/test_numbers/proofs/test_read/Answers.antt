-- `test_read` meets its contract: the number, or what stands for none.
use Rattle.std.proofs.Common.{rules}
use mathlib.Core.Path.{ap, ◌∙◌}
use Rattle.test_numbers.specs.Face.{reading_as}
use Rattle.test_numbers.proofs.Handed.{number}
use Rattle.test_numbers.proofs.test_read.Goals as goal

pub returns : goal.returns
returns c = number _ _ _ (λ n k. search rules) c.map_or.ensures ∙ ap reading_as c.read.ensures
