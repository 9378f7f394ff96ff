-- `short_as` meets its contract: the datum, or what stands for none.
use Rattle.std.proofs.Common.{rules}
use Rattle.test_numbers.proofs.Handed.{short}
use Rattle.test_numbers.proofs.short_as.Goals as goal

pub returns : goal.returns
returns c = short _ _ _ (λ n k. search rules) c.map_or.ensures
