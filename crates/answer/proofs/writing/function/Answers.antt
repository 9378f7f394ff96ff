-- `answer::writing::function` meets its contract: a name has at most 3 bytes, and so has a datum.
-- Assumes nothing.
use mathlib.Core.Path.{ap, ◌∙◌}
use native.Mathlib.Omega.{arith}
use lib.ListN.{length}
use Rattle.answer.proofs.Functions.{name_length}
use Rattle.answer.proofs.Lengths.{datum_length}
use Rattle.answer.proofs.writing.function.Goals as goal

pub joined-requires : goal.joined-requires
joined-requires c =
    let behind = ap length (c.as_slice.ensures.value ∙ c.function_datum.ensures) in
    omega (arith, ap length c.name.ensures, behind, name_length c.args.f, datum_length c.args.f)
