-- `answer::frame::text` meets its contract: the address has two digits.
-- Assumes nothing.
use mathlib.Core.Path.{ap, ◌∙◌}
use native.Mathlib.Omega.{arith}
use lib.ListN.{length}
use Rattle.decimal.proofs.Theorems.{two_length}
use Rattle.answer.specs.Answers.{text_of}
use Rattle.answer.proofs.Lengths.{body_length}
use Rattle.answer.proofs.frame.text.Goals as goal

pub joined-requires : goal.joined-requires
joined-requires c =
    let behind = ap length (c.as_slice.ensures.value ∙ c.body.ensures) in
    omega (arith, ap length c.print_two.ensures, two_length c.args.address, behind, body_length c.args.said)

pub returns : goal.returns
unfolding text_of
returns c = rw (c.joined.ensures, c.print_two.ensures, c.as_slice.ensures.value, c.body.ensures)
