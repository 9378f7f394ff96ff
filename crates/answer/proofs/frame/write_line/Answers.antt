-- `answer::frame::write_line` meets its contract: STX, the text and ETX are three runs from the first byte on.
-- Assumes nothing.
use mathlib.Core.Path.{ap, ◌∙◌}
use native.Mathlib.Omega.{arith}
use lib.ListN.{length}
use Rattle.answer.proofs.Lengths.{text_length, body_length}
use Rattle.answer.proofs.frame.write_line.Goals as goal

pub copy-b-requires : goal.copy-b-requires
copy-b-requires c =
    let said = c.args.said in
    omega (arith, ap length (c.as_slice.ensures.value ∙ c.text.ensures), text_length c.args.address said, body_length said)

pub put-requires : goal.put-requires
put-requires c =
    let said = c.args.said in
    omega (arith, ap length (c.as_slice.ensures.value ∙ c.text.ensures), text_length c.args.address said, body_length said)
