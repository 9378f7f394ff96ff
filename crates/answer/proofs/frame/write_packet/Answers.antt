-- `answer::frame::write_packet` meets its contract: a text fits in a packet.
-- Assumes nothing.
use mathlib.Core.Path.{ap, ◌∙◌}
use native.Mathlib.Omega.{arith}
use lib.ListN.{length}
use Rattle.answer.proofs.Lengths.{text_length, body_length}
use Rattle.answer.proofs.frame.write_packet.Goals as goal

pub send-requires : goal.send-requires
send-requires c =
    let said = c.args.said in
    let text = ap length (c.as_slice.ensures.value ∙ c.text.ensures) in (
      omega (arith, text, text_length c.args.address said, body_length said),
      omega (arith, text, text_length c.args.address said, body_length said),
    )
