-- `answer_line` meets its contract: all of an answer but its first byte and its last, and a newline.
-- Assumes nothing.
use mathlib.Core.Path.{◌∙◌}
use native.Mathlib.Omega.{arith}
use Rattle.player.proofs.Prints.{answer_framed}
use Rattle.player.proofs.printing.answer_line.Goals as goal

pub returns-in-len2-up : goal.returns-in-len2-up
returns-in-len2-up c = c.joined.ensures ∙ answer_framed _ _ _ c.if-refused.false (λ z. absurd (omega arith))
