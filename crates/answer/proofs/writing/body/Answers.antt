-- `answer::writing::body` meets its contract: behind the letter stand at most 14 bytes.
-- Assumes nothing.
use mathlib.Core.Path.{ap, ◌∙◌}
use native.Mathlib.Omega.{arith}
use lib.ListN.{length}
use Rattle.answer.proofs.Lengths.{data_length}
use Rattle.answer.proofs.writing.body.Goals as goal

pub joined-requires-in-Answer : goal.joined-requires-in-Answer
joined-requires-in-Answer c =
    omega (arith, ap length (c.as_slice.ensures.value ∙ c.«data».ensures), data_length c.in-Answer.reply)
