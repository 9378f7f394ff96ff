-- `length_taken` meets its contract: the range, and whether there are data.
-- Assumes nothing.
use mathlib.Core.Path.{sym, ap, ◌∙◌}
use native.Mathlib.Omega.{arith}
use Rattle.packet.specs.Packets.{is_length}
use Rattle.packet.specs.Receiver.{length_taken}
use Rattle.packet.proofs.Steps.{some_data, too_short, too_long}
use Rattle.packet.proofs.receiver.length_taken.Goals as goal
use Rattle.packet.proofs.receiver.length_taken.Goals.{in_default-via-then-b-lt4, in_default-via-else-b-lt4+else-b-lt45}

pub returns-in-4 : goal.returns-in-4
unfolding length_taken is_length
returns-in-4 c = c.going_on.ensures ∙ sym (ap length_taken c.in-4.is)

pub returns-in-5-to-44 : goal.returns-in-5-to-44
returns-in-5-to-44 c = c.going_on-in-5-to-44.ensures ∙ some_data c.args.b (omega arith) (omega arith)

pub returns-in_default : goal.returns-in_default
returns-in_default c =
    c.wrong.ensures
    ∙ elim c.in_default.branch [
      | in_default-via-then-b-lt4 w ↦ too_short c.args.b (omega arith)
      | in_default-via-else-b-lt4+else-b-lt45 w ↦ too_long c.args.b (omega arith)
    ]
