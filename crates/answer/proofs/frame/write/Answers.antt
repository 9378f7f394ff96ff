-- `answer::frame::write` meets its contract: the frame is written where there is something to say and room for it.
-- Assumes nothing.
use native.Mathlib.Omega.{arith}
use Rattle.base.proofs.Writing.{wrote_as, wrote_none}
use Rattle.answer.specs.declared.frame.Frame.TheVariants.{Line, Packet}
use Rattle.answer.proofs.Buffers.{untouched, answered, something}
use Rattle.answer.proofs.frame.write.Goals as goal

pub returns-then-out-lt-ROOM : goal.returns-then-out-lt-ROOM
returns-then-out-lt-ROOM c = untouched _ _ _ _ (omega arith)

pub returns-in-Nothing : goal.returns-in-Nothing
returns-in-Nothing c = answered _ _ _ (omega arith) (wrote_as (wrote_none _ _ (omega arith)) (rw c.in-Nothing.is))

pub returns-in-Line : goal.returns-in-Line
returns-in-Line c =
    let framed = something Line c.args.address c.args.said c.in_default.not-Nothing in
    answered _ _ _ (omega arith) (wrote_as c.write_line.ensures (rw c.in-Line.is framed))

pub returns-in-Packet : goal.returns-in-Packet
returns-in-Packet c =
    let framed = something Packet c.args.address c.args.said c.in_default.not-Nothing in
    answered _ _ _ (omega arith) (wrote_as c.write_packet.ensures (rw c.in-Packet.is framed))
