-- `Rig::send` meets its contract: one byte, or a return and one byte.
-- Assumes nothing.
use Rattle.player.specs.Rigs.{send_rig, send_lines}
use Rattle.player.proofs.rigs.Rig.send.Goals as goal

pub returns-then-held-clause-rig : goal.returns-then-held-clause-rig
unfolding send_rig
returns-then-held-clause-rig c = rw (c.if-held.true, c.sent-second.ensures.rig, c.sent-first.ensures.rig)

pub returns-then-held-clause-lines : goal.returns-then-held-clause-lines
unfolding send_lines
returns-then-held-clause-lines c =
    rw (
      c.if-held.true,
      c.joined.ensures,
      c.as_slice.ensures.value,
      c.as_slice-then-held.ensures.value,
      c.sent-first.ensures.lines,
      c.sent-second.ensures.lines,
      c.sent-first.ensures.rig,
    )

pub returns-clause-rig : goal.returns-clause-rig
unfolding send_rig
returns-clause-rig c = rw c.if-held.false c.sent.ensures.rig

pub returns-clause-lines : goal.returns-clause-lines
unfolding send_lines
returns-clause-lines c = rw c.if-held.false c.sent.ensures.lines
