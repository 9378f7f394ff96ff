-- `Rig::finish` meets its contract: a return, and an empty line where the text had no answer.
-- Assumes nothing.
use mathlib.Core.Path.{ap}
use mathlib.Core.Bool.{false}
use Rattle.player.specs.Rigs.{finish_rig, finish_lines}
use Rattle.player.specs.declared.rigs.Rig.{Rig}
use Rattle.player.proofs.Acting.{holding}
use Rattle.player.proofs.rigs.Rig.finish.Goals as goal

pub returns-clause-rig : goal.returns-clause-rig
unfolding finish_rig
returns-clause-rig c = ap (λ (g : Rig). holding g.pump false) c.send-last.ensures.rig

pub returns-clause-lines : goal.returns-clause-lines
unfolding finish_lines
returns-clause-lines c =
    rw (
      c.joined.ensures,
      c.as_slice.ensures.value,
      c.as_slice-2.ensures.value,
      c.silence_line-silence.ensures,
      c.send-last.ensures.rig,
      c.send-last.ensures.lines,
    )
