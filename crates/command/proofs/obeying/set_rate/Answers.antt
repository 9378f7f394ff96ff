-- `set_rate` meets its contract.
-- Assumes nothing.
use Rattle.program.proofs.Choosing.{told, passed}
use Rattle.command.specs.Obeying.{set_rate}
use Rattle.command.proofs.Deciding.{setting}
use Rattle.command.proofs.obeying.set_rate.Goals as goal

pub returns-then-is_operating : goal.returns-then-is_operating
unfolding set_rate
returns-then-is_operating c = search setting

pub returns : goal.returns
unfolding set_rate
returns c =
    passed _ _ _ _
    (told _ _ _ c.is_operating.ensures c.if-is_operating.false)
    (rw (
      c.set_phase_to.ensures,
      c.with_stored.ensures,
      c.unwrap_or.ensures,
      c.judge_stored-verdict.ensures,
    ))
