-- `clear_total` meets its contract.
-- Assumes nothing.
use Rattle.command.specs.Obeying.{clear_total}
use Rattle.command.proofs.obeying.clear_total.Goals as goal

pub returns : goal.returns
unfolding clear_total
returns c =
    rw (
      c.decide.ensures,
      c.clear.ensures,
      c.judge_idle-verdict.ensures,
      c.is_operating.ensures,
    )
