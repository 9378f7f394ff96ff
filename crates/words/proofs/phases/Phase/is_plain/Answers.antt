-- `Phase::is_plain` meets its contract.
-- Assumes nothing.
use Rattle.words.proofs.Data.{plain_sound}
use Rattle.words.proofs.phases.Phase.is_plain.Goals as goal

pub returns : goal.returns
returns c = plain_sound c.args.self c.number.result c.number.ensures
