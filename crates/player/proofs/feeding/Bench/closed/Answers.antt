-- `Bench::closed` meets its contract: the act that the end of the input asks for.
-- Assumes nothing.
use mathlib.Core.Path.{◌∙◌}
use Rattle.base.proofs.Writing.{wrote_as}
use Rattle.player.proofs.Playing.{closing_wrote}
use Rattle.player.proofs.feeding.Bench.closed.Goals as goal

pub returns : goal.returns
returns c =
    closing_wrote c.args.self _ c.input_end.ensures (wrote_as c.copy.ensures (c.as_slice.ensures.value ∙ c.act-acted.ensures.lines))
