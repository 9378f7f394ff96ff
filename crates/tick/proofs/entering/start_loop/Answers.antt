-- `start_loop` meets its contract.
-- Assumes nothing.
use mathlib.Core.Path.{sym, ap, ◌∙◌}
use Rattle.tick.specs.Entering.{begun, start_loop}
use Rattle.tick.proofs.entering.start_loop.Goals as goal

pub returns-in_default : goal.returns-in_default
unfolding start_loop
returns-in_default c = rw c.raise.ensures (ap (begun c.args.run) (sym c.in_default.is ∙ c.lps.ensures))

pub returns : goal.returns
unfolding start_loop
returns c =
    rw (c.go_on.ensures, c.with_loops.ensures)
    (ap (begun c.args.run) (sym c.in-Some.is ∙ c.lps.ensures))
