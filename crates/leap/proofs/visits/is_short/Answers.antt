-- `is_short` meets its contract.
-- Assumes nothing.
use mathlib.Core.Path.{ap}
use mathlib.Core.Bool.{Bool, ◌||◌}
use lib.Dec.{eqb}
use Rattle.leap.specs.Visits.{is_short}
use Rattle.leap.proofs.Visiting.{fewer_than_left}
use Rattle.leap.proofs.visits.is_short.Goals as goal

pub returns : goal.returns
unfolding is_short
returns c =
    let v = c.args.visit in
    ap (λ (t : Bool). eqb v.target 0 || t) (fewer_than_left v.given c.args.steps v.target c.requires)
