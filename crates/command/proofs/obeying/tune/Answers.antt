-- `tune` meets its contract.
-- Assumes nothing.
use Rattle.std.specs.Prelude.{option_map}
use mathlib.Core.Path.{◌≡◌}
use borrow.Author.Rules.{rules}
use Rattle.command.proofs.Deciding.{so_many, tunes}
use Rattle.command.proofs.obeying.tune.Goals as goal

pub returns : goal.returns
returns c =
    let rate : c.map.result ≡ option_map (so_many c.args.x) c.args.run.rate = search rules in
    rw c.with_rate.ensures (tunes _ _ _ rate)
