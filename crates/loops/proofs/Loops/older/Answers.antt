-- `Loops::older` meets its contract.
-- Assumes nothing.
use mathlib.Core.Path.{sym}
use Rattle.loops.proofs.Places.{older_at}
use Rattle.loops.proofs.Loops.older.Goals as goal

pub returns : goal.returns
returns c =
    let full = c.well_formed.0.1.1.0.1.0.1 in
    rw (c.min.ensures, c.saturating_sub.ensures) (sym (older_at c.args.self.count c.args.self.slots full))
