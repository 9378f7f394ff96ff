-- `Loops::lpe` meets its contract.
-- Assumes nothing.
use native.Mathlib.Omega.{arith}
use Rattle.loops.specs.Loops.{lpe}
use Rattle.loops.proofs.Places.{older_first, older_small}
use Rattle.loops.proofs.Loops.lpe.Goals as goal

pub opened_at-requires : goal.opened_at-requires
opened_at-requires c =
    let full = c.well_formed.0.1.1.0.1.0.1 in
    rw c.older-older.ensures (older_small c.args.self.count c.args.self.slots full)

pub returns : goal.returns
unfolding lpe
returns c =
    let l = c.args.self in
    rw (c.opened_at.ensures, c.older-older.ensures)
    (rw (c.newest-newest.ensures, older_first l.count l.slots))
