-- `Loops::lop` meets its contract.
-- Assumes nothing.
use Prim.Native.Nat.{◌+◌}
use native.Mathlib.Omega.{arith}
use borrow.Author.Tests.{le-leb, lt-leb}
use Rattle.loops.specs.Loops.{opened, newest, lop}
use Rattle.loops.proofs.Places.{older_first, older_small}
use Rattle.loops.proofs.Loops.lop.Goals as goal

pub closed_to-requires : goal.closed_to-requires
closed_to-requires c =
    let full = c.well_formed.0.1.1.0.1.0.1 in
    rw c.older-older.ensures (older_small c.args.self.count c.args.self.slots full)

pub returns-then-n-newest : goal.returns-then-n-newest
unfolding lop
returns-then-n-newest c =
    let reached = rw c.newest-newest.ensures at c.if-n-newest.true in
    rw (c.closed_to.ensures, c.older-older.ensures, older_first c.args.self.count c.args.self.slots)
    (simp (le-leb c.args.n ((newest (opened c.args.self)).passes + 1) (omega (arith, reached))))

pub opened_at-requires : goal.opened_at-requires
opened_at-requires c =
    let full = c.well_formed.0.1.1.0.1.0.1 in
    rw c.older-older.ensures (older_small c.args.self.count c.args.self.slots full)

pub returns : goal.returns
unfolding lop
returns c =
    let more = rw c.newest-newest.ensures at c.if-n-newest.false in
    rw (c.opened_at.ensures, c.older-older.ensures)
    (rw (c.newest-newest.ensures, older_first c.args.self.count c.args.self.slots)
    (simp (lt-leb c.args.n ((newest (opened c.args.self)).passes + 1) (omega (arith, more)))))
