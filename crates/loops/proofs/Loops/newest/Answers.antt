-- `Loops::newest` meets its contract.
-- Assumes nothing.
use Rattle.loops.specs.Loops.{newest}
use Rattle.loops.proofs.Places.{older_small, newest_at}
use Rattle.loops.proofs.Loops.newest.Goals as goal

pub returns-then-self-eq0 : goal.returns-then-self-eq0
unfolding newest
returns-then-self-eq0 c = rw c.if-self-eq0.true

pub bounds-self-i : goal.bounds-self-i
bounds-self-i c =
    let full = c.well_formed.0.1.1.0.1.0.1 in
    rw c.older-i.ensures (older_small c.args.self.count c.args.self.slots full)

pub returns : goal.returns
returns c =
    let full = c.well_formed.0.1.1.0.1.0.1 in
    rw c.older-i.ensures (newest_at c.args.self.count c.args.self.slots full c.if-self-eq0.false)
