-- `Loops::lps` meets its contract.
-- Assumes nothing.
use borrow.Author.Tests.{le-leb, lt-leb}
use Rattle.loops.specs.Loops.{lps}
use Rattle.loops.proofs.Places.{before_first}
use Rattle.loops.proofs.Loops.lps.Goals as goal

pub returns-then-keep-ge3 : goal.returns-then-keep-ge3
unfolding lps
returns-then-keep-ge3 c = simp (le-leb 3 _ (rw c.place-keep.ensures at c.if-keep-ge3.true))

pub returns : goal.returns
unfolding lps
returns c =
    rw (c.opened_at.ensures, c.place-keep.ensures)
    (rw (before_first c.args.phase c.args.self.count c.args.self.slots)
    (simp (lt-leb 3 _ (rw c.place-keep.ensures at c.if-keep-ge3.false))))
