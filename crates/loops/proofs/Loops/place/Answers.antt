-- `Loops::place` meets its contract.
-- Assumes nothing.
use mathlib.Core.Path.{sym, ◌∙◌}
use Rattle.loops.proofs.Places.{place_at}
use Rattle.loops.proofs.Loops.place.Goals as goal

pub returns-then-count-a : goal.returns-then-count-a
returns-then-count-a c =
    let full = c.well_formed.0.1.1.0.1.0.1 in
    sym
    (place_at c.args.phase c.args.self.count c.args.self.slots full
    ∙ simp c.if-count-a.true)

pub returns-then-count-b : goal.returns-then-count-b
returns-then-count-b c =
    let full = c.well_formed.0.1.1.0.1.0.1 in
    sym
    (place_at c.args.phase c.args.self.count c.args.self.slots full
    ∙ simp (c.if-count-a.false, c.if-count-b.true))

pub returns-then-count-c : goal.returns-then-count-c
returns-then-count-c c =
    let full = c.well_formed.0.1.1.0.1.0.1 in
    sym
    (place_at c.args.phase c.args.self.count c.args.self.slots full
    ∙ simp (c.if-count-a.false, c.if-count-b.false, c.if-count-c.true))

pub returns : goal.returns
returns c =
    let full = c.well_formed.0.1.1.0.1.0.1 in
    rw c.min.ensures
    (sym
    (place_at c.args.phase c.args.self.count c.args.self.slots full
    ∙ simp (c.if-count-a.false, c.if-count-b.false, c.if-count-c.false)))
