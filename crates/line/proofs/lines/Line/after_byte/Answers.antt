-- `Line::after_byte` meets its contract: what the byte does, by what it is.
-- Assumes nothing.
use mathlib.Core.Path.{sym, ap, ◌∙◌}
use Rattle.line.specs.Lines.{after_arrival, after_byte}
use Rattle.line.proofs.lines.Line.after_byte.Goals as goal

pub returns-in-End : goal.returns-in-End
unfolding after_byte
returns-in-End c = ap (after_arrival c.args.self) (sym c.in-End.is ∙ c.arrival_of.ensures)

pub returns-in-Dropped : goal.returns-in-Dropped
unfolding after_byte
returns-in-Dropped c = ap (after_arrival c.args.self) (sym c.in-Dropped.is ∙ c.arrival_of.ensures)

pub returns-in-Kept : goal.returns-in-Kept
unfolding after_byte
returns-in-Kept c =
    let l = c.args.self in
    let e = sym c.in-Kept.is ∙ c.arrival_of.ensures in
    rw c.with_character.ensures (ap (after_arrival l) e)
