-- `ticks_line` meets its contract: refused, or counted.
-- Assumes nothing.
use mathlib.Core.Path.{◌∙◌}
use Rattle.service.proofs.Lines.{ticks_refused, ticks_counted}
use Rattle.service.proofs.printing.ticks_line.Goals as goal

pub returns-then-elapsed : goal.returns-then-elapsed
returns-then-elapsed c =
    c.line_of.ensures ∙ c.as_slice.ensures.value ∙ c.complaint.ensures ∙ ticks_refused _ _ c.if-elapsed.true

pub returns : goal.returns
returns c = c.effects_line.ensures ∙ ticks_counted _ _ c.if-elapsed.false
