-- `byte_line` meets its contract: refused, no answer, or an answer.
-- Assumes nothing.
use mathlib.Core.Path.{sym, ◌∙◌}
use Rattle.service.proofs.Lines.{byte_refused, byte_silent, byte_answered}
use Rattle.service.proofs.printing.byte_line.Goals as goal

pub returns-then-refused : goal.returns-then-refused
returns-then-refused g c =
    c.line_of.ensures ∙ c.as_slice.ensures.value ∙ c.complaint.ensures ∙ byte_refused _ _ c.if-refused.true

pub returns-then-is_empty : goal.returns-then-is_empty
returns-then-is_empty g c = c.new.ensures ∙ byte_silent _ _ c.if-refused.false (sym c.is_empty.ensures ∙ c.if-is_empty.true)

pub returns : goal.returns
returns g c = c.hex_line.ensures ∙ byte_answered _ _ c.if-refused.false (sym c.is_empty.ensures ∙ c.if-is_empty.false)
