-- `Line::asked_in` meets its contract: an over-long line is malformed, any other asks for what its kept characters ask for.
-- Assumes nothing.
use mathlib.Core.Path.{sym, ap, ◌∙◌}
use Rattle.line.specs.Requests.{asked_of, asked_in}
use Rattle.line.proofs.Theorems.{asked_text}
use Rattle.line.proofs.lines.Line.asked_in.Goals as goal

pub returns-then-self : goal.returns-then-self
unfolding asked_in
returns-then-self c = simp (c.if-self.true, c.address_in.ensures)

pub returns-else-self : goal.returns-else-self
returns-else-self c = c.asked_of.ensures ∙ ap asked_of c.text.ensures ∙ sym (asked_text c.args.self c.if-self.false)
