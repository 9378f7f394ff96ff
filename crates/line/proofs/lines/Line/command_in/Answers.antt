-- `Line::command_in` meets its contract: an over-long line is malformed, any other asks for what stands behind its address.
-- Assumes nothing.
use mathlib.Core.Path.{ap, ◌∙◌}
use Rattle.line.specs.Addresses.{unaddressed}
use Rattle.line.specs.Commands.{command_of}
use Rattle.line.specs.Lines.{command_in}
use Rattle.line.proofs.lines.Line.command_in.Goals as goal

pub returns-then-self : goal.returns-then-self
unfolding command_in
returns-then-self c = simp c.if-self.true

pub returns-else-self : goal.returns-else-self
unfolding command_in
returns-else-self c = simp c.if-self.false (c.command_of.ensures ∙ ap command_of (c.unaddressed.ensures ∙ ap unaddressed c.text.ensures))
