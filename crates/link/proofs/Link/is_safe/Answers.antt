-- `Link::is_safe` meets its contract.
-- Assumes nothing.
use mathlib.Core.Path.{◌∙◌}
use Rattle.link.specs.Link.{is_safe}
use Rattle.link.proofs.Modes.{some_safe}
use Rattle.link.proofs.Link.is_safe.Goals as goal

pub returns : goal.returns
unfolding is_safe
returns c = c.is_some.ensures ∙ some_safe c.args.self.safety
