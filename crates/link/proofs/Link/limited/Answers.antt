-- `Link::limited` meets its contract: 0 is Basic mode.
-- Assumes nothing.
use mathlib.Core.Path.{sym, ap₂, ◌∙◌}
use Rattle.link.specs.Link.{safe_link}
use Rattle.link.proofs.Modes.{no_limit, some_limit}
use Rattle.link.proofs.Link.limited.Goals as goal

pub returns-then-n-eq0 : goal.returns-then-n-eq0
returns-then-n-eq0 c = c.basic.ensures ∙ sym (no_limit _ c.if-n-eq0.true)

pub returns : goal.returns
returns c =
    c.joined.ensures ∙ ap₂ (safe_link _) c.whole_limit.ensures c.outside.ensures ∙ sym (some_limit _ c.if-n-eq0.false)
