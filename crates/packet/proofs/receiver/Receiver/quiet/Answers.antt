-- `Receiver::quiet` meets its contract: it is so many ticks, one after the other.
-- Assumes nothing.
use mathlib.Core.Path.{sym, ◌∙◌}
use Rattle.packet.proofs.Ticking.{ticks_outside, waits, drops}
use Rattle.packet.proofs.receiver.Receiver.quiet.Goals as goal

pub returns-then-passed-lt-PATIENCE : goal.returns-then-passed-lt-PATIENCE
returns-then-passed-lt-PATIENCE c = c.waiting.ensures ∙ waits c.args.self _ c.args.n c.requires c.in-Some.is c.if-passed-lt-PATIENCE.true

pub returns-in-None : goal.returns-in-None
returns-in-None c = sym (ticks_outside c.args.n c.args.self c.in-None.is)

pub returns-else-passed-lt-PATIENCE : goal.returns-else-passed-lt-PATIENCE
returns-else-passed-lt-PATIENCE c =
    c.outside.ensures
    ∙ drops c.args.self _ c.args.n c.requires c.in-Some.is c.if-passed-lt-PATIENCE.false
