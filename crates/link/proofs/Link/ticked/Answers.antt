-- `Link::ticked` meets its contract: it is so many ticks, one after the other.
-- Assumes nothing.
use mathlib.Core.Path.{sym, ap, ap₂, ◌∙◌}
use Rattle.packet.specs.Receiver.{ticks, sound_receiver}
use Rattle.link.specs.Link.{safe_link}
use Rattle.link.proofs.Modes.{stands, basic_ticks, safe_ticks}
use Rattle.link.proofs.Link.ticked.Goals as goal

pub quiet-receiver-requires : goal.quiet-receiver-requires
quiet-receiver-requires c =
    ap sound_receiver c.receiver.ensures ∙ (stands c.args.self _ c.requires c.in-Some.is).received

pub timer_ticked-requires : goal.timer_ticked-requires
timer_ticked-requires c = (stands c.args.self _ c.requires c.in-Some.is).timed

pub returns-in-None : goal.returns-in-None
returns-in-None c = sym (basic_ticks c.args.n c.args.self c.in-None.is)

pub returns-in-Some : goal.returns-in-Some
returns-in-Some c =
    let start = c.args in
    c.joined.ensures
    ∙ ap₂ (safe_link _) c.timer_ticked.ensures (c.quiet-receiver.ensures ∙ ap (ticks start.n) c.receiver.ensures)
    ∙ sym (safe_ticks start.n start.self _ c.in-Some.is)
