-- `Link::after` meets its contract: the byte is the receiver's, in Safe mode.
-- Assumes nothing.
use mathlib.Core.Path.{sym, ap, ◌∙◌}
use Rattle.packet.specs.Receiver.{after_byte, sound_receiver}
use Rattle.packet.specs.declared.receiver.Receiver.{Receiver}
use Rattle.link.specs.Link.{heard_by}
use Rattle.link.proofs.Modes.{stands, basic_after, safe_after}
use Rattle.link.proofs.Link.after.Goals as goal

pub after-requires : goal.after-requires
after-requires c = ap sound_receiver c.receiver.ensures ∙ (stands c.args.self _ c.requires c.in-Some.is).received

pub returns-in-None : goal.returns-in-None
returns-in-None c = sym (basic_after c.args.self c.args.b c.in-None.is)

pub returns-in-Some : goal.returns-in-Some
returns-in-Some c =
    let start = c.args in
    c.heard.ensures ∙ ap (heard_by c.in-Some.safety) (c.after.ensures ∙ ap (λ (r : Receiver). after_byte r start.b) c.receiver.ensures)
    ∙ sym (safe_after start.self _ start.b c.in-Some.is)
