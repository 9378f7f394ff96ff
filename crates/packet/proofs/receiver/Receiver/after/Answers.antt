-- `Receiver::after` meets its contract: outside a packet or in one.
-- Assumes nothing.
use Rattle.std.specs.Prelude.{Option}
use mathlib.Core.Path.{sym, ap, ◌∙◌}
use Rattle.packet.specs.Receiver.{after_in, after_byte}
use Rattle.packet.specs.declared.receiver.Part.{Part}
use Rattle.packet.proofs.Steps.{stage_sound}
use Rattle.packet.proofs.receiver.Receiver.after.Goals as goal

pub taken-requires : goal.taken-requires
taken-requires c = stage_sound c.args.self _ c.requires c.in-Some.is

pub returns-in-None : goal.returns-in-None
unfolding after_byte
returns-in-None c =
    let start = c.args in
    c.begun_by.ensures ∙ ap (λ (p : Option Part). after_in start.self p start.b) (sym c.in-None.is)

pub returns-in-Some : goal.returns-in-Some
unfolding after_byte
returns-in-Some c =
    let start = c.args in
    c.taken.ensures ∙ ap (λ (p : Option Part). after_in start.self p start.b) (sym c.in-Some.is)
