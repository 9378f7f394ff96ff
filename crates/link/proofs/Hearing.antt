-- In Safe mode the link tells of a stream what its receiver does, and so what the stream means.
-- Assumes nothing.
use Rattle.std.specs.Prelude.{None, Some}
use Prim.Native.Nat.{ℕ, ◌+◌, ◌≤◌}
use mathlib.Core.Path.{◌≡◌, refl, ap, ◌∙◌}
use mathlib.Core.Bool.{true}
use mathlib.Core.List.{List, [], ◌∷◌, ◌++◌}
use lib.ListN.{length, replicate}
use Rattle.packet.specs.Packets.{packet_of, Heard, nothing, good}
use Rattle.packet.specs.Receiver.{after_byte}
use Rattle.packet.specs.Follows.{heard, answers, Sound}
use Rattle.packet.specs.Streams.{Standing, outside, Leads}
use Rattle.packet.proofs.Theorems.{from_outside, good_packet}
use Rattle.link.specs.Link.{receiver_of, heard_by, is_sound_link}
use Rattle.link.specs.Streams.{heard_of, link_answers}
use Rattle.link.specs.declared.Safety.{Safety}
use Rattle.link.specs.declared.Link.{Link}
use Rattle.link.specs.declared.Taken.{Taken}
use Rattle.link.proofs.Modes.{stands, safe_after}

pub hears : (bs : List ℕ) (l : Link) (s : Safety) → l.safety ≡ Some s → link_answers l bs ≡ answers (receiver_of l.bytes s.part) bs
unfolding link_answers answers
hears [] l s e = refl
hears (b ∷ bs) l s e =
    let a = after_byte (receiver_of l.bytes s.part) b in
    ap (λ (k : Taken). heard_of k ∷ link_answers k.link bs) (safe_after l s b e)
    ∙ ap (λ (hs : List Heard). heard a ∷ hs) (hears bs (heard_by s a).link _ refl)

-- from outside a packet
module _ (l : Link) (s : Safety) (e : l.safety ≡ Some s) (o : s.part ≡ None) (h : is_sound_link l ≡ true) (n : length l.bytes ≡ 40)
  where
    held : Sound (receiver_of l.bytes s.part)
    held = record { places = n; tested = (stands l s h e).received }

    -- What a stream means that begins here is what the link tells of it; so all that is proved of streams holds of it, `damaged` too.
    pub means : {bs : List ℕ} {hs : List Heard} {q : Standing} → Leads outside bs hs q → link_answers l bs ≡ hs
    means {bs} w = hears bs l s e ∙ (from_outside (receiver_of l.bytes s.part) held o w).says

    -- A packet is told at its last byte, with its data.
    pub packet_heard :
        (d : List ℕ) → length d ≤ 40 → link_answers l (packet_of d) ≡ replicate (length d + 4) nothing ++ (good d ∷ [])
    packet_heard d k = means (good_packet d k)
