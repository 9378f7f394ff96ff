-- What a link tells of a stream of bytes, with no tick between them.   (02, 2/12)
use Rattle.std.specs.Prelude.{ℕ, List, [], ◌∷◌}
use Rattle.packet.specs.Packets.{Heard}
use Rattle.packet.specs.Follows.{heard_by}
use Rattle.link.specs.Link.{link_after}
use Rattle.link.specs.declared.Link.{Link}
use Rattle.link.specs.declared.Taken.{Taken}

-- an outcome with the data
abbrev pub heard_of : Taken → Heard
heard_of a = heard_by a.link.bytes a.outcome

unfoldable pub link_answers : Link → List ℕ → List Heard
link_answers l [] = []
link_answers l (b ∷ bs) = heard_of (link_after l b) ∷ link_answers (link_after l b).link bs
