-- `put_check` meets its contract: the bytes of the check, the high one first.
-- Assumes nothing.
use Prim.Native.Nat.{ℕ}
use mathlib.Core.Path.{ap, ◌∙◌}
use mathlib.Core.List.{List, [], ◌∷◌}
use native.Mathlib.Omega.{arith}
use lib.ListN.{get_or}
use Rattle.base.proofs.Writing.{wrote_as}
use Rattle.packet.proofs.Framing.{check_written}
use Rattle.packet.proofs.sender.put_check.Goals as goal

pub returns : goal.returns
returns c =
    let two = ap (λ (l : List ℕ). get_or l 0 0 ∷ get_or l 1 0 ∷ []) c.to_be_bytes.ensures in
    wrote_as c.copy.ensures (two ∙ check_written _ _ c.check.ensures (omega arith))
