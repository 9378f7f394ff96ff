-- A packet as runs of bytes, one behind the other.
-- Assumes nothing.
use Prim.Native.Nat.{ℕ, ◌+◌, ◌/◌, ◌%◌, ◌<◌}
use mathlib.Core.Path.{◌≡◌, refl, ap, ◌∙◌}
use mathlib.Core.List.{List, [], ◌∷◌}
use native.Mathlib.Omega.{arith}
use lib.ListN.{length}
use Rattle.base.specs.Wrote.{Wrote}
use Rattle.base.proofs.Writing.{wrote_then}
use Rattle.crc.specs.Check.{check_of}
use Rattle.packet.specs.Packets.{stx, etx, check_bytes, packet_of}

pub two_bytes : (s : List ℕ) → length (check_bytes s) ≡ 2
unfolding check_bytes
two_bytes s = refl

-- the bytes of a check, the high one first
pub check_written : (s : List ℕ) (r : ℕ) → r ≡ check_of s → r < 65536 → (r / 256 % 256 ∷ r % 256 ∷ []) ≡ check_bytes s
unfolding check_bytes
check_written s r e h =
    let high : r / 256 % 256 ≡ r / 256 = omega arith in
    ap (λ (x : ℕ). x ∷ r % 256 ∷ []) high ∙ ap (λ (x : ℕ). x / 256 ∷ x % 256 ∷ []) e

pub framed :
    {l m n o p w : List ℕ} {i a b c d e : ℕ} (s : List ℕ)
    → Wrote l m i a (stx ∷ [])
    → Wrote m n a b ((length s + 4) ∷ [])
    → Wrote n o b c s
    → Wrote o p c d (check_bytes s)
    → Wrote p w d e (etx ∷ [])
    → Wrote l w i e (packet_of s)
unfolding packet_of
framed s t u v x z = wrote_then (wrote_then (wrote_then (wrote_then t u) v) x) z
