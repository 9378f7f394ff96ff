-- The register has an odd number of bits set exactly where the data has: the polynomial is a multiple of x + 1. So no odd number of
-- turned bits leaves the check as it was.
-- Assumes nothing.
use Prim.Native.Nat.{ℕ, zero, suc, ◌*◌, ◌/◌, ◌%◌, ◌<◌}
use mathlib.Core.Path.{◌≡◌, refl, sym, ap, ap₂, ◌∙◌}
use mathlib.Core.Bool.{Bool, true, false, not, xor}
use mathlib.Core.List.{List, [], ◌∷◌}
use native.Mathlib.Nat.{mod-lt}
use native.Mathlib.Omega.{arith}
use lib.Dec.{T, lit<}
use Rattle.base.proofs.Choices.{false_true}
use Rattle.crc.specs.Xor.{◌⊕◌}
use Rattle.crc.specs.Check.{bit, shifted, after}
use Rattle.crc.specs.Noise.{ones}
use Rattle.crc.proofs.Bools.{xor_assoc, xor_middle, xor_false, false_xor, xor_none}
use Rattle.crc.proofs.Xor as X
use Rattle.crc.proofs.Computed.{below}
use Rattle.crc.proofs.Linear.{shifted_sum}
use Rattle.crc.proofs.Bytewise.{halves}
use Rattle.crc.proofs.Runs.{shifted_small}

-- whether an odd number of the k lowest bits of r is set
odd : ℕ → ℕ → Bool
odd zero r = false
odd (suc k) r = xor (bit r k) (odd k r)

odd_sum : (k r q : ℕ) → odd k (r ⊕ q) ≡ xor (odd k r) (odd k q)
unfolding odd xor
odd_sum zero r q = refl
odd_sum (suc k) r q = ap₂ xor (X.bit_sum k r q) (odd_sum k r q) ∙ xor_middle (bit r k) (bit q k) (odd k r) (odd k q)

none : odd 16 0 ≡ false
unfolding odd bit xor
none = refl

same_test : (a b : Bool) → T (not (xor a b)) → a ≡ b
same_test a b t = xor_none a b (unset (xor a b) t)
  where
    unset : (d : Bool) → T (not d) → d ≡ false
    unset true t = absurd t
    unset false t = refl

moved_high : (h : ℕ) → h < 256 → odd 16 (shifted (h * 256) false) ≡ odd 16 (h * 256)
unfolding odd ◌⊕◌ bit shifted xor
moved_high h l = same_test _ _ (below (λ (k : ℕ). not (xor (odd 16 (shifted (k * 256) false)) (odd 16 (k * 256)))) 256 tt h l)

moved_low : (h : ℕ) → h < 256 → odd 16 (shifted h false) ≡ odd 16 h
unfolding odd ◌⊕◌ bit shifted xor
moved_low h l = same_test _ _ (below (λ (k : ℕ). not (xor (odd 16 (shifted k false)) (odd 16 k))) 256 tt h l)

entered : (d : Bool) → odd 16 (shifted 0 d) ≡ d
unfolding odd ◌⊕◌ bit shifted xor
entered true = refl
entered false = refl

-- a bit 0 does not alter it, by both halves of the register
odd_moved : (r : ℕ) → r < 65536 → odd 16 (shifted r false) ≡ odd 16 r
odd_moved r h =
    ap (odd 16) (ap₂ shifted (halves r) (sym (false_xor false)) ∙ shifted_sum (r / 256 * 256) (r % 256) false false)
    ∙ odd_sum 16 (shifted (r / 256 * 256) false) (shifted (r % 256) false)
    ∙ ap₂ xor (moved_high (r / 256) (omega arith)) (moved_low (r % 256) (mod-lt r (lit< tt)))
    ∙ sym (odd_sum 16 (r / 256 * 256) (r % 256)) ∙ ap (odd 16) (sym (halves r))

odd_shifted : (r : ℕ) (d : Bool) → r < 65536 → odd 16 (shifted r d) ≡ xor (odd 16 r) d
odd_shifted r d h =
    ap (odd 16) (ap₂ shifted (sym (X.zero_right r)) (sym (false_xor d)) ∙ shifted_sum r 0 false d)
    ∙ odd_sum 16 (shifted r false) (shifted 0 d) ∙ ap₂ xor (odd_moved r h) (entered d)

-- whether an odd number of bits of a list is set
oddly : List Bool → Bool
oddly [] = false
oddly (d ∷ w) = xor d (oddly w)

odd_after : (w : List Bool) (r : ℕ) → r < 65536 → odd 16 (after r w) ≡ xor (odd 16 r) (oddly w)
unfolding after oddly
odd_after [] r h = sym (xor_false (odd 16 r))
odd_after (d ∷ w) r h =
    odd_after w (shifted r d) (shifted_small r d) ∙ ap (λ (t : Bool). xor t (oddly w)) (odd_shifted r d h)
    ∙ xor_assoc (odd 16 r) d (oddly w)

counted : (w : List Bool) → (ones w % 2 ≡ 1 → oddly w ≡ true) × (ones w % 2 ≡ 0 → oddly w ≡ false)
unfolding ones oddly xor
counted [] = ((λ h. absurd (omega arith)), (λ h. refl))
counted (true ∷ w) =
    ((λ h. ap (xor true) ((counted w).1 (omega arith))), (λ h. ap (xor true) ((counted w).0 (omega arith))))
counted (false ∷ w) =
    ((λ h. ap (xor false) ((counted w).0 h)), (λ h. ap (xor false) ((counted w).1 h)))

-- an odd number of bits set, in any length
pub odd_set : (w : List Bool) → ones w % 2 ≡ 1 → after 0 w ≡ 0 → ⊥
odd_set w h e =
    false_true (sym none ∙ ap (odd 16) (sym e) ∙ odd_after w 0 (lit< tt) ∙ ap₂ xor none ((counted w).0 h) ∙ false_xor true)
