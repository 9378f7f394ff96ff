-- Single bits that noise has turned. One that is turned leaves the polynomial in the register, and moves it on with each bit that
-- follows; two cancel where it comes back to the polynomial, which it does not do before as many bits as are tested here.
-- Assumes nothing.
use Prim.Native.Nat.{ℕ, zero, suc, ◌≤◌, ◌<◌}
use mathlib.Core.Path.{◌≡◌, refl, sym, ap, ◌∙◌, subst}
use mathlib.Core.Bool.{Bool, true, false, not, xor}
use mathlib.Core.List.{List, [], ◌∷◌}
use native.Mathlib.Omega.{arith}
use lib.Dec.{T, T_not, eqb, eqb_refl, lit<}
use lib.ListN.{length}
use Rattle.crc.specs.Xor.{◌⊕◌}
use Rattle.crc.specs.Check.{polynomial, bit, shifted, after}
use Rattle.crc.specs.Noise.{ones}
use Rattle.crc.proofs.Xor as X
use Rattle.crc.proofs.Computed.{both, both_left, both_right}
use Rattle.crc.proofs.Linear.{shifted_sum}
use Rattle.crc.proofs.Runs.{shifted_small, after_back, none_in}

-- the register r, moved on n times by bits 0, is never the polynomial
abbrev away : ℕ → ℕ → Bool
away zero r = true
away (suc n) r = both (not (eqb r polynomial)) (away n (shifted r false))

-- how far it was tested: the polynomial comes back after 32,767 bits and not before
most : ℕ
most = 32766

tested : T (away most (shifted polynomial false))
unfolding most ◌⊕◌ bit shifted xor
tested = tt

-- bits that are all 0
still : (w : List Bool) → ones w ≡ 0 → after 0 w ≡ 0
unfolding after ones
still [] h = refl
still (true ∷ w) h = absurd (omega arith)
still (false ∷ w) h = ap (λ (r : ℕ). after r w) none_in ∙ still w h

quiet : (w : List Bool) (r : ℕ) → r < 65536 → ones w ≡ 0 → after r w ≡ 0 → r ≡ 0
quiet w r h o e = after_back w r 0 h (lit< tt) (e ∙ sym (still w o))

set_in : shifted 0 true ≡ polynomial
unfolding ◌⊕◌ bit shifted xor
set_in = refl

-- a bit 1 adds the polynomial to what a bit 0 makes
bit_in : (r : ℕ) → shifted r true ≡ shifted r false ⊕ polynomial
unfolding xor
bit_in r = ap (λ (x : ℕ). shifted x true) (sym (X.zero_right r)) ∙ shifted_sum r 0 false true ∙ ap (λ (x : ℕ). shifted r false ⊕ x) set_in

-- the second of two
second : (n : ℕ) (w : List Bool) (r : ℕ) → T (away n (shifted r false)) → length w ≤ n → ones w ≡ 1 → after r w ≡ 0 → ⊥
unfolding after ones
second n [] r t l o e = omega arith
second zero (d ∷ w) r t l o e = omega arith
second (suc n) (true ∷ w) r t l o e =
    let gone : shifted r true ≡ 0 = quiet w (shifted r true) (shifted_small r true) (omega arith) e in
    let back : shifted r false ≡ polynomial = X.same (shifted r false) polynomial (sym (bit_in r) ∙ gone) in
    T_not (eqb (shifted r false) polynomial)
    (both_left (not (eqb (shifted r false) polynomial)) (away n (shifted (shifted r false) false)) t)
    (subst (λ (x : ℕ). T (eqb x polynomial)) (sym back) (eqb_refl polynomial))
second (suc n) (false ∷ w) r t l o e =
    second n w (shifted r false)
    (both_right (not (eqb (shifted r false) polynomial)) (away n (shifted (shifted r false) false)) t) (omega arith) o e

-- two bits set, in up to 32,767
pub two_set : (w : List Bool) → length w ≤ 32767 → ones w ≡ 2 → after 0 w ≡ 0 → ⊥
unfolding after ones most
two_set [] l o e = omega arith
two_set (true ∷ w) l o e =
    second most w polynomial tested (omega arith) (omega arith) (ap (λ (r : ℕ). after r w) (sym set_in) ∙ e)
two_set (false ∷ w) l o e = two_set w (omega arith) o (ap (λ (r : ℕ). after r w) (sym none_in) ∙ e)
