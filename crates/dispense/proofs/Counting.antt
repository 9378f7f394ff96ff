-- Thresholds counted one by one: where a sum has less than five of them, their count is the quotient.
-- Assumes nothing.
use Prim.Native.Nat.{ℕ, zero, suc, ◌+◌, ◌-◌, ◌*◌, ◌/◌, ◌%◌, ◌≤◌, ◌<◌}
use mir.Val as mir-val
use mathlib.Core.Path.{◌≡◌, refl, sym, ap, ◌∙◌}
use native.Mathlib.Nat.{one-mul, div-lt_iff_lt-mul, mod-add-div'}
use native.Mathlib.Omega.{arith}
use lib.Dec.{leb}
use Rattle.base.proofs.Flags.{flag_few}
use Rattle.drive.proofs.Bounds.{leb_div}

abbrev tally : ℕ → ℕ → ℕ → ℕ → ℕ → ℕ
tally s a b c d = mir-val.bool_byte (leb a s) + mir-val.bool_byte (leb b s) + mir-val.bool_byte (leb c s) + mir-val.bool_byte (leb d s)

-- so many of the numbers 1 to 4 are at most q
up_to_four : (q : ℕ) → q < 5 → tally q 1 2 3 4 ≡ q
up_to_four zero h = refl
up_to_four (suc zero) h = refl
up_to_four (suc (suc zero)) h = refl
up_to_four (suc (suc (suc zero))) h = refl
up_to_four (suc (suc (suc (suc zero)))) h = refl
up_to_four (suc (suc (suc (suc (suc q))))) h = absurd (omega arith)

pub due_few : (s t : ℕ) → tally s t (2 * t) (3 * t) (4 * t) ≤ 4
due_few s t = omega (arith, flag_few (leb t s), flag_few (leb (2 * t) s), flag_few (leb (3 * t) s), flag_few (leb (4 * t) s))

module _ (s t : ℕ) (h : s < 5 * t) where
  above_0 : 0 < t
  above_0 = omega arith

  few : s / t < 5
  few = (div-lt_iff_lt-mul above_0).1 h

  pub four_at_most : s / t ≤ 4
  four_at_most = omega (arith, few)

  pub due_counted : tally s t (2 * t) (3 * t) (4 * t) ≡ s / t
  due_counted =
      let one = ap (λ (x : ℕ). leb x s) (sym (one-mul t)) ∙ sym (leb_div 1 s t above_0) in
      rw (one, sym (leb_div 2 s t above_0), sym (leb_div 3 s t above_0), sym (leb_div 4 s t above_0)) (up_to_four (s / t) few)

-- what is left when the thresholds are taken off
pub taken_off : (s t : ℕ) → s - s / t * t ≡ s % t
taken_off s t = omega (arith, mod-add-div' s t)

pub taken_at_most : (s t : ℕ) → s / t * t ≤ s
taken_at_most s t = omega (arith, mod-add-div' s t)
