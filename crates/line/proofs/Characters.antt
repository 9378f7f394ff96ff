-- The bytes that arrive, by the ranges that the code tests.
-- Assumes nothing.
use Prim.Native.Nat.{ℕ, ◌-◌, ◌≤◌, ◌<◌}
use mathlib.Core.Path.{◌≡◌}
use mathlib.Core.Bool.{true, false}
use native.Mathlib.Omega.{arith}
use borrow.Author.Tests.{le-leb, lt-leb, eq-eqb, ne_eqb}
use Rattle.line.specs.declared.arriving.Arrival.TheVariants.{End, Dropped, Kept}
use Rattle.line.specs.Characters.{is_return, is_dropped, is_lower, raised, arrival_of, can_stand}

-- ---- which class a byte is of
module _ (b : ℕ) where
  pub no_return : (b ≡ 13 → ⊥) → is_return b ≡ false
  unfolding is_return
  no_return n = ne_eqb b 13 n

  pub dropped_low : b < 33 → is_dropped b ≡ true
  unfolding is_dropped
  dropped_low h = simp (le-leb b 32 (omega arith))

  pub not_dropped : 33 ≤ b → (b ≡ 127 → ⊥) → is_dropped b ≡ false
  unfolding is_dropped
  not_dropped h n = simp (lt-leb b 32 h, ne_eqb b 127 n)

  pub lower : 97 ≤ b → b < 123 → is_lower b ≡ true
  unfolding is_lower
  lower l h = simp (le-leb 97 b l, le-leb b 122 (omega arith))

  pub below_lower : b < 97 → is_lower b ≡ false
  unfolding is_lower
  below_lower h = simp (lt-leb 97 b h)

  pub above_lower : 123 ≤ b → is_lower b ≡ false
  unfolding is_lower
  above_lower h = simp (le-leb 97 b (omega arith), lt-leb b 122 h)

-- ---- what each range does
module _ (b : ℕ) where
  pub ends : b ≡ 13 → End ≡ arrival_of b
  unfolding arrival_of is_return
  ends e = simp (eq-eqb b 13 e)

  pub drops : (b ≡ 13 → ⊥) → is_dropped b ≡ true → Dropped ≡ arrival_of b
  unfolding arrival_of
  drops n d = simp (no_return b n, d)

  pub drops_delete : b ≡ 127 → Dropped ≡ arrival_of b
  unfolding arrival_of is_return is_dropped
  drops_delete e = rw e

  pub keeps : (b ≡ 13 → ⊥) → is_dropped b ≡ false → is_lower b ≡ false → Kept b ≡ arrival_of b
  unfolding arrival_of raised
  keeps n d l = simp (no_return b n, d, l)

  pub raises : (b ≡ 13 → ⊥) → is_dropped b ≡ false → is_lower b ≡ true → Kept (b - 32) ≡ arrival_of b
  unfolding arrival_of raised
  raises n d l = simp (no_return b n, d, l)

  pub stands : is_dropped b ≡ false → is_lower b ≡ false → true ≡ can_stand b
  unfolding can_stand
  stands d l = simp (d, l)

  pub falls_dropped : is_dropped b ≡ true → false ≡ can_stand b
  unfolding can_stand
  falls_dropped d = simp d

  pub falls_delete : b ≡ 127 → false ≡ can_stand b
  unfolding can_stand is_dropped
  falls_delete e = rw e

  pub falls_lower : is_dropped b ≡ false → is_lower b ≡ true → false ≡ can_stand b
  unfolding can_stand
  falls_lower d l = simp (d, l)

pub ruleset arrivals = (ends, drops, drops_delete, keeps, raises, dropped_low, not_dropped, lower, below_lower, above_lower)

pub ruleset standings = (stands, falls_dropped, falls_delete, falls_lower, dropped_low, not_dropped, lower, below_lower, above_lower)
