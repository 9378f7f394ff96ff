-- Hexadecimal digits that are read, by what the code tests.
-- Assumes nothing.
use Prim.Native.Nat.{ℕ, ◌+◌, ◌-◌, ◌≤◌, ◌<◌}
use Rattle.std.specs.Prelude.{Some, None, if◌then◌else◌}
use mathlib.Core.Path.{◌≡◌, refl, sym}
use mathlib.Core.Bool.{Bool, true, false}
use lib.Dec.{leb}
use native.Mathlib.Omega.{arith}
use borrow.Author.Tests.{le-leb, lt-leb, leb-true}
use Rattle.base.proofs.Choices.{and_false, and_left, and_right}
use Rattle.service.specs.Reading.{spans, digit_value}

-- ---- the value of a digit
module _ (b : ℕ) where
  within : (first last : ℕ) → first ≤ b → b ≤ last → spans first last b ≡ true
  unfolding spans
  within first last l h = simp (le-leb first b l, le-leb b last h)

  below : (first last : ℕ) → b < first → spans first last b ≡ false
  unfolding spans
  below first last h = simp (lt-leb first b h)

  above : (first last : ℕ) → last < b → spans first last b ≡ false
  unfolding spans
  above first last h = simp (lt-leb b last h, and_false)

  pub plain_value : 48 ≤ b → b < 58 → Some (b - 48) ≡ digit_value b
  unfolding digit_value
  plain_value l h = sym (simp (within 48 57 l (omega arith)))

  pub lower_value : 97 ≤ b → b < 103 → Some (b - 97 + 10) ≡ digit_value b
  unfolding digit_value
  lower_value l h = sym (simp (above 48 57 (omega arith), within 97 102 l (omega arith)))

  pub upper_value : 65 ≤ b → b < 71 → Some (b - 65 + 10) ≡ digit_value b
  unfolding digit_value
  upper_value l h = sym (simp (above 48 57 (omega arith), below 97 102 (omega arith), within 65 70 l (omega arith)))

  -- what lies before, between and behind the three runs of digits
  pub none_before : b < 48 → None ≡ digit_value b
  unfolding digit_value
  none_before h = sym (simp (below 48 57 h, below 97 102 (omega arith), below 65 70 (omega arith)))

  pub none_behind_plain : 58 ≤ b → b < 65 → None ≡ digit_value b
  unfolding digit_value
  none_behind_plain l h = sym (simp (above 48 57 l, below 97 102 (omega arith), below 65 70 h))

  pub none_behind_upper : 71 ≤ b → b < 97 → None ≡ digit_value b
  unfolding digit_value
  none_behind_upper l h = sym (simp (above 48 57 (omega arith), below 97 102 h, above 65 70 l))

  pub none_behind_lower : 103 ≤ b → None ≡ digit_value b
  unfolding digit_value
  none_behind_lower l = sym (simp (above 48 57 (omega arith), above 97 102 l, above 65 70 (omega arith)))

-- ---- no digit has a value of 16 or more
in_span : (first last b : ℕ) → spans first last b ≡ true → (first ≤ b) × (b ≤ last)
unfolding spans
in_span first last b e =
    (leb-true first b (and_left (leb first b) (leb b last) e), leb-true b last (and_right (leb first b) (leb b last) e))

value_within :
    (b low : ℕ) (t u v : Bool)
    → spans 48 57 b ≡ t
    → spans 97 102 b ≡ u
    → spans 65 70 b ≡ v
    → (if t then Some (b - 48) else if u then Some (b - 97 + 10) else if v then Some (b - 65 + 10) else None) ≡ Some low
    → low < 16
value_within b low true u v p q r e = let k : b - 48 ≡ low = cc in omega (arith, in_span 48 57 b p)
value_within b low false true v p q r e = let k : b - 97 + 10 ≡ low = cc in omega (arith, in_span 97 102 b q)
value_within b low false false true p q r e = let k : b - 65 + 10 ≡ low = cc in omega (arith, in_span 65 70 b r)
value_within b low false false false p q r e = cc

pub value_small : (b low : ℕ) → Some low ≡ digit_value b → low < 16
unfolding digit_value
value_small b low e = value_within b low (spans 48 57 b) (spans 97 102 b) (spans 65 70 b) refl refl refl (sym e)

pub ruleset values = (plain_value, lower_value, upper_value, none_before, none_behind_plain, none_behind_upper, none_behind_lower)
