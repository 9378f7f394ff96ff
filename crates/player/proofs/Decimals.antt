-- A count in decimal digits: the fewest digits that hold it are those without zeros in front.
-- Assumes nothing.
use Rattle.std.specs.Prelude.{if◌then◌else◌}
use Prim.Native.Nat.{ℕ, zero, suc, ◌+◌, ◌-◌, ◌*◌, ◌/◌, ◌%◌, ◌^◌, ◌≤◌, ◌<◌}
use mathlib.Core.Path.{◌≡◌, refl, sym, subst, ◌∙◌}
use mathlib.Core.Bool.{Bool, true, false}
use mathlib.Core.List.{List, [], ◌∷◌, ◌++◌}
use native.Mathlib.Nat.{pow-suc, pow-le-pow_right, mod-eq_of_lt, mod-lt, div-lt_iff_lt-mul, le-div_iff_mul-le}
use native.Mathlib.Omega.{arith}
use lib.Dec.{ltb, lit<}
use lib.ListN.{length, take, length-append}
use borrow.Author.Tests.{lt-ltb, le-ltb, ltb-true, ltb-false}
use Rattle.io.specs.Digits.{hex_digit_ascii, last_digits, IsDigitCount}
use Rattle.player.specs.Printing.{decimal_by, decimal}

places_few : (places n : ℕ) → length (decimal_by places n) ≤ places
unfolding decimal_by
places_few zero n = omega arith
places_few (suc places) n = go (ltb n 10) (places_few places (n / 10))
  where
    go :
        (t : Bool)
        → length (decimal_by places (n / 10)) ≤ places
        → length (if t then (48 + n) ∷ [] else decimal_by places (n / 10) ++ ((48 + n % 10) ∷ [])) ≤ suc places
    go true h = omega arith
    go false h = simp length-append (omega arith)

pub decimal_few : (n : ℕ) → length (decimal n) ≤ 20
unfolding decimal
decimal_few n = places_few 20 n

glyph_digit : (d : ℕ) → d < 10 → hex_digit_ascii d ≡ 48 + d
glyph_digit d h = simp (lt-ltb d 10 h)

power_some : (k : ℕ) → 1 ≤ 10 ^ k
power_some k = pow-le-pow_right {n = 10} (lit< tt) {i = 0} {j = k} (omega arith)

fewest : (places k n : ℕ) → k ≤ places → 1 ≤ k → n < 10 ^ k → (1 < k → 10 ^ (k - 1) ≤ n) → last_digits 10 k n ≡ decimal_by places n
unfolding decimal_by
fewest places zero n f o h l = absurd (omega arith)
fewest zero (suc k) n f o h l = absurd (omega arith)
fewest (suc places) (suc zero) n f o h l =
    let s : n < 10 = h in
    rw (mod-eq_of_lt s, glyph_digit n s) (sym (simp (lt-ltb n 10 s)))
fewest (suc places) (suc (suc k)) n f o h l =
    let less : suc (suc k) - 1 ≡ suc k = omega arith in
    let held : 10 ^ suc k ≤ n = subst (λ (x : ℕ). 10 ^ x ≤ n) less (l (omega arith)) in
    let low : 10 ^ k * 10 ≤ n = subst (λ (x : ℕ). x ≤ n) (pow-suc 10 k) held in
    let high : n < 10 ^ suc k * 10 = subst (λ (x : ℕ). n < x) (pow-suc 10 (suc k)) h in
    let ten : 10 ≤ n = omega (arith, power_some k) in
    let below : n / 10 < 10 ^ suc k = (div-lt_iff_lt-mul (lit< tt)).1 high in
    let tenth : 10 ^ k ≤ n / 10 = (le-div_iff_mul-le (lit< tt)).1 low in
    let same : k ≡ suc k - 1 = omega arith in
    let above : 1 < suc k → 10 ^ (suc k - 1) ≤ n / 10 = λ o. subst (λ (x : ℕ). 10 ^ x ≤ n / 10) same tenth in
    let rest : last_digits 10 (suc k) (n / 10) ≡ decimal_by places (n / 10) =
    fewest places (suc k) (n / 10) (omega arith) (omega arith) below above in
    rw (glyph_digit (n % 10) (mod-lt n (lit< tt)), rest) (sym (simp (le-ltb n 10 ten)))

-- a number of 64 bits has at most 20 digits
module _ (n k : ℕ) (small : n < 18_446_744_073_709_551_616) (f : IsDigitCount 10 1 n k) where
  pub digits_few : k ≤ 20
  digits_few = go (ltb 20 k) refl
    where
      go : (t : Bool) → ltb 20 k ≡ t → k ≤ 20
      go false e = ltb-false 20 k e
      go true e =
          let more : 20 < k = ltb-true 20 k e in
          let most : 10 ^ 20 ≤ 10 ^ (k - 1) = pow-le-pow_right {n = 10} (lit< tt) {i = 20} {j = k - 1} (omega arith) in
          let held : 10 ^ (k - 1) ≤ n = f.2 (omega arith) in
          absurd (omega arith)

  pub counted : (t : List ℕ) → take k t ≡ last_digits 10 k n → take k t ≡ decimal n
  unfolding decimal
  counted t e = e ∙ fewest 20 k n digits_few f.0 f.1 f.2
