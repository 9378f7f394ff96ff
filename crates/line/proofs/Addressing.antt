-- The address in front of a text, by its first two letters.
-- Assumes nothing.
use Rattle.std.specs.Option.{unwrap_or}
use Rattle.std.specs.Prelude.{if◌then◌else◌, Option}
use Prim.Native.Nat.{ℕ, ◌≤◌}
use mathlib.Core.Path.{◌≡◌, refl, sym, ap, ◌∙◌}
use mathlib.Core.Bool.{Bool, true, false}
use mathlib.Core.List.{List, [], ◌∷◌}
use native.Mathlib.Omega.{arith}
use lib.ListN.{length, get_or, take, get_or-eq_default}
use Rattle.decimal.specs.Read.{is_digit, number_from}
use Rattle.decimal.specs.Short.{read_one, read_two, joined}
use Rattle.decimal.proofs.Bytes.{digit_yes, digit_low, digit_high}
use Rattle.line.specs.Addresses.{address_width, address_of}

no_digit : is_digit 0 ≡ false
unfolding is_digit
no_digit = refl

-- the width by the first two letters, where past the end no digit stands
width_by_letters : (s : List ℕ) → address_width s ≡ (if is_digit (get_or s 0 0) then if is_digit (get_or s 1 0) then 2 else 1 else 0)
unfolding address_width
width_by_letters [] = simp no_digit
width_by_letters (a ∷ []) = simp no_digit
width_by_letters (a ∷ b ∷ s) = refl

pub past_end : (s : List ℕ) (i : ℕ) → length s ≤ i → is_digit (get_or s i 0) ≡ false
past_end s i h = ap is_digit (get_or-eq_default s 0 h) ∙ no_digit

module _ (s : List ℕ) where
  pub no_address : is_digit (get_or s 0 0) ≡ false → 0 ≡ address_width s
  no_address e = sym (width_by_letters s ∙ simp e)

  pub one_digit : is_digit (get_or s 0 0) ≡ true → is_digit (get_or s 1 0) ≡ false → 1 ≡ address_width s
  one_digit e k = sym (width_by_letters s ∙ simp (e, k))

  pub two_digits : is_digit (get_or s 0 0) ≡ true → is_digit (get_or s 1 0) ≡ true → 2 ≡ address_width s
  two_digits e k = sym (width_by_letters s ∙ simp (e, k))

pub ruleset widths = (past_end, no_address, one_digit, two_digits, digit_yes, digit_low, digit_high)

pub width_within : (s : List ℕ) → address_width s ≤ length s
unfolding address_width
width_within [] = omega arith
width_within (a ∷ []) = go (is_digit a)
  where
    go : (t : Bool) → (if t then 1 else 0) ≤ 1
    go true = omega arith
    go false = omega arith
width_within (a ∷ b ∷ s) = go (is_digit a) (is_digit b)
  where
    go : (t u : Bool) → (if t then if u then 2 else 1 else 0) ≤ length (a ∷ b ∷ s)
    go true true = omega arith
    go true false = omega arith
    go false u = omega arith

-- the digits of the address as the short reader reads them
abbrev value_of : Option ℕ → ℕ
value_of r = unwrap_or r 0

read_as_number : (s : List ℕ) → value_of (read_two (take (address_width s) s)) ≡ address_of s
unfolding address_of address_width read_two read_one joined number_from
read_as_number [] = refl
read_as_number (a ∷ []) = go (is_digit a) refl
  where
    go :
        (t : Bool)
        → is_digit a ≡ t
        → value_of (read_two (take (if t then 1 else 0) (a ∷ []))) ≡ number_from 0 (take (if t then 1 else 0) (a ∷ []))
    go true e = simp e (omega arith)
    go false e = refl
read_as_number (a ∷ b ∷ s) = go (is_digit a) (is_digit b) refl refl
  where
    go :
        (t u : Bool)
        → is_digit a ≡ t
        → is_digit b ≡ u
        → value_of (read_two (take (if t then if u then 2 else 1 else 0) (a ∷ b ∷ s)))
        ≡ number_from 0 (take (if t then if u then 2 else 1 else 0) (a ∷ b ∷ s))
    go true true e f = simp (e, f) (omega arith)
    go true false e f = simp e (omega arith)
    go false u e f = refl

module _ (s : List ℕ) (w : ℕ) (r : Option ℕ) (p : w ≡ address_width s) (q : r ≡ read_two (take w s)) where
  pub address_read : (n : ℕ) → n ≡ unwrap_or r 0 → n ≡ address_of s
  address_read n e = e ∙ ap value_of (q ∙ ap (λ (n : ℕ). read_two (take n s)) p) ∙ read_as_number s
