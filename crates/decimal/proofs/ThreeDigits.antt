-- One to three digits from the left: what `read_three` has found when it stands at the byte `i`, what `read_three` is where it stops,
-- and how large a reading is.
use Rattle.std.specs.Prelude.{if◌then◌else◌, Some, None}
use Prim.Native.Nat.{ℕ, ◌+◌, ◌-◌, ◌*◌, ◌^◌, ◌≤◌, ◌<◌}
use mathlib.Core.Path.{◌≡◌, refl, sym, ap, ◌∙◌}
use mathlib.Core.Bool.{Bool, true, false, ◌&&◌, and-false}
use mathlib.Core.List.{List, [], ◌∷◌}
use native.Mathlib.Nat.{pow-suc, pow-le-pow_right, lt_of_lt_of_le}
use native.Mathlib.Numerals.{add-one}
use native.Mathlib.Omega.{arith}
use borrow.Author.Tests.{le-leb, lt-leb}
use lib.Dec.{lit<}
use lib.ListN.{length, get_or, drop, drop_of_length-le}
use lib.Seq.{drop-cons}
use Rattle.base.proofs.Choices.{and_left, and_right}
use Rattle.decimal.specs.Read.{is_digit, number_from}
use Rattle.decimal.specs.Short.{all_digits, read_three}
use Rattle.decimal.proofs.Bytes.{digit_yes, digit_low, digit_high, digit_bounds}
use Rattle.decimal.proofs.ShortTexts.{no_digits}

-- at the byte i of s, of one to three: every byte before it is a digit, and these make v
pub record Passed (s : List ℕ) (v i : ℕ) : Type 0 where
  pub inside : i ≤ length s
  pub some : 1 ≤ length s
  pub few : length s ≤ 3
  pub all : all_digits (drop i s) ≡ all_digits s
  pub number : number_from v (drop i s) ≡ number_from 0 s
  pub small : v < 10 ^ i

pub none_passed : (s : List ℕ) → (length s ≡ 0 → ⊥) → length s ≤ 3 → Passed s 0 0
none_passed s n h =
    record { inside = omega arith; some = omega arith; few = h; all = refl; number = refl; small = lit< tt }

pub value_small : {s : List ℕ} {v i : ℕ} → Passed s v i → v < 1000
value_small {s} {v} {i} c =
    let k : i ≤ 3 = omega arith in
    lt_of_lt_of_le c.small (pow-le-pow_right {n = 10} (lit< tt) {i = i} {j = 3} k)

pub no_byte : (s : List ℕ) → length s ≡ 0 → None ≡ read_three s
unfolding read_three
no_byte s e = sym (simp (lt-leb 1 (length s) (omega arith), and-false))

pub too_many : (s : List ℕ) → 3 < length s → None ≡ read_three s
unfolding read_three
too_many s h = sym (simp (lt-leb (length s) 3 h, and-false))

module _ (s : List ℕ) (v i : ℕ) (c : Passed s v i) where
  module _ (h : i < length s) where
    rest : drop i s ≡ get_or s i 0 ∷ drop (i + 1) s
    rest = rw (add-one) (drop-cons s i 0 h)

    pub one_more : 48 ≤ get_or s i 0 → get_or s i 0 < 58 → Passed s (v * 10 + (get_or s i 0 - 48)) (i + 1)
    unfolding all_digits number_from
    one_more l u =
        record {
          inside = omega arith;
          some = c.some;
          few = c.few;
          all = sym (ap all_digits rest ∙ simp (digit_yes _ l u)) ∙ c.all;
          number = sym (ap (number_from v) rest ∙ simp (digit_yes _ l u)) ∙ c.number;
          small = let k = c.small in rw (add-one, pow-suc) (omega arith);
        }

    pub no_digit : is_digit (get_or s i 0) ≡ false → None ≡ read_three s
    unfolding read_three all_digits
    no_digit e =
        let none : all_digits s ≡ false = sym c.all ∙ ap all_digits rest ∙ simp e in
        sym (simp none)

  pub all_passed : length s ≤ i → Some v ≡ read_three s
  unfolding read_three all_digits number_from
  all_passed h =
      let end : drop i s ≡ [] = drop_of_length-le s {i = i} h in
      let whole : all_digits s ≡ true = sym c.all ∙ ap all_digits end in
      let value : number_from 0 s ≡ v = sym c.number ∙ ap (number_from v) end in
      sym (simp (whole, value, le-leb 1 (length s) c.some, le-leb (length s) 3 c.few))

-- what `read_three` answers its goals with
pub ruleset three_digits = (
  none_passed,
  no_byte,
  too_many,
  one_more,
  no_digit,
  all_passed,
  digit_low,
  digit_high,
)

-- ---- how large a reading is
chosen : (t : Bool) (x n : ℕ) → (if t then Some x else None) ≡ Some n → (t ≡ true) × (x ≡ n)
chosen true x n e = (refl, cc)
chosen false x n e = no_digits n e

-- the first of some bytes that are all digits, and the others
first_digit : (a : ℕ) (s : List ℕ) → all_digits (a ∷ s) ≡ true → (is_digit a ≡ true) × (all_digits s ≡ true)
unfolding all_digits
first_digit a s e = (and_left (is_digit a) (all_digits s) e, and_right (is_digit a) (all_digits s) e)

pub three_small : (s : List ℕ) (n : ℕ) → read_three s ≡ Some n → n ≤ 999
unfolding read_three number_from
three_small [] n e = no_digits n (simp and-false at e)
three_small (a ∷ []) n e =
    let p = chosen (all_digits (a ∷ []) && true) _ n e in
    let q = first_digit a [] (and_left (all_digits (a ∷ [])) true p.0) in
    let r : 0 * 10 + (a - 48) ≡ n = sym (simp q.0) ∙ p.1 in
    omega (arith, digit_bounds a q.0)
three_small (a ∷ b ∷ []) n e =
    let p = chosen (all_digits (a ∷ b ∷ []) && true) _ n e in
    let q = first_digit a (b ∷ []) (and_left (all_digits (a ∷ b ∷ [])) true p.0) in
    let t = first_digit b [] q.1 in
    let r : (0 * 10 + (a - 48)) * 10 + (b - 48) ≡ n = sym (simp (q.0, t.0)) ∙ p.1 in
    omega (arith, digit_bounds a q.0, digit_bounds b t.0)
three_small (a ∷ b ∷ c ∷ []) n e =
    let p = chosen (all_digits (a ∷ b ∷ c ∷ []) && true) _ n e in
    let q = first_digit a (b ∷ c ∷ []) (and_left (all_digits (a ∷ b ∷ c ∷ [])) true p.0) in
    let t = first_digit b (c ∷ []) q.1 in
    let u = first_digit c [] t.1 in
    let r : ((0 * 10 + (a - 48)) * 10 + (b - 48)) * 10 + (c - 48) ≡ n = sym (simp (q.0, t.0, u.0)) ∙ p.1 in
    omega (arith, digit_bounds a q.0, digit_bounds b t.0, digit_bounds c u.0)
three_small (a ∷ b ∷ c ∷ d ∷ s) n e =
    no_digits n (too_many (a ∷ b ∷ c ∷ d ∷ s) (omega arith) ∙ e)
