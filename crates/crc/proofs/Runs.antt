-- A run of up to sixteen bits: the register can be told back from what it becomes, and no such run but the empty one leaves it 0.
-- Assumes nothing.
use Rattle.std.specs.Prelude.{if◌then◌else◌}
use Prim.Native.Nat.{ℕ, zero, suc, ◌+◌, ◌-◌, ◌*◌, ◌/◌, ◌%◌, ◌^◌, ◌≤◌, ◌<◌}
use mathlib.Core.Path.{◌≡◌, refl, sym, ap, ap₂, ◌∙◌}
use mathlib.Core.Bool.{Bool, true, false, xor}
use mathlib.Core.List.{List, [], ◌∷◌, zip_with}
use native.Mathlib.Nat.{div-add-mod', add-mul, mul_assoc, mul_comm, mul-add-mod_self_right, zero-mul, mod-lt, mod-eq_of_lt}
use native.Mathlib.Nat.{mul-div_cancel, pow-suc}
use native.Mathlib.Omega.{arith}
use lib.Dec.{eqb, lit<}
use lib.Pow.{pow-add}
use lib.Arith.{mod-mul}
use lib.ListN.{length}
use Rattle.base.proofs.Choices.{false_true}
use Rattle.crc.specs.Xor.{◌⊕◌}
use Rattle.crc.specs.Check.{polynomial, bit, shifted, after}
use Rattle.crc.specs.Noise.{turned}
use Rattle.crc.proofs.Bools.{xor_false, false_xor, xor_self, xor_none}
use Rattle.crc.proofs.Xor as X
use Rattle.crc.proofs.Linear.{shifted_sum, after_sum}

-- ---- the register keeps to sixteen bits

pub shifted_small : (r : ℕ) (d : Bool) → shifted r d < 65536
unfolding shifted
shifted_small r d = go (xor (bit r 15) d)
  where
    low : r * 2 % 65536 < 65536
    low = mod-lt (r * 2) (lit< tt)

    go : (t : Bool) → (if t then (r * 2 % 65536) ⊕ polynomial else r * 2 % 65536) < 65536
    go true = X.small 16 (r * 2 % 65536) polynomial low (lit< tt)
    go false = low

pub after_small : (u : List Bool) (r : ℕ) → r < 65536 → after r u < 65536
unfolding after
after_small [] r h = h
after_small (d ∷ u) r h = after_small u (shifted r d) (shifted_small r d)

-- ---- one bit back

-- the polynomial is odd, so the lowest bit tells whether it was added
pub unadded : (r : ℕ) (d : Bool) → shifted r d % 2 ≡ 0 → (xor (bit r 15) d ≡ false) × (shifted r d ≡ r * 2 % 65536)
unfolding shifted
unadded r d e = go (xor (bit r 15) d) e
  where
    go : (t : Bool) → (if t then (r * 2 % 65536) ⊕ polynomial else r * 2 % 65536) % 2 ≡ 0
        → (t ≡ false) × ((if t then (r * 2 % 65536) ⊕ polynomial else r * 2 % 65536) ≡ r * 2 % 65536)
    go true e =
        let even : r * 2 % 65536 % 2 ≡ 0 = omega arith in
        let one : ((r * 2 % 65536) ⊕ polynomial) % 2 ≡ 1 =
        X.lower 1 (r * 2 % 65536) polynomial ∙ ap (λ (x : ℕ). x ⊕ 1) even ∙ X.zero_left 1
        in
        absurd (omega arith)
    go false e = (refl, refl)

off : (x : ℕ) → x < 2 → eqb x 1 ≡ false → x ≡ 0
off zero h e = refl
off (suc zero) h e = absurd (false_true (sym e))
off (suc (suc x)) h e = absurd (omega arith)

-- a register that a bit 0 leaves at 0 was 0
empty : (r : ℕ) → r < 65536 → shifted r false ≡ 0 → r ≡ 0
unfolding bit
empty r h e = omega (arith, sym (mod-eq_of_lt low) ∙ sym found.1 ∙ e)
  where
    found : (xor (bit r 15) false ≡ false) × (shifted r false ≡ r * 2 % 65536)
    found = unadded r false (ap (λ (x : ℕ). x % 2) e)

    top : bit r 15 ≡ false
    top = sym (xor_false (bit r 15)) ∙ found.0

    low : r * 2 < 65536
    low =
        let two : r / 32768 < 2 = omega arith in
        let none : r / 32768 ≡ 0 = sym (mod-eq_of_lt two) ∙ off (r / 32768 % 2) (mod-lt (r / 32768) (lit< tt)) top in
        omega arith

pub shifted_back : (r q : ℕ) (d : Bool) → r < 65536 → q < 65536 → shifted r d ≡ shifted q d → r ≡ q
shifted_back r q d h l e =
    X.same r q
    (empty (r ⊕ q) (X.small 16 r q h l)
    (ap (shifted (r ⊕ q)) (sym (xor_self d)) ∙ shifted_sum r q d d ∙ ap (λ (x : ℕ). x ⊕ shifted q d) e ∙ X.self (shifted q d)))

-- the register told back from the bits that passed and what it has become
pub after_back : (u : List Bool) (r q : ℕ) → r < 65536 → q < 65536 → after r u ≡ after q u → r ≡ q
unfolding after
after_back [] r q h l e = e
after_back (d ∷ u) r q h l e =
    shifted_back r q d h l (after_back u (shifted r d) (shifted q d) (shifted_small r d) (shifted_small q d) e)

-- ---- sixteen bits back

mod_times : (a b n : ℕ) → (a % n) * b % n ≡ a * b % n
mod_times a b n =
    sym (ap (λ (x : ℕ). x * b % n) (sym (div-add-mod' a n)) ∙ ap (λ (x : ℕ). x % n) (add-mul (a / n * n) (a % n) b)
    ∙ ap (λ (x : ℕ). (x + (a % n) * b) % n)
    (mul_assoc (a / n) n b ∙ ap (λ (x : ℕ). a / n * x) (mul_comm n b) ∙ sym (mul_assoc (a / n) b n))
    ∙ mul-add-mod_self_right (a / n * b) n ((a % n) * b))

-- a number that is gone after fifteen places or fewer is even
even_of : (x k : ℕ) → k ≤ 15 → x * 2 ^ k % 65536 ≡ 0 → x % 2 ≡ 0
even_of x k h e =
    ap (λ (n : ℕ). n % 2) (sym (mul-div_cancel x (lit< tt)))
    ∙ first_zero _ _ (sym (mod-mul (x * 32768) {m = 2} {c = 32768} (lit< tt) (lit< tt)) ∙ gone)
  where
    first_zero : (a b : ℕ) → a * 32768 + b ≡ 0 → a ≡ 0
    first_zero a b e = omega arith

    fifteen : x * 2 ^ k * 2 ^ (15 - k) ≡ x * 32768
    fifteen =
        let z : k + (15 - k) ≡ 15 = omega arith in
        mul_assoc x (2 ^ k) (2 ^ (15 - k)) ∙ ap (λ (n : ℕ). x * n) (sym (pow-add 2 k (15 - k)) ∙ ap (λ (n : ℕ). 2 ^ n) z)

    gone : x * 32768 % 65536 ≡ 0
    gone =
        ap (λ (n : ℕ). n % 65536) (sym fifteen) ∙ sym (mod_times (x * 2 ^ k) (2 ^ (15 - k)) 65536)
        ∙ ap (λ (n : ℕ). n * 2 ^ (15 - k) % 65536) e ∙ ap (λ (n : ℕ). n % 65536) (zero-mul (2 ^ (15 - k)))

-- a register that up to sixteen bits leave at 0 holds nothing but them
gone : (w : List Bool) (r : ℕ) → length w ≤ 16 → after r w ≡ 0 → r * 2 ^ length w % 65536 ≡ 0
unfolding after
gone [] r h e = omega arith
gone (d ∷ w) r h e = back (gone w (shifted r d) (omega arith) e)
  where
    back : shifted r d * 2 ^ length w % 65536 ≡ 0 → r * 2 ^ suc (length w) % 65536 ≡ 0
    back before =
        ap (λ (x : ℕ). r * x % 65536) (pow-suc 2 (length w) ∙ mul_comm (2 ^ length w) 2)
        ∙ ap (λ (x : ℕ). x % 65536) (sym (mul_assoc r 2 (2 ^ length w)))
        ∙ sym (mod_times (r * 2) (2 ^ length w) 65536)
        ∙ ap (λ (x : ℕ). x * 2 ^ length w % 65536) (sym (unadded r d (even_of (shifted r d) (length w) (omega arith) before)).1)
        ∙ before

top_0 : bit 0 15 ≡ false
unfolding bit
top_0 = refl

pub none_in : shifted 0 false ≡ 0
unfolding shifted xor bit
none_in = refl

pub turned_length : (u v : List Bool) → length u ≡ length v → length (turned u v) ≡ length u
unfolding turned zip_with
turned_length [] [] h = refl
turned_length [] (e ∷ v) h = absurd (omega arith)
turned_length (d ∷ u) [] h = absurd (omega arith)
turned_length (d ∷ u) (e ∷ v) h = ap suc (turned_length u v (omega arith))

-- from an empty register, no run of up to sixteen bits with a bit set in it
pub alike : (u v : List Bool) → length u ≡ length v → length u ≤ 16 → after 0 (turned u v) ≡ 0 → u ≡ v
unfolding after turned zip_with
alike [] [] h l e = refl
alike [] (c ∷ v) h l e = absurd (omega arith)
alike (d ∷ u) [] h l e = absurd (omega arith)
alike (d ∷ u) (c ∷ v) h l e =
    ap₂ ◌∷◌ (xor_none d c unset)
    (alike u v (omega arith) (omega arith) (ap (λ (x : ℕ). after x (turned u v)) (sym none_in ∙ ap (shifted 0) (sym unset)) ∙ e))
  where
    small : length (turned u v) ≤ 15
    small = omega (arith, turned_length u v (omega arith))

    unset : xor d c ≡ false
    unset =
        sym (ap (λ (t : Bool). xor t (xor d c)) top_0 ∙ false_xor (xor d c))
        ∙ (unadded 0 (xor d c)
        (even_of (shifted 0 (xor d c)) (length (turned u v)) small (gone (turned u v) (shifted 0 (xor d c)) (omega (arith, small)) e))).0

-- two runs of up to sixteen bits that lead from one register to one register
pub runs_alike : (u v : List Bool) (r : ℕ) → length u ≡ length v → length u ≤ 16 → after r u ≡ after r v → u ≡ v
runs_alike u v r h l e =
    alike u v h l
    (ap (λ (x : ℕ). after x (turned u v)) (sym (X.self r)) ∙ after_sum u v h r r ∙ ap (λ (x : ℕ). x ⊕ after r v) e ∙ X.self (after r v))
