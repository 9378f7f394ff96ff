-- Strides: a sum taken apart by the threshold; the numbers of k ticks at once fit, a long stride by thousands is the stride, and one tick
-- more is the next stride.
-- Assumes nothing.
use Prim.Native.Nat.{ℕ, ◌+◌, ◌-◌, ◌*◌, ◌/◌, ◌%◌, ◌≤◌, ◌<◌}
use mathlib.Core.Path.{◌≡◌, sym, ap, ◌∙◌}
use mathlib.Core.Bool.{true, ◌||◌}
use native.Mathlib.Nat.{mul-le-mul, mod-add-mod, mod-lt, mod-add-div', add-mul-div_right, add-mul-mod_self_right}
use native.Mathlib.Nat.{div-eq_of_lt, mod-eq_of_lt, div-lt_iff_lt-mul}
use native.Mathlib.Omega.{arith}
use lib.Dec.{leb}
use borrow.Author.Tests.{leb-true}
use Rattle.base.proofs.Each.{either}
use Rattle.dispense.proofs.Counting.{taken_off, taken_at_most}
use Rattle.leap.specs.Strides.{Steady, stride_steps, stride_store, stride_over}
use Rattle.leap.specs.declared.strides.Stride.{Stride}

-- ---- a sum that is known as so many thresholds and a rest below one
parted_div : (x n r t : ℕ) → x ≡ r + n * t → r < t → x / t ≡ n
parted_div x n r t e h =
    ap (λ (y : ℕ). y / t) e ∙ add-mul-div_right r n (omega arith) ∙ ap (λ (y : ℕ). y + n) (div-eq_of_lt h) ∙ omega arith

parted_mod : (x n r t : ℕ) → x ≡ r + n * t → r < t → x % t ≡ r
parted_mod x n r t e h = ap (λ (y : ℕ). y % t) e ∙ add-mul-mod_self_right r n t ∙ mod-eq_of_lt h

-- so many thresholds are known to be in it, and those of the rest are counted
pub parted_above :
    (sum t sure due : ℕ)
    → 0 < t
    → sure * t ≤ sum
    → due ≡ (sum - sure * t) / t
    → ◌≡◌ {A = Stride} (record { steps = sure + due; store = sum - sure * t - due * t }) (record { steps = sum / t; store = sum % t })
parted_above sum t sure due p h e =
    let rest = sum - sure * t in
    let r = rest - due * t in
    let off : r ≡ rest % t = ap (λ (n : ℕ). rest - n * t) e ∙ taken_off rest t in
    let below : r < t = omega (arith, off, mod-lt rest p) in
    let most : due * t ≤ rest = rw e (taken_at_most rest t) in
    let whole : sum ≡ r + (sure + due) * t = omega (arith, h, most) in
    λ i. record { steps = sym (parted_div sum (sure + due) r t whole below) i; store = sym (parted_mod sum (sure + due) r t whole below) i }

-- a tick divides, the next one divides the rest with more: together they divide the sum
div_on : (a b t : ℕ) → 0 < t → a / t + (a % t + b) / t ≡ (a + b) / t
div_on a b t h =
    let e : a + b ≡ (a % t + b) + a / t * t = omega (arith, mod-add-div' a t) in
    sym (ap (λ (x : ℕ). x / t) e ∙ add-mul-div_right (a % t + b) (a / t) h ∙ omega arith)

-- ---- a stride in one division
module _
    (store hourly t k : ℕ) (w : Steady store hourly t) (few : k ≤ 1_000_000)
    (small : (leb k 2000 || leb hourly 18_000_000_000_000) ≡ true) where
  pub rates_small : k * hourly ≤ 18_000_000_000_000_000_000
  rates_small =
      either (leb k 2000) (leb hourly 18_000_000_000_000)
      (λ e. omega (arith, mul-le-mul (leb-true k 2000 e) w.usable, w.bounded))
      (λ e. omega (arith, mul-le-mul few (leb-true hourly 18_000_000_000_000 e)))
      small

  pub sum_small : store + k * hourly ≤ 18_001_767_150_000_000_000
  sum_small = omega (arith, rates_small, w.bounded, w.store_below)

-- ---- a long stride, by thousands
module _ (store hourly t k : ℕ) where
  abbrev rest : ℕ
  rest = hourly % t

  abbrev rest_thousand : ℕ
  rest_thousand = 1000 * rest % t

  abbrev first : ℕ
  first = store + k / 1000 * rest_thousand

  abbrev second : ℕ
  second = first % t + k % 1000 * rest

  abbrev long : ℕ
  long = k * (hourly / t) + k / 1000 * (1000 * rest / t) + first / t + second / t

  module _ (w : Steady store hourly t) (few : k ≤ 1_000_000) where
    above_0 : 0 < t
    above_0 = omega (arith, w.store_below)

    rest_below : rest < t
    rest_below = mod-lt hourly above_0

    rest_thousand_below : rest_thousand < t
    rest_thousand_below = mod-lt (1000 * rest) above_0

    thousands_few : k / 1000 ≤ 1000
    thousands_few = omega (arith, few)

    ones_few : k % 1000 ≤ 1000
    ones_few = omega arith

    thousands_below : k / 1000 * rest_thousand ≤ 1000 * t
    thousands_below = let h : rest_thousand ≤ t = omega (arith, rest_thousand_below) in mul-le-mul thousands_few h

    ones_below : k % 1000 * rest ≤ 1000 * t
    ones_below = let h : rest ≤ t = omega (arith, rest_below) in mul-le-mul ones_few h

    first_below : first < 1001 * t
    first_below = omega (arith, thousands_below, w.store_below)

    second_below : second < 1001 * t
    second_below = let h : first % t < t = mod-lt first above_0 in omega (arith, ones_below, h)

    each_few : hourly / t ≤ 4
    each_few = let h : hourly / t < 5 = (div-lt_iff_lt-mul above_0).1 (omega (arith, w.usable, above_0)) in omega arith

    each_thousand_few : 1000 * rest / t ≤ 1000
    each_thousand_few =
        let h : 1000 * rest / t < 1000 = (div-lt_iff_lt-mul above_0).1 (omega (arith, rest_below)) in
        omega arith

    -- how many steps it has at most
    pub long_small : long ≤ 5_002_000
    long_small =
        let a : k * (hourly / t) ≤ 4_000_000 = mul-le-mul few each_few in
        let b : k / 1000 * (1000 * rest / t) ≤ 1_000_000 = mul-le-mul thousands_few each_thousand_few in
        let d : first / t < 1001 = (div-lt_iff_lt-mul above_0).1 first_below in
        let e : second / t < 1001 = (div-lt_iff_lt-mul above_0).1 second_below in
        omega arith

    -- the rate and a thousand of its rests taken apart, times k and times the thousands of k
    parted : store + k * hourly ≡ second % t + long * t
    parted =
        let a : k * hourly ≡ k * (hourly % t + hourly / t * t) = ap (λ (x : ℕ). k * x) (sym (mod-add-div' hourly t)) in
        let b : k / 1000 * (1000 * rest) ≡ k / 1000 * (rest_thousand + 1000 * rest / t * t) =
        ap (λ (x : ℕ). k / 1000 * x) (sym (mod-add-div' (1000 * rest) t)) in
        let d : k * rest ≡ (k / 1000 * 1000 + k % 1000) * rest = ap (λ (x : ℕ). x * rest) (omega arith) in
        omega (arith, a, b, d, mod-add-div' first t, mod-add-div' second t)

    pub by_thousands : ◌≡◌ {A = Stride} (record { steps = long; store = second % t }) (stride_over store hourly t k)
    unfolding stride_steps stride_store
    by_thousands =
        let below : second % t < t = mod-lt second above_0 in
        let n = parted_div (store + k * hourly) long (second % t) t parted below in
        let r = parted_mod (store + k * hourly) long (second % t) t parted below in
        λ i. record { steps = sym n i; store = sym r i }

-- ---- one tick more
module _ (store hourly t : ℕ) (w : Steady store hourly t) where
  positive : 0 < t
  positive = omega (arith, w.store_below)

  again : (k : ℕ) → store + k * hourly + hourly ≡ store + (k + 1) * hourly
  again k = omega arith

  pub steps_on : (k : ℕ) → stride_steps store hourly t k + (stride_store store hourly t k + hourly) / t ≡ stride_steps store hourly t (k + 1)
  unfolding stride_steps stride_store
  steps_on k = div_on (store + k * hourly) hourly t positive ∙ ap (λ (x : ℕ). x / t) (again k)

  pub store_on : (k : ℕ) → (stride_store store hourly t k + hourly) % t ≡ stride_store store hourly t (k + 1)
  unfolding stride_store
  store_on k = mod-add-mod (store + k * hourly) t hourly ∙ ap (λ (x : ℕ). x % t) (again k)

  pub none_steps : stride_steps store hourly t 0 ≡ 0
  unfolding stride_steps
  none_steps = let e : store + 0 * hourly ≡ store = omega arith in ap (λ (x : ℕ). x / t) e ∙ div-eq_of_lt w.store_below

  pub none_store : stride_store store hourly t 0 ≡ store
  unfolding stride_store
  none_store = let e : store + 0 * hourly ≡ store = omega arith in ap (λ (x : ℕ). x % t) e ∙ mod-eq_of_lt w.store_below

  -- at most four steps a tick
  pub four_a_tick : (k : ℕ) → stride_steps store hourly t k ≤ 4 * k
  unfolding stride_steps
  four_a_tick k =
      let a : k * hourly ≤ k * (4 * t) = mul-le-mul {n₁ = k} {n₂ = k} (omega arith) w.usable in
      let h : (store + k * hourly) / t < 4 * k + 1 = (div-lt_iff_lt-mul positive).1 (omega (arith, a, w.store_below)) in
      omega arith
