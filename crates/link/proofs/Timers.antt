-- The timer over several ticks: it counts down, and waits from its end on.
-- Assumes nothing.
use Rattle.std.specs.Prelude.{if◌then◌else◌, Option, None, Some}
use Prim.Native.Nat.{ℕ, zero, suc, ◌-◌, ◌*◌, ◌≤◌, ◌<◌}
use mathlib.Core.Path.{◌≡◌, refl, ap, ◌∙◌}
use mathlib.Core.Logic.{◌⊎◌, inl, inr}
use mathlib.Core.Bool.{Bool, true, false}
use native.Mathlib.Omega.{arith}
use lib.Dec.{leb}
use borrow.Author.Tests.{le-leb, lt-leb, leb-true, leb-false}
use Rattle.base.proofs.Choices.{and_left, and_right, within}
use Rattle.base.proofs.Each.{and_both}
use Rattle.link.specs.Link.{timer_left, timer_tick, timer_ticks, is_sound_timer}

-- ---- how many ticks are left
pub tick_left : (t : Option ℕ) → timer_left (timer_tick t) ≡ timer_left t - 1
tick_left None = refl
tick_left (Some t) = go (leb t 1) refl
  where
    go : (u : Bool) → leb t 1 ≡ u → timer_left (if u then None else Some (t - 1)) ≡ t - 1
    go true e = omega (arith, leb-true t 1 e)
    go false e = refl

-- ---- the timer itself
pub timer_waits : (n : ℕ) → timer_ticks n None ≡ None
unfolding timer_ticks
timer_waits zero = refl
timer_waits (suc n) = ap timer_tick (timer_waits n)

pub timer_runs : (n t : ℕ) → n < t → timer_ticks n (Some t) ≡ Some (t - n)
unfolding timer_ticks
timer_runs zero t h = let z : t ≡ t - 0 = omega arith in ap Some z
timer_runs (suc n) t h =
    let z : t - n - 1 ≡ t - suc n = omega arith in
    let more : timer_tick (Some (t - n)) ≡ Some (t - n - 1) = simp (lt-leb (t - n) 1 (omega arith)) in
    ap timer_tick (timer_runs n t (omega arith)) ∙ more ∙ ap Some z

pub timer_ends : (n t : ℕ) → 1 ≤ t → t ≤ n → timer_ticks n (Some t) ≡ None
unfolding timer_ticks
timer_ends zero t l h = absurd (omega arith)
timer_ends (suc n) t l h = go (within t n) (timer_ends n t l)
  where
    go : (t ≤ n) ⊎ (n < t) → (t ≤ n → timer_ticks n (Some t) ≡ None) → timer_tick (timer_ticks n (Some t)) ≡ None
    go (inl k) ih = ap timer_tick (ih k)
    go (inr k) ih = ap timer_tick (timer_runs n t k) ∙ simp (le-leb (t - n) 1 (omega arith))

-- ---- what its test says
pub some_left : (n t : ℕ) → is_sound_timer n (Some t) ≡ true → 1 ≤ t
some_left n t h = leb-true 1 t (and_left (leb 1 t) (leb t (1000 * n)) h)

pub few_left : (n t : ℕ) → is_sound_timer n (Some t) ≡ true → t ≤ 1000 * n
few_left n t h = leb-true t (1000 * n) (and_right (leb 1 t) (leb t (1000 * n)) h)

pub sound_left : (n t : ℕ) → 1 ≤ t → t ≤ 1000 * n → is_sound_timer n (Some t) ≡ true
sound_left n t h l = and_both (leb 1 t) (leb t (1000 * n)) (le-leb 1 t h) (le-leb t (1000 * n) l)

pub timer_sound : (n : ℕ) (t : Option ℕ) → is_sound_timer n t ≡ true → is_sound_timer n (timer_tick t) ≡ true
timer_sound n None h = refl
timer_sound n (Some t) h = go (leb t 1) refl
  where
    go : (u : Bool) → leb t 1 ≡ u → is_sound_timer n (if u then None else Some (t - 1)) ≡ true
    go true e = refl
    go false e = sound_left n (t - 1) (omega (arith, leb-false t 1 e)) (omega (arith, few_left n t h))
