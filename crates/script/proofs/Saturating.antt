-- A number that stops growing once it is too large asks for the same as the plain number.
-- Assumes nothing.
use Prim.Native.Nat.{ℕ, ◌+◌, ◌*◌, ◌<◌, ◌≤◌}
use mathlib.Core.Path.{◌≡◌, refl, sym, ap, ◌∙◌}
use mathlib.Core.Logic.{◌⊎◌, inl, inr}
use native.Mathlib.Omega.{arith}
use Rattle.std.specs.Prelude.{Option, Some, None, unwrap_or}
use Rattle.base.proofs.Choices.{within}
use Rattle.script.specs.Numbers.{most_ticks, grown, ticks_asked, level_asked}
use Rattle.script.specs.declared.places.Act.TheVariants.{Complain}
use Rattle.script.proofs.Asking.{grown_past, grown_by, ticks_many, pin_large, level_large}

-- the same number, or both are too large for every item
abbrev pub Alike : ℕ → ℕ → Type 0
Alike n m = (n ≡ m) ⊎ ((most_ticks < n) × (most_ticks < m))

pub alike_grown : (n m d : ℕ) → Alike n m → Alike (grown n d) (m * 10 + d)
alike_grown n m d (inl e) = go (within n most_ticks)
  where
    go : (n ≤ most_ticks) ⊎ (most_ticks < n) → Alike (grown n d) (m * 10 + d)
    go (inl h) = inl (sym (grown_by n d h) ∙ ap (λ (x : ℕ). x * 10 + d) e)
    go (inr h) = inr (rw (sym (grown_past n d h)) h, omega arith)
alike_grown n m d (inr h) = inr (rw (sym (grown_past n d h.0)) h.0, let z = h.1 in omega arith)

-- ---- ticks
ticks_large : (n : ℕ) → most_ticks < n → Complain ≡ ticks_asked n
ticks_large n h = ticks_many n (omega arith)

alike_ticks : (n m : ℕ) → Alike n m → ticks_asked n ≡ ticks_asked m
alike_ticks n m (inl e) = ap ticks_asked e
alike_ticks n m (inr h) = sym (ticks_large n h.0) ∙ ticks_large m h.1

-- ---- a pin and its level, of which none may be there yet
pub data AlikeOnce : Option ℕ → Option ℕ → Type 0 where
  none_yet : AlikeOnce None None
  both_there : {n m : ℕ} → Alike n m → AlikeOnce (Some n) (Some m)

pub alike_once_grown : {n m : Option ℕ} (d : ℕ) → AlikeOnce n m → Alike (grown (unwrap_or n 0) d) (unwrap_or m 0 * 10 + d)
alike_once_grown d none_yet = alike_grown 0 0 d (inl refl)
alike_once_grown d (both_there {n} {m} k) = alike_grown n m d k

alike_level : (pin pin' : ℕ) {n m : Option ℕ} → Alike pin pin' → AlikeOnce n m → level_asked pin n ≡ level_asked pin' m
unfolding level_asked
alike_level pin pin' k none_yet = refl
alike_level pin pin' (inr h) (both_there {n} {m} k) =
    sym (pin_large pin (Some n) n refl (omega arith)) ∙ pin_large pin' (Some m) m refl (omega arith)
alike_level pin pin' (inl e) (both_there {n} {m} (inr h)) =
    sym (level_large pin (Some n) n refl (omega arith)) ∙ level_large pin' (Some m) m refl (omega arith)
alike_level pin pin' (inl e) (both_there {n} {m} (inl f)) =
    ap (λ (x : ℕ). level_asked x (Some n)) e ∙ ap (λ (x : ℕ). level_asked pin' (Some x)) f

-- ---- what is asked for is the same
pub same_verdict :
    {n m : ℕ}
    → Alike n m
    → (ticks_asked n ≡ ticks_asked m)
    × ((pin pin' : ℕ) → Alike pin pin' → level_asked pin (Some n) ≡ level_asked pin' (Some m))
same_verdict {n} {m} k =
    (alike_ticks n m k, λ (pin pin' : ℕ) (h : Alike pin pin'). alike_level pin pin' h (both_there k))

pub same_level : {pin pin' : ℕ} {n m : Option ℕ} → Alike pin pin' → AlikeOnce n m → level_asked pin n ≡ level_asked pin' m
same_level {pin} {pin'} h k = alike_level pin pin' h k
