-- The table of phases, however many they are: the phase of a number, another phase put there, and every phase tested.
-- Assumes nothing.
use Rattle.std.specs.Prelude.{if◌then◌else◌}
use Rattle.std.specs.List.{list_all}
use Rattle.std.proofs.lemmas.List.Folds.{list_all-append}
use Prim.Native.Nat.{ℕ, zero, suc, ◌-◌, ◌≤◌, ◌<◌}
use mathlib.Core.Path.{◌≡◌, refl, sym, ap, ◌∙◌}
use mathlib.Core.Logic.{◌⊎◌, inl, inr}
use mathlib.Core.Bool.{Bool, true, false, ◌&&◌}
use mathlib.Core.List.{List, [], ◌∷◌, reverse, reverse-cons}
use native.Mathlib.Nat.{le_of_suc-le-suc, not-suc-le-zero}
use native.Mathlib.Omega.{arith}
use lib.Dec.{leb}
use lib.ListN.{length, get_or, set, get_or-eq_default}
use borrow.Author.Tests.{le-leb, lt-leb, leb-true}
use Rattle.base.proofs.Choices.{and_left, and_right, and_false}
use Rattle.words.specs.Functions.{is_phase}
use Rattle.words.specs.Phases.{power_up, is_sound_phase}
use Rattle.words.specs.declared.phases.Phase.{Phase}
use Rattle.pump.specs.Holder.{phase_count, stop_phase, phase_at, with_phases, with_phase, is_sound_phases}
use Rattle.pump.specs.declared.holder.Pump.{Pump}

-- ---- a number that passed the test is from 1 to the last
module _ (count n : ℕ) (e : is_phase count n ≡ true) where
  pub number_least : 1 ≤ n
  number_least = leb-true 1 n (and_left (leb 1 n) (leb n count) e)

  pub number_most : n ≤ count
  number_most = leb-true n count (and_right (leb 1 n) (leb n count) e)

-- ---- the phase of a number
get_d_within : (l : List Phase) (i : ℕ) (d e : Phase) → i < length l → get_or l i d ≡ get_or l i e
get_d_within [] i d e h = absurd (not-suc-le-zero h)
get_d_within (x ∷ l) zero d e h = refl
get_d_within (x ∷ l) (suc i) d e h = get_d_within l i d e (le_of_suc-le-suc h)

-- a phase that is none is as one at power-up that stops
power_up_stops : power_up 0 ≡ stop_phase
unfolding power_up
power_up_stops = refl

within : (ps : List Phase) (n : ℕ) (d : Phase) → 1 ≤ n → n ≤ length ps → get_or ps (n - 1) d ≡ phase_at ps n
unfolding phase_at
within ps zero d a h = absurd (omega arith)
within ps (suc n) d a h =
    let e : suc n - 1 ≡ n = omega arith in
    rw e (get_d_within ps n d stop_phase h)

none : (ps : List Phase) (n : ℕ) → (n < 1) ⊎ (length ps < n) → stop_phase ≡ phase_at ps n
unfolding phase_at
none ps zero h = refl
none ps (suc n) (inl h) = absurd (omega arith)
none ps (suc n) (inr h) = sym (get_or-eq_default ps stop_phase {n = n} (le_of_suc-le-suc h))

module _ {count : ℕ} (ps : List Phase) (n : ℕ) (here : Phase) (full : length ps ≡ count) where
  pub phase_read : (d : Phase) → 1 ≤ n → n ≤ count → here ≡ get_or ps (n - 1) d → here ≡ phase_at ps n
  phase_read d a b e = e ∙ within ps n d a (omega (arith, full))

  pub phase_over : count < n → here ≡ power_up 0 → here ≡ phase_at ps n
  phase_over h e = e ∙ power_up_stops ∙ none ps n (inr (omega (arith, full)))

  pub phase_under : n < 1 → here ≡ power_up 0 → here ≡ phase_at ps n
  phase_under h e = e ∙ power_up_stops ∙ none ps n (inl h)

-- ---- another phase of a number
module _ {count : ℕ} (p : Pump) (n : ℕ) (x : Phase) (full : phase_count p ≡ count) where
  by_number : (t : Bool) → is_phase count n ≡ t → (if t then with_phases p (set p.phases (n - 1) x) else p) ≡ with_phase p n x
  unfolding with_phase
  by_number t e = sym (simp (ap (λ (k : ℕ). is_phase k n) full ∙ e))

  pub set_within : 1 ≤ n → n ≤ count → with_phases p (set p.phases (n - 1) x) ≡ with_phase p n x
  set_within a b = by_number true (simp (le-leb 1 n a, le-leb n count b))

  pub set_over : count < n → p ≡ with_phase p n x
  set_over h = by_number false (ap (λ (t : Bool). leb 1 n && t) (lt-leb n count h) ∙ and_false (leb 1 n))

  pub set_under : n < 1 → p ≡ with_phase p n x
  set_under h = by_number false (simp (lt-leb 1 n h))

-- ---- every phase tested, from the last on
turned : (t u : Bool) → (t && (u && true)) ≡ (u && t)
turned true true = refl
turned true false = refl
turned false true = refl
turned false false = refl

pub sound_as : (count : ℕ) (ps : List Phase) → list_all (is_sound_phase count) (reverse ps) ≡ is_sound_phases count ps
unfolding is_sound_phases
sound_as count [] = refl
sound_as count (p ∷ ps) =
    let test = is_sound_phase count in
    ap (list_all test) (reverse-cons p ps)
    ∙ list_all-append test (reverse ps) (p ∷ [])
    ∙ ap (λ (t : Bool). t && (test p && true)) (sound_as count ps)
    ∙ turned (is_sound_phases count ps) (test p)
