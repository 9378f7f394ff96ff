-- What follows from a visit's rules: at most four steps a tick and never past the target; the store stays below the threshold.
-- Assumes nothing.
use Rattle.std.specs.Prelude.{if◌then◌else◌}
use Prim.Native.Nat.{ℕ, ◌+◌, ◌-◌, ◌/◌, ◌≤◌, ◌<◌, min}
use mathlib.Core.Path.{◌≡◌}
use mathlib.Core.Bool.{Bool, true, false}
use native.Mathlib.Nat.{div-lt_iff_lt-mul, mod-lt}
use native.Mathlib.Omega.{arith}
use lib.Dec.{eqb}
use borrow.Author.Tests.{ne_eqb}
use Rattle.dispense.specs.Visits.{Working, due_of, store_of, steps_of}
use Rattle.dispense.specs.declared.visits.Visit.{Visit}

module _ (v : Visit) (hourly limit : ℕ) (w : Working v hourly limit) where
  pub threshold_above_0 : 0 < limit
  threshold_above_0 = omega arith

  pub due_le : due_of v hourly limit ≤ 4
  unfolding due_of
  due_le =
      let h : (v.store + hourly) / limit < 5 = (div-lt_iff_lt-mul threshold_above_0).1 (omega arith) in
      omega arith

  pub store_stays_below : store_of v hourly limit < limit
  unfolding store_of
  store_stays_below = mod-lt _ threshold_above_0

  of_due : (t : Bool) → (if t then due_of v hourly limit else min (due_of v hourly limit) (v.target - v.given)) ≤ due_of v hourly limit
  of_due true = omega arith
  of_due false = omega arith

  pub steps_le : steps_of v hourly limit ≤ 4
  unfolding steps_of
  steps_le = omega (arith, due_le, of_due (eqb v.target 0))

  of_left :
      (t : Bool)
      → t ≡ false
      → (if t then due_of v hourly limit else min (due_of v hourly limit) (v.target - v.given)) ≤ v.target - v.given
  of_left true e = let z : ◌≡◌ {A = ℕ} 0 1 = cc in absurd (omega arith)
  of_left false e = omega arith

  -- a visit with a target never gives more than what is left of it
  pub steps_within_target : (v.target ≡ 0 → ⊥) → v.given + steps_of v hourly limit ≤ v.target
  unfolding steps_of
  steps_within_target ne = omega (arith, w.within, of_left (eqb v.target 0) (ne_eqb _ _ ne))
