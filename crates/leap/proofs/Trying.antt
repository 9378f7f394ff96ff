-- The leap of a visit as it is tried: with the stride, the step volume, the total and the test as calls gave them.
-- Assumes nothing.
use Prim.Native.Nat.{ℕ, ◌+◌, ◌*◌, ◌≤◌}
use mathlib.Core.Path.{◌≡◌, sym, ◌∙◌}
use mathlib.Core.Bool.{Bool, true, false, ◌&&◌}
use native.Mathlib.Nat.{mul-le-mul}
use native.Mathlib.Omega.{arith}
use lib.Dec.{leb}
use Rattle.drive.specs.Syringe.{most_diameter, step_volume, step_threshold}
use Rattle.drive.specs.declared.directions.Direction.{Direction}
use Rattle.drive.specs.declared.syringe.Syringe.{Syringe}
use Rattle.drive.proofs.Bounds.{step_volume_le}
use Rattle.dispense.specs.Ledgers.{most_total, total_of, book}
use Rattle.dispense.specs.Visits.{Working}
use Rattle.dispense.specs.declared.ledgers.Ledger.{Ledger}
use Rattle.dispense.specs.declared.visits.Visit.{Visit}
use Rattle.program.specs.Runs.{doing}
use Rattle.program.specs.declared.state.Run.{Run}
use Rattle.program.specs.declared.state.Work.TheVariants.{Visiting}
use Rattle.leap.specs.Strides.{stride_over}
use Rattle.leap.specs.Visits.{is_short, visit_after, stride_dose, none, is_within, leap_at}
use Rattle.leap.specs.declared.strides.Stride.{Stride}
use Rattle.leap.specs.declared.visits.Strode.{Strode}
use Rattle.leap.proofs.Striding.{four_a_tick}
use Rattle.leap.proofs.Visiting.{steady}

module _
    (y : Syringe) (v : Visit) (hourly k : ℕ) (w : Stride) (limit : ℕ) (limit_is : limit ≡ step_threshold y)
    (strides : w ≡ stride_over v.store hourly limit k) where
  pub steps_small : Working v hourly (step_threshold y) → k ≤ 1_000_000 → w.steps ≤ 4_000_000
  steps_small works h =
      rw (strides, limit_is)
      (omega (arith, four_a_tick v.store hourly (step_threshold y) (steady v hourly (step_threshold y) works) k))

  module _ (volume : ℕ) (volume-is : volume ≡ step_volume y) where
    -- four million steps of the largest volume
    pub dose_small :
        y.diameter ≤ most_diameter → Working v hourly (step_threshold y) → k ≤ 1_000_000 → w.steps * volume ≤ 1_963_500_000_000_000
    dose_small high works h = rw volume-is (omega (arith, mul-le-mul (steps_small works h) (step_volume_le y high)))

    module _
        (r : Run) (l : Ledger) (way : Direction) (total : ℕ) (short : Bool) (total_is : total ≡ total_of l way)
        (short-is : short ≡ is_short v w.steps) where
      -- the test, in the definition's words
      tested : (b : Bool) → (short && leb (total + w.steps * volume) most_total) ≡ b → is_within l y way v hourly k ≡ b
      unfolding stride_dose
      tested b e = rw (short-is, total_is, volume-is, strides, limit_is) at e

      pub leaps_within :
          (u : Visit) (x : Run) (z : Ledger)
          → (short && leb (total + w.steps * volume) most_total) ≡ true
          → u ≡ visit_after v w
          → x ≡ doing r (Visiting u)
          → z ≡ book l way (w.steps * volume)
          → ◌≡◌ {A = Strode} (record { run = x; ledger = z; steps = w.steps; ticks = k }) (leap_at r l y way v hourly k)
      unfolding leap_at stride_dose
      leaps_within u x z e a b d = rw (b, a, d, volume-is, strides, limit_is) (simp (tested true e))

      pub leaps_nowhere :
          (x : Strode) → (short && leb (total + w.steps * volume) most_total) ≡ false → x ≡ none r l → x ≡ leap_at r l y way v hourly k
      unfolding leap_at
      leaps_nowhere x e q = q ∙ sym (simp (tested false e))
