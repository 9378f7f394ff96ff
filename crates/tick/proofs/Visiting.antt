-- A visit in the program: what a working tick gives, that its dose is small, and how a visit is begun.
-- Assumes nothing.
use Prim.Native.Nat.{ℕ, ◌+◌, ◌*◌, ◌≤◌, ◌<◌}
use mathlib.Core.Path.{◌≡◌, sym, ◌∙◌}
use mathlib.Core.Bool.{true, false, ◌&&◌}
use native.Mathlib.Nat.{mul-le-mul}
use native.Mathlib.Omega.{arith}
use lib.Dec.{ltb, eqb}
use borrow.Author.Tests.{le-leb, lt-leb}
use Rattle.drive.specs.Syringe.{most_diameter, step_volume, step_threshold, step_target}
use Rattle.drive.specs.declared.directions.Direction.{Direction}
use Rattle.drive.specs.declared.syringe.Syringe.{Syringe}
use Rattle.drive.proofs.Bounds.{step_volume_le}
use Rattle.words.specs.declared.answers.Alarm.TheVariants.{Program}
use Rattle.words.specs.declared.phases.Phase.{Phase}
use Rattle.dispense.specs.Ledgers.{most_total, total_of, book}
use Rattle.dispense.specs.Visits.{Working, work}
use Rattle.dispense.specs.declared.ledgers.Ledger.{Ledger}
use Rattle.dispense.specs.declared.visits.Visit.{Visit}
use Rattle.dispense.specs.declared.visits.Worked.{Worked}
use Rattle.dispense.proofs.Visiting.{steps_le}
use Rattle.program.specs.Runs.{raise, doing, go_on}
use Rattle.program.specs.declared.state.Run.{Run}
use Rattle.program.specs.declared.state.Work.TheVariants.{Visiting}
use Rattle.tick.specs.Entering.{begin_visit}
use Rattle.tick.specs.Working.{after_visit, dose_of, give_steps}
use Rattle.tick.specs.declared.working.Given.{Given}

-- ---- a working tick: the worked visit, the step volume and the total as calls gave them
module _
    (r : Run) (l : Ledger) (d : Syringe) (way : Direction) (v : Visit) (hourly : ℕ) (w : Worked) (limit volume total : ℕ)
    (limit_is : limit ≡ step_threshold d) (works : w ≡ work v hourly limit) where
  pub steps_small : Working v hourly (step_threshold d) → w.steps ≤ 4
  steps_small h = rw (works, limit_is) (steps_le v hourly (step_threshold d) h)

  -- four steps of the largest volume
  pub dose_small : volume ≡ step_volume d → d.diameter ≤ most_diameter → Working v hourly (step_threshold d) → w.steps * volume ≤ 1_963_500_000
  dose_small e h k = rw e (omega (arith, mul-le-mul (steps_small k) (step_volume_le d h)))

  module _ (volume-is : volume ≡ step_volume d) (total_is : total ≡ total_of l way) where
    pub gives :
        (x : Run) (y : Ledger)
        → total + w.steps * volume ≤ most_total
        → x ≡ after_visit r w.visit
        → y ≡ book l way (w.steps * volume)
        → ◌≡◌ {A = Given} (record { run = x; ledger = y; steps = w.steps }) (give_steps r l d way v hourly)
    unfolding give_steps dose_of
    gives x y h e f =
        rw (e, f, volume-is, works, limit_is) (simp (le-leb _ _ (rw (total_is, volume-is, works, limit_is) at h)))

    pub gives_none :
        (x : Run)
        → most_total < total + w.steps * volume
        → x ≡ raise r Program
        → ◌≡◌ {A = Given} (record { run = x; ledger = l; steps = 0 }) (give_steps r l d way v hourly)
    unfolding give_steps dose_of
    gives_none x h e = rw e (simp (lt-leb _ _ (rw (total_is, volume-is, works, limit_is) at h)))

-- ---- a visit is begun, or ends at entry: a volume too small for a step
module _ (r x : Run) (d : Syringe) (p : Phase) (t : ℕ) (aimed : t ≡ step_target d p.volume) where
  pub ends_at_entry : (ltb 0 p.volume && eqb t 0) ≡ true → x ≡ go_on r → x ≡ begin_visit r d p
  unfolding begin_visit
  ends_at_entry h e = e ∙ sym (simp (rw aimed at h))

  pub begins :
      (ltb 0 p.volume && eqb t 0) ≡ false
      → x ≡ doing r (Visiting (record { given = 0; target = t; store = 0 }))
      → x ≡ begin_visit r d p
  unfolding begin_visit
  begins h e = e ∙ rw aimed (sym (simp (rw aimed at h)))
