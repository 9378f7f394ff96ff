-- Working an entered phase: a tick of a visit, a tick of a timed pause.   (01, Ticks and phases, RAT and PAS; Volumes)
use Rattle.std.specs.Prelude.{ℕ, ◌+◌, ◌-◌, ◌*◌, ◌≤◌, ◌≡◌, leb, if◌then◌else◌, Option, Some, None}
use Rattle.drive.specs.Rates.{hourly_rate, most_rate}
use Rattle.drive.specs.Syringe.{most_diameter, step_volume, step_threshold}
use Rattle.drive.specs.declared.directions.Direction.{Direction}
use Rattle.drive.specs.declared.syringe.Syringe.{Syringe}
use Rattle.words.specs.declared.answers.Alarm.TheVariants.{Program}
use Rattle.dispense.specs.Ledgers.{most_total, total_of, book}
use Rattle.dispense.specs.Rates.{thousandths}
use Rattle.dispense.specs.Visits.{Working, steps_of, worked_of, is_done}
use Rattle.dispense.specs.declared.ledgers.Ledger.{Ledger}
use Rattle.dispense.specs.declared.rates.Rate.{Rate}
use Rattle.dispense.specs.declared.visits.Visit.{Visit}
use Rattle.program.specs.Runs.{raise, doing, go_on}
use Rattle.program.specs.declared.state.Run.{Run}
use Rattle.program.specs.declared.state.Work.TheVariants.{Visiting, Pausing}
use Rattle.tick.specs.declared.working.Given.{Given}

-- reaching the target ends the visit; however it ends, the time store goes with it
unfoldable pub after_visit : Run → Visit → Run
after_visit r v = if is_done v then go_on r else doing r (Visiting v)

-- the volume of the steps that a working tick gives
unfoldable pub dose_of : Syringe → Visit → ℕ → ℕ
dose_of y v hourly = steps_of v hourly (step_threshold y) * step_volume y

-- the steps' volume is booked in the phase's direction; if the total would pass its limit: no step, and alarm E
unfoldable pub give_steps : Run → Ledger → Syringe → Direction → Visit → ℕ → Given
give_steps r l y way v hourly =
    if leb (total_of l way + dose_of y v hourly) most_total
    then
    record {
      run = after_visit r (worked_of v hourly (step_threshold y));
      ledger = book l way (dose_of y v hourly);
      steps = steps_of v hourly (step_threshold y);
    }
    else record { run = raise r Program; ledger = l; steps = 0 }

-- at the current rate; a sound visit has one
abbrev pub work_at : Run → Ledger → Syringe → Direction → Visit → Option Rate → Given
work_at r l y way v None = record { run = r; ledger = l; steps = 0 }
work_at r l y way v (Some x) = give_steps r l y way v (hourly_rate x.thousandths x.unit)

unfoldable pub work_visit : Run → Ledger → Syringe → Direction → Visit → Given
work_visit r l y way v = work_at r l y way v r.rate

-- a timed pause ends on its last tick
unfoldable pub work_pause : Run → ℕ → Run
work_pause r left = if leb left 1 then go_on r else doing r (Pausing (left - 1))

-- ---- what the code of a working tick may rely on
pub record Giving (r : Run) (l : Ledger) (y : Syringe) (way : Direction) (v : Visit) (hourly : ℕ) : Type 0 where
  pub high : y.diameter ≤ most_diameter
  pub current_few : r.place.current ≤ 100
  pub total : total_of l way ≤ most_total
  pub works : Working v hourly (step_threshold y)

pub record AtRate (r : Run) (l : Ledger) (y : Syringe) (way : Direction) (v : Visit) : Type 0 where
  pub small : thousandths r.rate ≤ most_rate
  pub gives : (x : Rate) → r.rate ≡ Some x → Giving r l y way v (hourly_rate x.thousandths x.unit)
