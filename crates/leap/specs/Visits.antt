-- Many working ticks of a visit at once.   (01, Ticks and phases, RAT; Volumes: the limit of a total)
use Rattle.std.specs.Prelude.{ℕ, ◌+◌, ◌*◌, Bool, ◌&&◌, ◌||◌, ltb, leb, eqb, if◌then◌else◌, Option, Some, None}
use Rattle.drive.specs.Rates.{hourly_rate}
use Rattle.drive.specs.Syringe.{step_volume, step_threshold}
use Rattle.drive.specs.declared.directions.Direction.{Direction}
use Rattle.drive.specs.declared.syringe.Syringe.{Syringe}
use Rattle.dispense.specs.Ledgers.{most_total, total_of, book}
use Rattle.dispense.specs.declared.ledgers.Ledger.{Ledger}
use Rattle.dispense.specs.declared.rates.Rate.{Rate}
use Rattle.dispense.specs.declared.visits.Visit.{Visit}
use Rattle.program.specs.Runs.{doing}
use Rattle.program.specs.declared.state.Run.{Run}
use Rattle.program.specs.declared.state.Work.TheVariants.{Visiting}
use Rattle.leap.specs.Strides.{stride_steps, stride_over}
use Rattle.leap.specs.declared.strides.Stride.{Stride}
use Rattle.leap.specs.declared.visits.Strode.{Strode}

-- so many steps more do not reach the target; a continuous visit has none
unfoldable pub is_short : Visit → ℕ → Bool
is_short v steps = eqb v.target 0 || ltb (v.given + steps) v.target

-- the steps given count towards the target; a continuous visit counts none
unfoldable pub given_after : Visit → ℕ → ℕ
given_after v steps = if eqb v.target 0 then v.given else v.given + steps

abbrev pub visit_after : Visit → Stride → Visit
visit_after v x = record { given = given_after v x.steps; target = v.target; store = x.store }

-- ---- k ticks
abbrev pub stride_of : Syringe → Visit → ℕ → ℕ → Stride
stride_of y v hourly k = stride_over v.store hourly (step_threshold y) k

unfoldable pub stride_dose : Syringe → Visit → ℕ → ℕ → ℕ
stride_dose y v hourly k = stride_steps v.store hourly (step_threshold y) k * step_volume y

-- the visit goes on, and the steps' volume is booked in the phase's direction
abbrev pub strode : Run → Ledger → Syringe → Direction → Visit → ℕ → ℕ → Strode
strode r l y way v hourly k =
    record {
      run = doing r (Visiting (visit_after v (stride_of y v hourly k)));
      ledger = book l way (stride_dose y v hourly k);
      steps = stride_steps v.store hourly (step_threshold y) k;
      ticks = k;
    }

abbrev pub none : Run → Ledger → Strode
none r l = record { run = r; ledger = l; steps = 0; ticks = 0 }

-- ---- all k where they stay short of the target and of the total's limit, else none
abbrev pub is_within : Ledger → Syringe → Direction → Visit → ℕ → ℕ → Bool
is_within l y way v hourly k =
    is_short v (stride_steps v.store hourly (step_threshold y) k) && leb (total_of l way + stride_dose y v hourly k) most_total

unfoldable pub leap_at : Run → Ledger → Syringe → Direction → Visit → ℕ → ℕ → Strode
leap_at r l y way v hourly k = if is_within l y way v hourly k then strode r l y way v hourly k else none r l

-- at the current rate; a sound visit has one
abbrev pub leap_by : Run → Ledger → Syringe → Direction → Visit → ℕ → Option Rate → Strode
leap_by r l y way v k None = none r l
leap_by r l y way v k (Some x) = leap_at r l y way v (hourly_rate x.thousandths x.unit) k

unfoldable pub leap_visit : Run → Ledger → Syringe → Direction → Visit → ℕ → Strode
leap_visit r l y way v k = leap_by r l y way v k r.rate
