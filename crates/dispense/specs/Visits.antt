-- A rate visit's working tick.   (01, Ticks and phases, RAT)
use Rattle.std.specs.Prelude.{ℕ, ◌+◌, ◌-◌, ◌*◌, ◌/◌, ◌%◌, ◌≤◌, ◌<◌, min, Bool, ◌&&◌, ltb, leb, eqb, if◌then◌else◌}
use Rattle.drive.specs.Syringe.{most_threshold}
use Rattle.dispense.specs.declared.visits.Visit.{Visit}
use Rattle.dispense.specs.declared.visits.Worked.{Worked}

-- what a working tick may rely on
pub record Working (v : Visit) (hourly threshold : ℕ) : Type 0 where
  pub store_below : v.store < threshold
  pub usable : hourly ≤ 4 * threshold
  pub within : v.given ≤ v.target
  pub bounded : threshold ≤ most_threshold

-- the hourly rate is added to the store; every threshold in it is a due step, and is taken off
unfoldable pub due_of : Visit → ℕ → ℕ → ℕ
due_of v hourly threshold = (v.store + hourly) / threshold

unfoldable pub store_of : Visit → ℕ → ℕ → ℕ
store_of v hourly threshold = (v.store + hourly) % threshold

-- the due steps up to the target; a continuous visit has no target
unfoldable pub steps_of : Visit → ℕ → ℕ → ℕ
steps_of v hourly threshold =
    if eqb v.target 0 then due_of v hourly threshold else min (due_of v hourly threshold) (v.target - v.given)

-- a continuous visit counts none
unfoldable pub given_of : Visit → ℕ → ℕ → ℕ
given_of v hourly threshold = if eqb v.target 0 then v.given else v.given + steps_of v hourly threshold

unfoldable pub worked_of : Visit → ℕ → ℕ → Visit
worked_of v hourly threshold = record { given = given_of v hourly threshold; target = v.target; store = store_of v hourly threshold }

-- a working tick: the visit after it, and the steps that it gives
abbrev pub work : Visit → ℕ → ℕ → Worked
work v hourly threshold = record { visit = worked_of v hourly threshold; steps = steps_of v hourly threshold }

-- reaching the target ends the visit
unfoldable pub is_done : Visit → Bool
is_done v = ltb 0 v.target && leb v.target v.given
