-- RUN, STP and the status, by the mode and the work that they find.
-- Assumes nothing.
use Rattle.std.specs.Prelude.{Result, Ok}
use mathlib.Core.Path.{◌≡◌, refl, sym, ap, ◌∙◌}
use mathlib.Core.Bool.{true}
use Rattle.base.proofs.Choices.{false_true}
use Rattle.drive.specs.declared.directions.Direction.{Direction}
use Rattle.words.specs.declared.answers.Declined.{Declined}
use Rattle.words.specs.declared.answers.Status.{Status}
use Rattle.program.specs.Control.{run_by, run_on, stop_by, stop_now}
use Rattle.program.specs.Runs.{with_mode, is_running, calm, clear_alarm}
use Rattle.program.specs.Sound.{is_sound_mode}
use Rattle.program.specs.Statuses.{status_by, status_by_work, status_run}
use Rattle.program.specs.declared.state.Mode.{Mode}
use Rattle.program.specs.declared.state.Mode.TheVariants.{Stopped, Paused, Running}
use Rattle.program.specs.declared.state.Run.{Run}
use Rattle.program.specs.declared.state.Work.{Work}

-- the program under way is itself the result of a call
pub ok_after : (r u : Run) → u ≡ r → ◌≡◌ {A = Result Run Declined} (Ok u) (Ok r)
ok_after r u q = ap Ok q

module _ (r : Run) (m : Mode) (e : r.mode ≡ m) where
  module _ (x : Result Run Declined) where
    pub runs_by : x ≡ run_by r m → x ≡ run_on r
    unfolding run_on
    runs_by q = q ∙ ap (run_by r) (sym e)

    pub stops_by : x ≡ stop_by r m → x ≡ stop_now r
    unfolding stop_now
    stops_by q = q ∙ ap (stop_by r) (sym e)

  pub status_by_lem : (way : Direction) (x : Status) → x ≡ status_by way r.place.work m → x ≡ status_run r way
  unfolding status_run
  status_by_lem way x q = q ∙ ap (status_by way r.place.work) (sym e)

pub status_on :
    (r : Run) (way : Direction) (x : Status) (w : Work)
    → r.mode ≡ Running
    → r.place.work ≡ w
    → x ≡ status_by_work way w
    → x ≡ status_run r way
status_on r way x w e k q = status_by_lem r Running e way x (q ∙ ap (status_by_work way) (sym k))

pub running : (m : Mode) → is_running m ≡ true → m ≡ Running
running (Stopped alarm) h = false_true h
running Paused h = false_true h
running Running h = refl

pub ruleset modes = (ok_after, runs_by, stops_by)

pub ruleset statuses = (status_by_lem, status_on)
