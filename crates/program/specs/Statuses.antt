-- The status, and the phase that a command concerns.   (01, Line and answer: the status; Commands)
use Rattle.std.specs.Prelude.{ℕ, if◌then◌else◌}
use Rattle.drive.specs.declared.directions.Direction.{Direction}
use Rattle.drive.specs.declared.directions.Direction.TheVariants.{Infuse, Withdraw}
use Rattle.words.specs.declared.answers.Status.{Status}
use Rattle.words.specs.declared.answers.Status.TheVariants as status
use Rattle.program.specs.Runs.{is_operating}
use Rattle.program.specs.declared.state.Core.{Core}
use Rattle.program.specs.declared.state.Mode.{Mode}
use Rattle.program.specs.declared.state.Mode.TheVariants.{Stopped, Paused, Running}
use Rattle.program.specs.declared.state.Run.{Run}
use Rattle.program.specs.declared.state.Work.{Work}
use Rattle.program.specs.declared.state.Work.TheVariants.{Entering, Visiting, Pausing, Waiting}

abbrev pub pumping : Direction → Status
pumping Infuse = status.Infusing
pumping Withdraw = status.Withdrawing

abbrev pub status_by_work : Direction → Work → Status
status_by_work way Entering = pumping way
status_by_work way (Visiting v) = pumping way
status_by_work way (Pausing left) = status.TimedPause
status_by_work way Waiting = status.TriggerWait

abbrev pub status_by : Direction → Work → Mode → Status
status_by way work (Stopped alarm) = status.Stopped
status_by way work Paused = status.Paused
status_by way work Running = status_by_work way work

-- S stopped, P paused, T timed pause, U trigger wait, else I or W by the direction of the current phase, entered or not
unfoldable pub status_run : Run → Direction → Status
status_run r way = status_by way r.place.work r.mode

-- the number of the phase that a command concerns: the running one while operating, else the one chosen by PHN
abbrev pub in_hand : Core → ℕ
in_hand s = if is_operating s.run then s.run.place.current else s.chosen
