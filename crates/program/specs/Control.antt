-- RUN and STP: what they make of the program under way, and whether they apply.   (01, Commands)
use Rattle.std.specs.Prelude.{ℕ, Result, Ok, Err, if◌then◌else◌}
use Rattle.words.specs.Functions.{is_phase}
use Rattle.words.specs.declared.answers.Declined.{Declined}
use Rattle.words.specs.declared.answers.Declined.TheVariants.{NotApplicable, OutOfRange}
use Rattle.program.specs.Runs.{start, stop, pause, resume, go_on, is_operating, is_moving}
use Rattle.program.specs.declared.state.Mode.{Mode}
use Rattle.program.specs.declared.state.Mode.TheVariants.{Stopped, Paused, Running}
use Rattle.program.specs.declared.state.Run.{Run}

-- ---- the program under way after it, or why it is declined
-- RUN: stopped, start at 1; paused, resume; U, the next phase; else it does not apply
abbrev pub run_by : Run → Mode → Result Run Declined
run_by r (Stopped alarm) = Ok (start 1)
run_by r Paused = Ok (resume r)
run_by r Running = if is_moving r then Err NotApplicable else Ok (go_on r)

unfoldable pub run_on : Run → Result Run Declined
run_on r = run_by r r.mode

-- RUN n: stopped or paused, start afresh at n
unfoldable pub run_from : Run → ℕ → ℕ → Result Run Declined
run_from r n phases =
    if is_operating r
    then Err NotApplicable
    else if is_phase phases n
    then Ok (start n)
    else Err OutOfRange

-- STP: I, W, T paused; U or paused stopped; stopped does not apply
abbrev pub stop_by : Run → Mode → Result Run Declined
stop_by r (Stopped alarm) = Err NotApplicable
stop_by r Paused = Ok (stop r)
stop_by r Running = if is_moving r then Ok (pause r) else Ok (stop r)

unfoldable pub stop_now : Run → Result Run Declined
stop_now r = stop_by r r.mode
