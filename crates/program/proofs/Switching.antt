-- What a falling edge of pin 2 or 4 does, by the alarm, the mode and the trap that it finds.
-- Assumes nothing.
use Rattle.std.specs.Prelude.{Result, if◌then◌else◌, ℕ, Option, Some, None, is_some}
use Rattle.std.specs.Result.{result_unwrap_or}
use mathlib.Core.Path.{◌≡◌, refl, sym, ap, ◌∙◌}
use mathlib.Core.Bool.{Bool, true, false}
use Rattle.base.proofs.Choices.{false_true}
use Rattle.words.specs.declared.answers.Declined.{Declined}
use Rattle.words.specs.declared.answers.Alarm.{Alarm}
use Rattle.program.specs.Control.{run_on, stop_now}
use Rattle.program.specs.Edges.{foot_switch, unless_alarm, spring, spring_in, spring_by}
use Rattle.program.specs.Runs.{is_running, is_operating, pending}
use Rattle.program.specs.declared.state.Mode.{Mode}
use Rattle.program.specs.declared.state.Mode.TheVariants.{Stopped, Paused, Running}
use Rattle.program.specs.declared.state.Run.{Run}
use Rattle.program.proofs.Modes.{running}

-- an alarm is pending, or none is
module _ (r x : Run) (a : Option Alarm) (p : a ≡ pending r) where
  pub foot_alarmed : is_some a ≡ true → r ≡ foot_switch r
  unfolding foot_switch
  foot_alarmed e = by a e ∙ ap (unless_alarm r) p
    where
      by : (k : Option Alarm) → is_some k ≡ true → r ≡ unless_alarm r k
      by (Some alarm) h = refl
      by None h = false_true h

  pub foot_by : is_some a ≡ false → x ≡ unless_alarm r None → x ≡ foot_switch r
  unfolding foot_switch
  foot_by e q = by a e ∙ ap (unless_alarm r) p
    where
      by : (k : Option Alarm) → is_some k ≡ false → x ≡ unless_alarm r k
      by (Some alarm) h = false_true (sym h)
      by None h = q

-- ---- what does not apply leaves the program as it is
module _ (r x : Run) (s : Result Run Declined) (t : Bool) (p : x ≡ result_unwrap_or s r) where
  pub foot_stops : t ≡ true → s ≡ stop_now r → x ≡ result_unwrap_or (if t then stop_now r else run_on r) r
  foot_stops e q = p ∙ rw (q, e)

  pub foot_runs : t ≡ false → s ≡ run_on r → x ≡ result_unwrap_or (if t then stop_now r else run_on r) r
  foot_runs e q = p ∙ rw (q, e)

pub ruleset switching = (foot_alarmed, foot_by, foot_stops, foot_runs)

pub spring_on : (r x : Run) (t : Option ℕ) → is_operating r ≡ true → r.trap ≡ t → x ≡ spring_by r t → x ≡ spring r
unfolding spring
spring_on r x t h k q = q ∙ ap (spring_by r) (sym k) ∙ ap (spring_in r) (sym (running r.mode h))

-- no trap is set, or the program does not run
module _ (r : Run) where
  pub spring_none : r.trap ≡ None → r ≡ spring r
  unfolding spring
  spring_none e = by r.mode
    where
      by : (m : Mode) → r ≡ spring_in r m
      by (Stopped alarm) = refl
      by Paused = refl
      by Running = ap (spring_by r) (sym e)

  pub spring_off : is_operating r ≡ false → r ≡ spring r
  unfolding spring
  spring_off h = by r.mode h
    where
      by : (m : Mode) → is_running m ≡ false → r ≡ spring_in r m
      by (Stopped alarm) e = refl
      by Paused e = refl
      by Running e = false_true (sym e)
