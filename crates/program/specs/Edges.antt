-- One level of a pin.   (01, Ticks and phases: "Pin 4 falling ..", "Pin 2 falling ..")
use Rattle.std.specs.Prelude.{Bool, ◌&&◌, not, if◌then◌else◌, ℕ, Option, Some, None}
use Rattle.std.specs.Result.{result_unwrap_or}
use Rattle.words.specs.declared.answers.Alarm.{Alarm}
use Rattle.program.specs.Control.{run_on, stop_now}
use Rattle.program.specs.Cores.{with_pins, with_run}
use Rattle.program.specs.Runs.{fire, is_moving, pending}
use Rattle.program.specs.declared.state.Core.{Core}
use Rattle.program.specs.declared.state.Mode.{Mode}
use Rattle.program.specs.declared.state.Mode.TheVariants.{Stopped, Paused, Running}
use Rattle.program.specs.declared.state.Run.{Run}

-- high before and low now; a level equal to the kept one is no edge
abbrev pub falls : Bool → Bool → Bool
falls before level = before && not level

abbrev pub with_two : Core → Bool → Core
with_two s x = with_pins s (record { two = x; four = s.pins.four; six = s.pins.six })

abbrev pub with_four : Core → Bool → Core
with_four s x = with_pins s (record { two = s.pins.two; four = x; six = s.pins.six })

abbrev pub with_six : Core → Bool → Core
with_six s x = with_pins s (record { two = s.pins.two; four = s.pins.four; six = x })

-- ---- pin 2 acts as RUN, or STP in I, W, T, and what does not apply leaves the program as it is; with an alarm pending only the level is kept
abbrev pub unless_alarm : Run → Option Alarm → Run
unless_alarm r (Some alarm) = r
unless_alarm r None = result_unwrap_or (if is_moving r then stop_now r else run_on r) r

unfoldable pub foot_switch : Run → Run
foot_switch r = unless_alarm r (pending r)

unfoldable pub pin_two : Core → Bool → Core
pin_two s level = if falls s.pins.two level then with_run (with_two s level) (foot_switch s.run) else with_two s level

-- ---- pin 4 fires a set trap while operating
abbrev pub spring_by : Run → Option ℕ → Run
spring_by r None = r
spring_by r (Some n) = fire r n

abbrev pub spring_in : Run → Mode → Run
spring_in r (Stopped alarm) = r
spring_in r Paused = r
spring_in r Running = spring_by r r.trap

unfoldable pub spring : Run → Run
spring r = spring_in r r.mode

unfoldable pub pin_four : Core → Bool → Core
pin_four s level = if falls s.pins.four level then with_run (with_four s level) (spring s.run) else with_four s level

-- ---- pin 6 is only read
unfoldable pub pin_six : Core → Bool → Core
pin_six s level = with_six s level
