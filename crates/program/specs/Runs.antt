-- The program under way: its parts replaced, and what starting, stopping, pausing, moving on and firing make of it.
-- (01, Ticks and phases: "Starting, stopping and alarms drop ..", "Pausing drops nothing"; Commands, STP and RUN)
use Rattle.std.specs.Prelude.{ℕ, ◌+◌, Bool, true, false, ◌&&◌, not, Option, Some, None}
use Rattle.words.specs.declared.answers.Alarm.{Alarm}
use Rattle.loops.specs.Loops as loops
use Rattle.loops.specs.declared.Loops.{Loops}
use Rattle.dispense.specs.declared.rates.Rate.{Rate}
use Rattle.program.specs.declared.state.Mode.{Mode}
use Rattle.program.specs.declared.state.Mode.TheVariants.{Stopped, Paused, Running}
use Rattle.program.specs.declared.state.Place.{Place}
use Rattle.program.specs.declared.state.Run.{Run}
use Rattle.program.specs.declared.state.Work.{Work}
use Rattle.program.specs.declared.state.Work.TheVariants.{Entering, Visiting, Pausing, Waiting}

-- ---- one part replaced
abbrev pub with_place : Run → Place → Run
with_place r x = record { place = x; rate = r.rate; loops = r.loops; mode = r.mode; trap = r.trap }

abbrev pub with_rate : Run → Option Rate → Run
with_rate r x = record { place = r.place; rate = x; loops = r.loops; mode = r.mode; trap = r.trap }

abbrev pub with_loops : Run → Loops → Run
with_loops r x = record { place = r.place; rate = r.rate; loops = x; mode = r.mode; trap = r.trap }

abbrev pub with_mode : Run → Mode → Run
with_mode r x = record { place = r.place; rate = r.rate; loops = r.loops; mode = x; trap = r.trap }

abbrev pub with_trap : Run → Option ℕ → Run
with_trap r x = record { place = r.place; rate = r.rate; loops = r.loops; mode = r.mode; trap = x }

-- ---- the whole replaced: no visit, pause or wait, no trap, loop or current rate, at a phase that is not entered
abbrev pub fresh_at : ℕ → Mode → Run
fresh_at n mode =
    record { place = record { work = Entering; current = n }; rate = None; loops = loops.none; mode = mode; trap = None }

abbrev pub start : ℕ → Run
start n = fresh_at n Running

-- the current phase of a stopped pump stays what it was
abbrev pub stop : Run → Run
stop r = fresh_at r.place.current (Stopped None)

-- an alarm stops the pump
abbrev pub raise : Run → Alarm → Run
raise r alarm = fresh_at r.place.current (Stopped (Some alarm))

-- ---- pausing drops nothing, and a resume goes on from there
abbrev pub pause : Run → Run
pause r = with_mode r Paused

abbrev pub resume : Run → Run
resume r = with_mode r Running

-- ---- where the program stands: the current phase does something; phase n is the current one, not entered; the next one is
abbrev pub doing : Run → Work → Run
doing r work = with_place r (record { work = work; current = r.place.current })

abbrev pub go_to : Run → ℕ → Run
go_to r n = with_place r (record { work = Entering; current = n })

abbrev pub go_on : Run → Run
go_on r = go_to r (r.place.current + 1)

-- firing clears the trap, closes all loops, ends what is under way, and makes n the current phase, not entered; the rate stays
unfoldable pub fire : Run → ℕ → Run
fire r n = go_to (with_loops (with_trap r None) loops.none) n

-- ---- what it is doing
abbrev pub is_entering : Work → Bool
is_entering Entering = true
is_entering (Visiting v) = false
is_entering (Pausing left) = false
is_entering Waiting = false

abbrev pub is_visiting : Work → Bool
is_visiting Entering = false
is_visiting (Visiting v) = true
is_visiting (Pausing left) = false
is_visiting Waiting = false

abbrev pub is_waiting : Work → Bool
is_waiting Entering = false
is_waiting (Visiting v) = false
is_waiting (Pausing left) = false
is_waiting Waiting = true

abbrev pub is_running : Mode → Bool
is_running (Stopped alarm) = false
is_running Paused = false
is_running Running = true

-- operating means I, W, T or U: the program runs
abbrev pub is_operating : Run → Bool
is_operating r = is_running r.mode

-- I, W and T: all of these but the trigger wait
abbrev pub is_moving : Run → Bool
is_moving r = is_operating r && not (is_waiting r.place.work)

-- ---- a pending alarm, and the same program with none
abbrev pub pending_by : Mode → Option Alarm
pending_by (Stopped alarm) = alarm
pending_by Paused = None
pending_by Running = None

abbrev pub pending : Run → Option Alarm
pending r = pending_by r.mode

abbrev pub calm : Mode → Mode
calm (Stopped alarm) = Stopped None
calm Paused = Paused
calm Running = Running

abbrev pub clear_alarm : Run → Run
clear_alarm r = with_mode r (calm r.mode)
