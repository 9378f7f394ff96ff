-- Entering a phase, function by function: what it makes of the program under way.   (01, Ticks and phases)
use Rattle.std.specs.Prelude.{ℕ, ◌≤◌, Bool, ◌&&◌, ltb, eqb, if◌then◌else◌, Some, None, Option}
use Rattle.drive.specs.Syringe.{step_target}
use Rattle.drive.specs.declared.syringe.Syringe.{Syringe}
use Rattle.words.specs.Functions.{pause_ticks}
use Rattle.words.specs.declared.answers.Alarm.TheVariants.{Program}
use Rattle.words.specs.declared.functions.Function.{Function}
use Rattle.words.specs.declared.functions.Function.TheVariants as f
use Rattle.words.specs.declared.phases.Phase.{Phase}
use Rattle.loops.specs.Loops as loops
use Rattle.loops.specs.Loops.{Turning}
use Rattle.loops.specs.declared.Loops.{Loops}
use Rattle.loops.specs.declared.Turn.{Turn}
use Rattle.dispense.specs.Rates.{increase, decrease, is_usable_rate}
use Rattle.dispense.specs.declared.rates.Rate.{Rate}
use Rattle.program.specs.Runs.{with_rate, with_loops, with_trap, stop, raise, doing, go_to, go_on, fire}
use Rattle.program.specs.declared.state.Pins.{Pins}
use Rattle.program.specs.declared.state.Run.{Run}
use Rattle.program.specs.declared.state.Work.TheVariants.{Visiting, Pausing, Waiting}

-- time store 0, the step target from the volume; a volume above 0 with target 0 ends at entry
unfoldable pub begin_visit : Run → Syringe → Phase → Run
begin_visit r y p =
    if ltb 0 p.volume && eqb (step_target y p.volume) 0
    then go_on r
    else doing r (Visiting (record { given = 0; target = step_target y p.volume; store = 0 }))

-- no rate, or one that is not usable, is alarm E
unfoldable pub enter_rate : Run → Syringe → Phase → Option Rate → Run
enter_rate r y p rate = if is_usable_rate y rate then begin_visit (with_rate r rate) y p else raise r Program

-- PAS: 0 ticks is the trigger wait; both drop the current rate
unfoldable pub enter_pause : Run → ℕ → Run
enter_pause r ticks = doing (with_rate r None) (if eqb ticks 0 then Waiting else Pausing ticks)

-- LPS: with three still open alarm E, else one is opened
abbrev pub begun : Run → Option Loops → Run
begun r None = raise r Program
begun r (Some l) = go_on (with_loops r l)

unfoldable pub start_loop : Run → Run
start_loop r = begun r (loops.lps r.loops r.place.current)

abbrev pub turned : Run → Turn → Run
turned r t = go_to (with_loops r t.loops) t.next

-- LOP n
unfoldable pub pass_loop : Run → ℕ → Run
pass_loop r n = turned r (loops.lop r.loops n r.place.current)

-- LPE
unfoldable pub end_loop : Run → Run
end_loop r = turned r (loops.lpe r.loops)

-- IF n: jump if pin 6 is low
unfoldable pub jump_if : Run → Bool → ℕ → Run
jump_if r six n = if six then go_on r else go_to r n

-- EVN n: if pin 4 is low, fire now, else set the trap
unfoldable pub arm_trap : Run → Bool → ℕ → Run
arm_trap r four n = if four then go_on (with_trap r (Some n)) else fire r n

-- EVR
unfoldable pub clear_trap : Run → Run
clear_trap r = go_on (with_trap r None)

-- each function; what BEP and OUT do beside is the tick's
abbrev pub enter_by : Run → Pins → Syringe → Phase → Function → Run
enter_by r pins y p f.Rat = enter_rate r y p (Some (record { unit = p.unit; thousandths = p.rate }))
enter_by r pins y p f.Inc = enter_rate r y p (increase r.rate p.rate)
enter_by r pins y p f.Dec = enter_rate r y p (decrease r.rate p.rate)
enter_by r pins y p f.Stp = stop r
enter_by r pins y p (f.Jmp n) = go_to r n
enter_by r pins y p (f.Lop n) = pass_loop r n
enter_by r pins y p f.Lps = start_loop r
enter_by r pins y p f.Lpe = end_loop r
enter_by r pins y p (f.Pas n) = enter_pause r (pause_ticks (f.Pas n))
enter_by r pins y p (f.Tenths n) = enter_pause r (pause_ticks (f.Tenths n))
enter_by r pins y p (f.If n) = jump_if r pins.six n
enter_by r pins y p (f.Evn n) = arm_trap r pins.four n
enter_by r pins y p f.Evr = clear_trap r
enter_by r pins y p f.Bep = go_on r
enter_by r pins y p (f.Out level) = go_on r

unfoldable pub enter : Run → Pins → Syringe → Phase → Run
enter r pins y p = enter_by r pins y p p.function

-- ---- what the code of entering may rely on
pub record Enterable (r : Run) : Type 0 where
  pub current : r.place.current ≤ 100
  pub turning : Turning r.loops r.place.current
