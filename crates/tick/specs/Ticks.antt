-- One tick: it enters the current phase or works the entered one, and only I, W and T move.   (01, Ticks and phases)
use Rattle.std.specs.Prelude.{ℕ, ◌≤◌, ◌≡◌, Bool, true, false, ltb, if◌then◌else◌}
use Rattle.drive.specs.declared.directions.Direction.{Direction}
use Rattle.drive.specs.declared.directions.Direction.TheVariants.{Infuse, Withdraw}
use Rattle.words.specs.Functions.{is_beep, is_out, datum}
use Rattle.words.specs.Phases.{is_sound_phase}
use Rattle.words.specs.declared.functions.Function.{Function}
use Rattle.words.specs.declared.phases.Phase.{Phase}
use Rattle.program.specs.Cores.{with_run, with_ledger, with_output}
use Rattle.program.specs.Sound.{is_sound_core}
use Rattle.program.specs.declared.state.Core.{Core}
use Rattle.program.specs.declared.state.Mode.{Mode}
use Rattle.program.specs.declared.state.Mode.TheVariants.{Stopped, Paused, Running}
use Rattle.program.specs.declared.state.Work.{Work}
use Rattle.program.specs.declared.state.Work.TheVariants.{Entering, Visiting, Pausing, Waiting}
use Rattle.tick.specs.Entering.{enter}
use Rattle.tick.specs.Working.{work_visit, work_pause}
use Rattle.tick.specs.declared.Moved.{Moved}
use Rattle.tick.specs.declared.working.Given.{Given}

-- no step, no beep
abbrev pub silent : Core → Moved
silent s = record { core = s; infused = 0; withdrawn = 0; beep = false }

-- OUT sets the output, 0 low and 1 high, and nothing else does
abbrev pub output_after : Function → Bool → Bool
output_after g output = if is_out g then ltb 0 (datum g) else output

-- entering gives no step; BEP beeps once, and nothing else does
unfoldable pub entered : Core → Phase → Moved
entered s p =
    record {
      core = with_output (with_run s (enter s.run s.pins s.syringe p)) (output_after p.function s.output);
      infused = 0;
      withdrawn = 0;
      beep = is_beep p.function;
    }

-- a working tick's steps are reported in the phase's direction
abbrev pub steps : Core → Direction → ℕ → Moved
steps s Infuse n = record { core = s; infused = n; withdrawn = 0; beep = false }
steps s Withdraw n = record { core = s; infused = 0; withdrawn = n; beep = false }

abbrev pub worked : Core → Direction → Given → Moved
worked s way g = steps (with_ledger (with_run s g.run) g.ledger) way g.steps

-- a running program: enter, or work; a trigger wait stays
abbrev pub work_by : Core → Phase → Work → Moved
work_by s p Entering = entered s p
work_by s p (Visiting v) = worked s p.direction (work_visit s.run s.ledger s.syringe p.direction v)
work_by s p (Pausing left) = silent (with_run s (work_pause s.run left))
work_by s p Waiting = silent s

abbrev pub tick_by : Core → Phase → Mode → Moved
tick_by s p (Stopped alarm) = silent s
tick_by s p Paused = silent s
tick_by s p Running = work_by s p s.run.place.work

unfoldable pub tick : Core → Phase → Moved
tick s p = tick_by s p s.run.mode

-- ---- what the code of a tick may rely on: it stands in a sound pump of some number of phases
pub record Ready (s : Core) (here : Phase) : Type 0 where
  pub phases : ℕ
  pub few : phases ≤ 99
  pub core : is_sound_core phases s here ≡ true
  pub phase : is_sound_phase phases here ≡ true
