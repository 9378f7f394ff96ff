-- When the core is sound, clause by clause, for a number of phases and with the current phase in hand. By the
-- types of the state hold: at most one of visit, timed pause and trigger wait is under way; the store is 0 outside a visit; an alarm is
-- pending only in a stopped pump.   (01, Calls)
use Rattle.std.specs.Prelude.{ℕ, ◌+◌, ◌≡◌, Bool, true, ◌&&◌, ◌||◌, List, [], ◌∷◌, ltb, leb, eqb, Option, Some, None, is_none, false}
use Rattle.base.specs.All.{all}
use Rattle.decimal.specs.Writable.{is_writable}
use Rattle.drive.specs.Rates.{most_rate}
use Rattle.drive.specs.Syringe.{is_diameter, step_threshold, step_target}
use Rattle.drive.specs.declared.syringe.Syringe.{Syringe}
use Rattle.words.specs.Functions.{is_phase, is_rate_phase, pause_ticks, is_wait}
use Rattle.words.specs.Phases.{is_sound_phase}
use Rattle.words.specs.declared.functions.Function.TheVariants as f
use Rattle.words.specs.declared.phases.Phase.{Phase}
use Rattle.loops.specs.Loops.{is_sound_loops}
use Rattle.dispense.specs.Ledgers.{is_sound_ledger}
use Rattle.dispense.specs.Rates.{thousandths, is_usable_rate}
use Rattle.dispense.specs.declared.rates.Rate.{Rate}
use Rattle.dispense.specs.declared.visits.Visit.{Visit}
use Rattle.program.specs.Runs.{is_entering}
use Rattle.program.specs.declared.state.Core.{Core}
use Rattle.program.specs.declared.state.Mode.{Mode}
use Rattle.program.specs.declared.state.Mode.TheVariants.{Stopped, Paused, Running}
use Rattle.program.specs.declared.state.Run.{Run}
use Rattle.program.specs.declared.state.Work.{Work}
use Rattle.program.specs.declared.state.Work.TheVariants.{Entering, Visiting, Pausing, Waiting}

-- ---- every field is in its range
-- a trap jumps to a phase
abbrev pub is_sound_trap : ℕ → Option ℕ → Bool
is_sound_trap phases None = true
is_sound_trap phases (Some n) = is_phase phases n

-- ---- a visit: the store below the threshold, the target that phase, volume and diameter give, the steps given below it (a continuous
-- visit has no target and counts none), a usable rate, in a RAT, INC or DEC phase
abbrev pub visit_tests : Syringe → Phase → Option Rate → Visit → List Bool
visit_tests y p rate v =
    ltb v.store (step_threshold y)
    ∷ eqb v.target (step_target y p.volume)
    ∷ (ltb v.given v.target || eqb p.volume 0 && eqb v.given 0)
    ∷ is_usable_rate y rate
    ∷ is_rate_phase p.function
    ∷ []

unfoldable pub is_sound_visit : Syringe → Phase → Option Rate → Visit → Bool
is_sound_visit y p rate v = all (visit_tests y p rate v)

-- ---- a timed pause stands in a PAS phase above 0 with 1 to its full number of ticks left; a trigger wait in PAS 0
abbrev pub is_sound_work : Syringe → Phase → Option Rate → Work → Bool
is_sound_work y p rate Entering = true
is_sound_work y p rate (Visiting v) = is_sound_visit y p rate v
is_sound_work y p rate (Pausing left) = leb 1 left && leb left (pause_ticks p.function)
is_sound_work y p rate Waiting = is_wait p.function

-- ---- a stopped pump has none of these three and no trap, loop or current rate
abbrev pub idle_tests : Run → List Bool
idle_tests r = is_entering r.place.work ∷ is_none r.trap ∷ eqb r.loops.count 0 ∷ is_none r.rate ∷ []

abbrev pub is_sound_mode : Run → Mode → Bool
is_sound_mode r (Stopped alarm) = all (idle_tests r)
is_sound_mode r Paused = true
is_sound_mode r Running = true

-- ---- the program: the current phase is at most one past the last; the current rate need not be writable
abbrev pub run_tests : ℕ → Run → List Bool
run_tests phases r =
    leb 1 r.place.current
    ∷ leb r.place.current (phases + 1)
    ∷ leb (thousandths r.rate) most_rate
    ∷ is_sound_trap phases r.trap
    ∷ is_sound_loops phases r.loops
    ∷ is_sound_mode r r.mode
    ∷ []

unfoldable pub is_sound_run : ℕ → Run → Bool
is_sound_run phases r = all (run_tests phases r)

-- ---- the whole
abbrev pub core_tests : ℕ → Core → Phase → List Bool
core_tests phases s here =
    is_diameter s.syringe.diameter
    ∷ is_writable s.syringe.diameter
    ∷ leb 1 s.chosen
    ∷ leb s.chosen phases
    ∷ is_sound_ledger s.ledger
    ∷ is_sound_run phases s.run
    ∷ is_sound_work s.syringe here s.run.rate s.run.place.work
    ∷ []

unfoldable pub is_sound_core : ℕ → Core → Phase → Bool
is_sound_core phases s here = all (core_tests phases s here)

-- ---- a table in which every phase is sound, and one that stops follows the last
pub record Table (phases : ℕ) (look : ℕ → Phase) : Type 0 where
  pub every : (n : ℕ) → is_sound_phase phases (look n) ≡ true
  pub past : (look (phases + 1)).function ≡ f.Stp
