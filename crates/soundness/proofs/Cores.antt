-- A sound core with one part replaced that no other part's soundness depends on; the cores that power-up and *RESET make.
-- Assumes nothing.
use Prim.Native.Nat.{ℕ, ◌≤◌}
use mathlib.Core.Path.{◌≡◌, refl}
use mathlib.Core.Bool.{Bool, true}
use native.Mathlib.Omega.{arith}
use Rattle.std.specs.Prelude.{Option, Some, None}
use Rattle.decimal.specs.Writable.{is_writable}
use Rattle.drive.specs.Syringe.{is_diameter}
use Rattle.words.specs.declared.answers.Alarm.{Alarm}
use Rattle.words.specs.declared.answers.Alarm.TheVariants.{PowerUp}
use Rattle.words.specs.declared.phases.Phase.{Phase}
use Rattle.dispense.specs.Ledgers.{is_sound_ledger}
use Rattle.dispense.specs.declared.ledgers.Ledger.{Ledger}
use Rattle.program.specs.Cores.{with_run, with_ledger, with_output, with_pins, power_up_core, reset_core}
use Rattle.program.specs.Runs.{fresh_at}
use Rattle.program.specs.Sound.{Table, is_sound_work, is_sound_run, is_sound_core}
use Rattle.program.specs.declared.state.Core.{Core}
use Rattle.program.specs.declared.state.Mode.TheVariants.{Stopped}
use Rattle.program.specs.declared.state.Pins.{Pins}
use Rattle.program.specs.declared.state.Run.{Run}
use Rattle.program.proofs.Parts.{ledger_sound, run_sound, CoreClauses, core_clauses, core_sound}
use Rattle.tick.specs.Ticks.{Ready}
use Rattle.soundness.specs.Kept.{Kept, KeptRun}
use Rattle.soundness.proofs.Runs.{fresh_sound}

module _ (phases : ℕ) (look : ℕ → Phase) (s : Core) (kept : Kept phases look s) where
  abbrev here : Phase
  here = look s.run.place.current

  pub clauses : CoreClauses phases s here
  clauses = core_clauses phases s here kept

  -- ---- the core with another program under way
  pub run_kept : KeptRun phases look s.syringe s.run
  run_kept = (clauses.under_way_lem, clauses.work_sound)

  -- and another ledger, with any phase in hand
  pub given_sound :
      (r : Run) (l : Ledger) (p : Phase)
      → is_sound_run phases r ≡ true
      → is_sound_work s.syringe p r.rate r.place.work ≡ true
      → is_sound_ledger l ≡ true
      → is_sound_core phases (with_ledger (with_run s r) l) p ≡ true
  given_sound r l p a w e =
      core_sound phases (with_ledger (with_run s r) l) p
      (record {
        in_range = clauses.in_range;
        written = clauses.written;
        chosen_least = clauses.chosen_least;
        chosen_most = clauses.chosen_most;
        ledger_sound = e;
        under_way_lem = a;
        work_sound = w;
      })

  pub with_run_kept : (r : Run) → KeptRun phases look s.syringe r → Kept phases look (with_run s r)
  with_run_kept r k = given_sound r s.ledger (look r.place.current) k.0 k.1 clauses.ledger_sound

  -- what the code of a tick may rely on, which has the numbers of phases in bytes
  pub ready : phases ≤ 99 → Table phases look → Ready s here
  ready few table = record { phases = phases; few = few; core = kept; phase = table.every s.run.place.current }

-- ---- no test mentions a pin or the output
pub levels_kept :
    (phases : ℕ) (look : ℕ → Phase) (s : Core) (pins : Pins) (level : Bool)
    → Kept phases look s
    → Kept phases look (with_output (with_pins s pins) level)
unfolding is_sound_core
levels_kept phases look s pins level k = k

-- ---- power-up and *RESET
new_sound :
    (phases : ℕ)
    → 1 ≤ phases
    → (alarm : Option Alarm) (pins : Pins) (p : Phase)
    → is_sound_core phases (with_pins (with_run power_up_core (fresh_at 1 (Stopped alarm))) pins) p ≡ true
unfolding is_diameter is_writable
new_sound phases h alarm pins p =
    core_sound phases _ p
    (record {
      in_range = refl;
      written = refl;
      chosen_least = omega arith;
      chosen_most = h;
      ledger_sound = ledger_sound _ (omega arith) (omega arith);
      under_way_lem = run_sound phases _ (fresh_sound phases 1 (Stopped alarm) (omega arith) (omega arith));
      work_sound = refl;
    })

pub power_up_sound : (phases : ℕ) → 1 ≤ phases → (p : Phase) → is_sound_core phases power_up_core p ≡ true
power_up_sound phases h p = new_sound phases h (Some PowerUp) power_up_core.pins p

pub reset_sound : (phases : ℕ) → 1 ≤ phases → (s : Core) (p : Phase) → is_sound_core phases (reset_core s) p ≡ true
reset_sound phases h s p = new_sound phases h None s.pins p
