-- What an accepted setting leaves: the phase in hand with one thing set, what is done in it, and a program that is not operating.
-- Assumes nothing.
use Rattle.std.specs.Prelude.{Option}
use Prim.Native.Nat.{ℕ}
use mathlib.Core.Path.{◌≡◌, refl, sym, ap}
use mathlib.Core.Bool.{true, false}
use Rattle.std.specs.Prelude.{None}
use Rattle.base.proofs.Choices.{false_true}
use Rattle.decimal.specs.Writable.{is_writable}
use Rattle.drive.specs.Syringe.{is_diameter}
use Rattle.drive.specs.declared.rates.RateUnit.{RateUnit}
use Rattle.drive.specs.declared.directions.Direction.{Direction}
use Rattle.drive.specs.declared.syringe.Syringe.{Syringe}
use Rattle.words.specs.Functions.{fits}
use Rattle.words.specs.Phases.{is_sound_phase}
use Rattle.words.specs.declared.functions.Function.{Function}
use Rattle.words.specs.declared.phases.Phase.{Phase}
use Rattle.dispense.specs.Rates.{is_usable_rate}
use Rattle.dispense.specs.declared.rates.Rate.{Rate}
use Rattle.program.specs.Cores.{with_run, with_syringe}
use Rattle.program.specs.Runs.{is_running, is_operating}
use Rattle.program.specs.Sound.{is_sound_mode, is_sound_work, is_sound_run, is_sound_core}
use Rattle.program.specs.declared.state.Core.{Core}
use Rattle.program.specs.declared.state.Mode.{Mode}
use Rattle.program.specs.declared.state.Mode.TheVariants.{Stopped, Paused, Running}
use Rattle.program.specs.declared.state.Run.{Run}
use Rattle.program.specs.declared.state.Work.{Work}
use Rattle.program.specs.declared.state.Work.TheVariants.{Entering, Visiting, Pausing, Waiting}
use Rattle.program.proofs.Parts.{PhaseClauses, phase_clauses, phase_sound, visit_clauses, visit_sound, idle_clauses}
use Rattle.program.proofs.Parts.{RunClauses, run_clauses, run_sound, CoreClauses, core_sound}
use Rattle.command.specs.Obeying.{settle_by, settle}
use Rattle.command.specs.Phases.{with_stored, with_volume, with_direction, with_function}
use Rattle.soundness.proofs.Runs.{fresh_sound}

-- ---- a sound phase with one thing set
module _ (phases : ℕ) (p : Phase) (sound : is_sound_phase phases p ≡ true) where
  c : PhaseClauses phases p
  c = phase_clauses phases p sound

  pub stored_sound : (x : ℕ) (unit : RateUnit) → is_writable x ≡ true → is_sound_phase phases (with_stored p x unit) ≡ true
  stored_sound x unit h =
      phase_sound phases _ (record { rate_written = h; volume_written = c.volume_written; datum_fits = c.datum_fits })

  pub volume_sound : (x : ℕ) → is_writable x ≡ true → is_sound_phase phases (with_volume p x) ≡ true
  volume_sound x h = phase_sound phases _ (record { rate_written = c.rate_written; volume_written = h; datum_fits = c.datum_fits })

  pub direction_sound : (way : Direction) → is_sound_phase phases (with_direction p way) ≡ true
  unfolding is_sound_phase
  direction_sound way = sound

  pub function_sound : (g : Function) → fits phases g ≡ true → is_sound_phase phases (with_function p g) ≡ true
  function_sound g h =
      phase_sound phases _ (record { rate_written = c.rate_written; volume_written = c.volume_written; datum_fits = h })

-- ---- what is done in a phase stays sound in another direction, and at another rate that is usable if the one before was
pub work_stays :
    (d : Syringe) (p : Phase) (way : Direction) (rate next : Option Rate) (w : Work)
    → (is_usable_rate d rate ≡ true → is_usable_rate d next ≡ true)
    → is_sound_work d p rate w ≡ true
    → is_sound_work d (with_direction p way) next w ≡ true
work_stays d p way rate next Entering u e = e
work_stays d p way rate next (Visiting v) u e =
    let c = visit_clauses d p rate v e in
    visit_sound d (with_direction p way) next v
    (record {
      store_below = c.store_below;
      aimed = c.aimed;
      fewer_given = c.fewer_given;
      rate_usable = u c.rate_usable;
      in_rate_phase = c.in_rate_phase;
    })
work_stays d p way rate next (Pausing left) u e = e
work_stays d p way rate next Waiting u e = e

-- ---- a program that is not operating, and is stopped if it was paused, does nothing
settled :
    (phases : ℕ) (r : Run) (m : Mode)
    → RunClauses phases r
    → is_sound_mode r m ≡ true
    → is_running m ≡ false
    → (is_sound_run phases (settle_by r m) ≡ true) × ((settle_by r m).place.work ≡ Entering)
settled phases r (Stopped alarm) u h e = (run_sound phases r u, (idle_clauses r h).no_work)
settled phases r Paused u h e = (run_sound phases _ (fresh_sound phases _ (Stopped None) u.least u.most), refl)
settled phases r Running u h e = false_true (sym e)

-- so it is sound with any phase in hand and any syringe
pub settle_sound :
    (phases : ℕ) (s : Core) (here : Phase)
    → CoreClauses phases s here
    → is_operating s.run ≡ false
    → (y : Syringe) (p : Phase)
    → is_diameter y.diameter ≡ true
    → is_writable y.diameter ≡ true
    → is_sound_core phases (with_syringe (with_run s (settle s.run)) y) p ≡ true
unfolding settle
settle_sound phases s here k rests y p e w =
    let u = run_clauses phases s.run k.under_way_lem in
    let t = settled phases s.run s.run.mode u u.mode_sound rests in
    core_sound phases _ p
    (record {
      in_range = e;
      written = w;
      chosen_least = k.chosen_least;
      chosen_most = k.chosen_most;
      ledger_sound = k.ledger_sound;
      under_way_lem = t.0;
      work_sound = ap (is_sound_work y p (settle_by s.run s.run.mode).rate) t.1;
    })
