-- RUN, STP and the end of an alarm keep the program under way sound.
-- Assumes nothing.
use Rattle.std.specs.Prelude.{Result, Option}
use Rattle.std.specs.Result.{result_unwrap_or}
use Prim.Native.Nat.{ℕ}
use mathlib.Core.Path.{◌≡◌, refl, sym, ap, ◌∙◌}
use mathlib.Core.Bool.{true, false, not, ◌&&◌}
use native.Mathlib.Omega.{arith}
use lib.Dec.{eqb}
use borrow.Author.Tests.{eqb-true, ne_eqb}
use Rattle.std.specs.Prelude.{None}
use Rattle.base.proofs.Choices.{and_left, false_true}
use Rattle.drive.specs.declared.syringe.Syringe.{Syringe}
use Rattle.words.specs.Functions.{number, datum, is_phase}
use Rattle.words.specs.declared.answers.Declined.{Declined}
use Rattle.words.specs.declared.phases.Phase.{Phase}
use Rattle.dispense.specs.declared.rates.Rate.{Rate}
use Rattle.program.specs.Control.{run_by, run_on, run_from, stop_by, stop_now}
use Rattle.program.specs.Runs.{with_mode, go_on, is_waiting, is_running, is_operating, is_moving, calm, clear_alarm}
use Rattle.program.specs.Sound.{Table, is_sound_work, is_sound_mode}
use Rattle.program.specs.declared.state.Mode.{Mode}
use Rattle.program.specs.declared.state.Mode.TheVariants.{Stopped, Paused, Running}
use Rattle.program.specs.declared.state.Run.{Run}
use Rattle.program.specs.declared.state.Work.{Work}
use Rattle.program.specs.declared.state.Work.TheVariants.{Entering, Visiting, Pausing, Waiting}
use Rattle.program.proofs.Parts.{RunClauses, run_clauses, run_sound}
use Rattle.soundness.specs.Kept.{KeptRun}
use Rattle.soundness.proofs.Runs.{by_test, phase_bounds, fresh_kept, going_of, next_kept, stop_kept, within}

-- a trigger wait stands in no phase that stops
wait_not_stop :
    (d : Syringe) (p : Phase) (rate : Option Rate) (w : Work)
    → not (is_waiting w) ≡ false
    → is_sound_work d p rate w ≡ true
    → eqb (number p.function) 3 ≡ false
wait_not_stop d p rate Entering e h = false_true (sym e)
wait_not_stop d p rate (Visiting v) e h = false_true (sym e)
wait_not_stop d p rate (Pausing left) e h = false_true (sym e)
wait_not_stop d p rate Waiting e h =
    let n = eqb-true (number p.function) 8 (and_left (eqb (number p.function) 8) (eqb (datum p.function) 0) h) in
    ne_eqb (number p.function) 3 (λ z. omega arith)

module _ (phases : ℕ) (look : ℕ → Phase) (d : Syringe) (r : Run) (kept : KeptRun phases look d r) where
  clauses : RunClauses phases r
  clauses = run_clauses phases r kept.0

  -- what does not apply leaves the program as it is
  abbrev Steers : Result Run Declined → Type 0
  Steers x = KeptRun phases look d (result_unwrap_or x r)

  mode_kept : (m : Mode) → is_sound_mode (with_mode r m) m ≡ true → KeptRun phases look d (with_mode r m)
  mode_kept m h = (
    run_sound phases (with_mode r m)
        (record {
          least = clauses.least;
          most = clauses.most;
          rate_most = clauses.rate_most;
          trap_sound = clauses.trap_sound;
          loops_sound = clauses.loops_sound;
          mode_sound = h;
        }),
    kept.1,
  )

  -- ---- an alarm told and cleared
  pub clear_alarm_kept : KeptRun phases look d (clear_alarm r)
  clear_alarm_kept = go r.mode clauses.mode_sound
    where
      go : (m : Mode) → is_sound_mode r m ≡ true → KeptRun phases look d (with_mode r (calm m))
      go (Stopped alarm) h = mode_kept (Stopped None) h
      go Paused h = mode_kept Paused refl
      go Running h = mode_kept Running refl

  -- ---- STP
  pub stop_now_kept : Steers (stop_now r)
  unfolding stop_now
  stop_now_kept = go r.mode
    where
      go : (m : Mode) → Steers (stop_by r m)
      go (Stopped alarm) = kept
      go Paused = stop_kept phases look d r clauses None
      go Running = by_test Steers (is_moving r) (λ q. mode_kept Paused refl) (λ q. stop_kept phases look d r clauses None)

  -- ---- RUN n
  pub run_from_kept : (n : ℕ) → Steers (run_from r n phases)
  unfolding run_from
  run_from_kept n =
      by_test Steers (is_operating r)
      (λ q. kept)
      (λ q.
      by_test Steers (is_phase phases n)
      (λ e. let b = phase_bounds phases n e in fresh_kept phases look d n Running b.0 (omega (arith, b.1)))
      (λ e. kept))

  -- ---- RUN: the end of a trigger wait goes on to a phase or one past the last
  pub run_on_kept : Table phases look → Steers (run_on r)
  unfolding run_on
  run_on_kept table = go r.mode refl
    where
      waited : r.mode ≡ Running → is_moving r ≡ false → KeptRun phases look d (go_on r)
      waited m e =
          let waits = sym (ap (λ (x : Mode). is_running x && not (is_waiting r.place.work)) m) ∙ e in
          next_kept phases look d r (going_of phases r clauses m)
          (within phases look table r clauses
          (wait_not_stop d (look r.place.current) r.rate r.place.work waits kept.1))

      go : (m : Mode) → r.mode ≡ m → Steers (run_by r m)
      go (Stopped alarm) e = fresh_kept phases look d 1 Running (omega arith) (omega arith)
      go Paused e = mode_kept Running refl
      go Running e = by_test Steers (is_moving r) (λ q. kept) (waited e)
