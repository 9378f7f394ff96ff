-- A level of a pin keeps a sound core sound, and so does an alarm that was told.
-- Assumes nothing.
use Rattle.std.specs.Prelude.{Result}
use Rattle.std.specs.Result.{result_unwrap_or}
use Prim.Native.Nat.{ℕ}
use mathlib.Core.Path.{◌≡◌, refl}
use mathlib.Core.Bool.{Bool, true}
use Rattle.std.specs.Prelude.{Option, Some, None}
use Rattle.drive.specs.declared.syringe.Syringe.{Syringe}
use Rattle.words.specs.declared.answers.Declined.{Declined}
use Rattle.words.specs.declared.answers.Alarm.{Alarm}
use Rattle.words.specs.declared.phases.Phase.{Phase}
use Rattle.program.specs.Cores.{with_run}
use Rattle.program.specs.Edges.{falls, with_two, with_four, unless_alarm, foot_switch, pin_two, spring_by, spring_in, spring, pin_four, pin_six}
use Rattle.program.specs.Runs.{is_moving, pending, clear_alarm}
use Rattle.program.specs.Sound.{Table, is_sound_trap}
use Rattle.program.specs.declared.state.Core.{Core}
use Rattle.program.specs.declared.state.Mode.{Mode}
use Rattle.program.specs.declared.state.Mode.TheVariants.{Stopped, Paused, Running}
use Rattle.program.specs.declared.state.Run.{Run}
use Rattle.program.proofs.Parts.{RunClauses, run_clauses}
use Rattle.soundness.specs.Kept.{Kept, KeptRun}
use Rattle.soundness.proofs.Control.{clear_alarm_kept, stop_now_kept, run_on_kept}
use Rattle.soundness.proofs.Cores.{run_kept, with_run_kept, levels_kept}
use Rattle.soundness.proofs.Entering.{fire_kept}
use Rattle.soundness.proofs.Runs.{by_test, going_of}

module _ (phases : ℕ) (look : ℕ → Phase) (d : Syringe) (r : Run) (kept : KeptRun phases look d r) where
  -- ---- pin 4
  spring_kept : KeptRun phases look d (spring r)
  unfolding spring
  spring_kept = go r.mode refl
    where
      c : RunClauses phases r
      c = run_clauses phases r kept.0

      by_trap : r.mode ≡ Running → (t : Option ℕ) → is_sound_trap phases t ≡ true → KeptRun phases look d (spring_by r t)
      by_trap m None e = kept
      by_trap m (Some n) e = fire_kept phases look d r (going_of phases r c m) n e

      go : (m : Mode) → r.mode ≡ m → KeptRun phases look d (spring_in r m)
      go (Stopped alarm) e = kept
      go Paused e = kept
      go Running e = by_trap e r.trap c.trap_sound

  -- ---- pin 2
  foot_switch_kept : Table phases look → KeptRun phases look d (foot_switch r)
  unfolding foot_switch
  foot_switch_kept table = go (pending r)
    where
      go : (a : Option Alarm) → KeptRun phases look d (unless_alarm r a)
      go None =
          by_test (λ (x : Result Run Declined). KeptRun phases look d (result_unwrap_or x r)) (is_moving r)
          (λ q. stop_now_kept phases look d r kept)
          (λ q. run_on_kept phases look d r kept table)
      go (Some alarm) = kept

pub kept_clear_alarm :
    (phases : ℕ) (look : ℕ → Phase) (s : Core) → Kept phases look s → Kept phases look (with_run s (clear_alarm s.run))
kept_clear_alarm phases look s kept =
    with_run_kept phases look s kept _ (clear_alarm_kept phases look _ s.run (run_kept phases look s kept))

module _ (phases : ℕ) (look : ℕ → Phase) (table : Table phases look) (s : Core) (kept : Kept phases look s) where
  pub kept_pin_two : (level : Bool) → Kept phases look (pin_two s level)
  unfolding pin_two
  kept_pin_two level =
      by_test (Kept phases look) (falls s.pins.two level)
      (λ q.
      with_run_kept phases look (with_two s level) (levels_kept phases look s _ s.output kept) _
      (foot_switch_kept phases look _ s.run (run_kept phases look s kept) table))
      (λ q. levels_kept phases look s _ s.output kept)

  pub kept_pin_four : (level : Bool) → Kept phases look (pin_four s level)
  unfolding pin_four
  kept_pin_four level =
      by_test (Kept phases look) (falls s.pins.four level)
      (λ q.
      with_run_kept phases look (with_four s level) (levels_kept phases look s _ s.output kept) _
      (spring_kept phases look _ s.run (run_kept phases look s kept)))
      (λ q. levels_kept phases look s _ s.output kept)

  pub kept_pin_six : (level : Bool) → Kept phases look (pin_six s level)
  unfolding pin_six
  kept_pin_six level = levels_kept phases look s _ s.output kept
