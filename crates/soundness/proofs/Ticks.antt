-- A tick keeps a sound core sound, with the phase that is then its current one.
-- Assumes nothing.
use Prim.Native.Nat.{ℕ}
use mathlib.Core.Path.{◌≡◌, refl}
use mathlib.Core.Bool.{true}
use Rattle.drive.specs.declared.directions.Direction.{Direction}
use Rattle.drive.specs.declared.directions.Direction.TheVariants.{Infuse, Withdraw}
use Rattle.words.specs.declared.phases.Phase.{Phase}
use Rattle.program.specs.Sound.{Table, is_sound_work}
use Rattle.program.specs.declared.state.Core.{Core}
use Rattle.program.specs.declared.state.Mode.{Mode}
use Rattle.program.specs.declared.state.Mode.TheVariants.{Stopped, Paused, Running}
use Rattle.program.specs.declared.state.Work.{Work}
use Rattle.program.specs.declared.state.Work.TheVariants.{Entering, Visiting, Pausing, Waiting}
use Rattle.program.proofs.Parts.{run_clauses}
use Rattle.tick.specs.Ticks.{entered, steps, work_by, tick_by, tick}
use Rattle.soundness.specs.Kept.{Kept}
use Rattle.soundness.proofs.Cores.{clauses, run_kept, given_sound, with_run_kept, levels_kept}
use Rattle.soundness.proofs.Entering.{enter_kept}
use Rattle.soundness.proofs.Runs.{Going, going_of}
use Rattle.soundness.proofs.Working.{visit_kept, pause_kept}

-- the steps are reported beside the core
steps_kept :
    (phases : ℕ) (look : ℕ → Phase) (s : Core) (way : Direction) (n : ℕ)
    → Kept phases look s
    → Kept phases look (steps s way n).core
steps_kept phases look s Infuse n k = k
steps_kept phases look s Withdraw n k = k

module _ (phases : ℕ) (look : ℕ → Phase) (table : Table phases look) (s : Core) (kept : Kept phases look s) where
  abbrev now : Phase
  now = look s.run.place.current

  -- by what a running program is doing
  work_by_kept :
      Going phases s.run
      → (work : Work)
      → is_sound_work s.syringe now s.run.rate work ≡ true
      → Kept phases look (work_by s now work).core
  unfolding entered
  work_by_kept g Entering w =
      levels_kept phases look _ s.pins _
      (with_run_kept phases look s kept _
      (enter_kept phases look table s.syringe (clauses phases look s kept).in_range s.run g s.pins))
  work_by_kept g (Visiting v) w =
      let c = clauses phases look s kept in
      let k = visit_kept phases look table s.syringe c.in_range s.run g s.ledger now.direction v
      (run_kept phases look s kept) c.ledger_sound w in
      steps_kept phases look _ now.direction _ (given_sound phases look s kept _ _ _ k.0.0 k.0.1 k.1)
  work_by_kept g (Pausing left) w =
      with_run_kept phases look s kept _
      (pause_kept phases look table s.syringe (clauses phases look s kept).in_range s.run g left w)
  work_by_kept g Waiting w = kept

  -- by its mode: only a running program moves
  tick_by_kept : (mode : Mode) → s.run.mode ≡ mode → Kept phases look (tick_by s now mode).core
  tick_by_kept (Stopped alarm) e = kept
  tick_by_kept Paused e = kept
  tick_by_kept Running e =
      let c = clauses phases look s kept in
      work_by_kept (going_of phases s.run (run_clauses phases s.run c.under_way_lem) e) s.run.place.work c.work_sound

pub kept_tick :
    (phases : ℕ) (look : ℕ → Phase)
    → Table phases look
    → (s : Core)
    → Kept phases look s
    → Kept phases look (tick s (look s.run.place.current)).core
unfolding tick
kept_tick phases look table s kept = tick_by_kept phases look table s kept s.run.mode refl
