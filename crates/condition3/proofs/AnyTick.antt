-- Any tick of a whole pump: it enters a phase, works a visit, or does neither.
-- Assumes nothing.
use Prim.Native.Nat.{◌-◌}
use mathlib.Core.Path.{◌≡◌, refl, sym, ap, ◌∙◌, subst}
use mathlib.Core.Bool.{false}
use lib.Dec.{leb}
use Rattle.std.specs.Prelude.{ℕ, is_some}
use Rattle.loops.specs.Loops.{opened}
use Rattle.program.specs.Cores.{with_run}
use Rattle.program.specs.Runs.{doing, go_on, is_visiting}
use Rattle.program.specs.declared.state.Mode.{Mode}
use Rattle.program.specs.declared.state.Mode.TheVariants.{Stopped, Paused, Running}
use Rattle.program.specs.declared.state.Run.{Run}
use Rattle.program.specs.declared.state.Work.{Work}
use Rattle.program.specs.declared.state.Work.TheVariants.{Entering, Visiting, Pausing, Waiting}
use Rattle.tick.specs.Ticks.{silent, work_by, tick_by, tick}
use Rattle.tick.specs.Working.{work_pause}
use Rattle.tick.specs.declared.Moved.{Moved}
use Rattle.soundness.proofs.Runs.{by_test}
use Rattle.soundness.proofs.Ticks.{kept_tick}
use Rattle.pump.specs.Calls.{tick_at}
use Rattle.pump.specs.Holder.{phase_count, phase_at, here_of}
use Rattle.pump.specs.declared.holder.Pump.{Pump}
use Rattle.pump.proofs.Kept.{core_sound, pump_core, table_here}
use Rattle.statement.specs.Facts.{core_of, run_of, under_way}
use Rattle.statement.specs.Histories.{Whole}
use Rattle.statement.specs.Outcomes.{pump_with_core}
use Rattle.condition3.specs.Books.{Books, nothing}
use Rattle.condition3.specs.Stored.{SameWork}
use Rattle.condition3.proofs.Entering.{enters_phase_lem}
use Rattle.condition3.proofs.Noting.{Kept}
use Rattle.condition3.proofs.Ticks.{Stepped, moved, Silent, idle_stopped, idle_on, none_booked, same_none}
use Rattle.condition3.proofs.Views.{is_stopped_in, moves_in}
use Rattle.condition3.proofs.Working.{works_visit}

module _ (p : Pump) (b : Books) (k : Kept p b) where
  abbrev Ticks : Moved → Type 0
  Ticks m = Whole (pump_with_core p m.core) → Stepped b (moved p m)

  still : (r : Run) → Whole (pump_with_core p (with_run (core_of p) r)) → Silent p (silent (with_run (core_of p) r))
  still r w = record { whole = w; pins = refl; ledger = refl; none_infused = refl; none_withdrawn = refl }

  -- ---- a timed pause goes on or ends, a trigger wait stays
  module _ (runs : (run_of p).mode ≡ Running) (x : Work) (at : under_way p ≡ x) (rests : moves_in Running x ≡ false)
      (none : is_visiting x ≡ false) where
    no_visit : b.doing ≡ nothing
    no_visit = none_booked p (under_way p) b.doing k.work (ap is_visiting at ∙ none)

    resting :
        (r : Run)
        → r.mode ≡ (run_of p).mode
        → r.loops ≡ (run_of p).loops
        → r.trap ≡ (run_of p).trap
        → is_visiting r.place.work ≡ false
        → Ticks (silent (with_run (core_of p) r))
    resting r m l t v w =
        idle_on p b k (silent (with_run (core_of p) r)) (still r w) (rw (runs, at) rests) (ap is_stopped_in (m ∙ runs))
        (subst (SameWork (pump_with_core p (with_run (core_of p) r)) r.place.work) (sym no_visit) (same_none _ r.place.work v))
        (ap opened l) (ap (is_some {T = ℕ}) t)

  tick_work : (run_of p).mode ≡ Running → (x : Work) → under_way p ≡ x → Ticks (work_by (core_of p) (here_of p) x)
  unfolding work_pause
  tick_work runs Entering at = enters_phase_lem p b k runs at
  tick_work runs (Visiting v) at = works_visit p b k runs v at
  tick_work runs (Pausing left) at =
      by_test (λ (r : Run). Ticks (silent (with_run (core_of p) r))) (leb left 1)
      (λ _. resting runs (Pausing left) at refl refl (go_on (run_of p)) refl refl refl refl)
      (λ _. resting runs (Pausing left) at refl refl (doing (run_of p) (Pausing (left - 1))) refl refl refl refl)
  tick_work runs Waiting at = resting runs Waiting at refl refl (run_of p) refl refl refl (ap is_visiting at)

  tick_mode : (m : Mode) → (run_of p).mode ≡ m → Ticks (tick_by (core_of p) (here_of p) m)
  tick_mode (Stopped alarm) e =
      λ w. idle_stopped p b k (silent (core_of p)) (still (run_of p) w) (rw e refl) (ap is_stopped_in e)
  tick_mode Paused e =
      λ w. idle_on p b k (silent (core_of p)) (still (run_of p) w) (rw e refl) (ap is_stopped_in e) k.work refl refl
  tick_mode Running e = tick_work e (under_way p) refl

  -- ---- the work of any tick
  pub core_whole : Whole (pump_with_core p (tick_at p).core)
  core_whole =
      let sound = k.whole.sound in
      record {
        model = k.whole.model;
        places = k.whole.places;
        packet_places = k.whole.packet_places;
        sound =
            core_sound p sound (tick_at p).core
            (kept_tick (phase_count p) (phase_at p.phases) (table_here p sound) (core_of p) (pump_core p sound));
      }

  pub tick_works : Stepped b (moved p (tick_at p))
  unfolding tick
  tick_works = tick_mode (run_of p).mode refl core_whole
