-- The test of soundness that every call runs says just the facts of specs/Facts.antt.
--     sound_iff   a state passes the test exactly where each clause of document 01's sentence holds
-- Assumes nothing.
use Prim.Native.Nat.{ℕ}
use mathlib.Core.Path.{◌≡◌, refl, sym, ap, ◌∙◌}
use mathlib.Core.Logic.{◌↔◌}
use mathlib.Core.Bool.{true}
use Rattle.std.specs.Prelude.{Option, Some, None}
use Rattle.decimal.proofs.Theorems.{writable_iff}
use Rattle.drive.specs.Syringe.{is_diameter}
use Rattle.drive.specs.declared.directions.Direction.TheVariants.{Infuse, Withdraw}
use Rattle.words.specs.Functions.{is_wait, pause_ticks}
use Rattle.loops.proofs.Soundness.{count_le, loop_bounded, loops_differ, sound_of}
use Rattle.program.specs.Sound.{is_sound_trap, is_sound_mode, is_sound_work}
use Rattle.program.specs.declared.state.Work.{Work}
use Rattle.program.specs.declared.state.Work.TheVariants.{Entering, Visiting, Pausing, Waiting}
use Rattle.program.proofs.Parts.{ledger_clauses, ledger_sound, RunClauses, run_clauses, run_sound, CoreClauses, core_clauses, core_sound}
use Rattle.pump.specs.Holder.{phase_count, here_of, is_sound_pump}
use Rattle.pump.specs.declared.holder.Pump.{Pump}
use Rattle.pump.proofs.Kept.{pump_phases, pump_core, pump_line, pump_link, pump_apart, pump_sound}
use Rattle.statement.specs.Facts.{Between, Ranges, core_of, run_of, under_way, Sound}
use Rattle.statement.proofs.Clauses as clauses
use Rattle.statement.proofs.Clauses.{between}
use Rattle.statement.proofs.Links.{safe_facts, link_test, apart_test}

-- ---- from the test to the facts
diameter_facts : (d : ℕ) → (is_diameter d ≡ true) ↔ Between 100 d 50_000
unfolding is_diameter
diameter_facts d = between 100 d 50_000

module _ (p : Pump) (e : is_sound_pump p ≡ true) where
  core : CoreClauses (phase_count p) (core_of p) (here_of p)
  core = core_clauses (phase_count p) (core_of p) (here_of p) (pump_core p e)

  run : RunClauses (phase_count p) (run_of p)
  run = run_clauses (phase_count p) (run_of p) core.under_way_lem

  ranges : Ranges p
  ranges =
      record {
        diameter = (diameter_facts (core_of p).syringe.diameter).0 core.in_range;
        chosen = (core.chosen_least, core.chosen_most);
        infused = ledger_clauses (core_of p).ledger core.ledger_sound Infuse;
        withdrawn = ledger_clauses (core_of p).ledger core.ledger_sound Withdraw;
        current = (run.least, run.most);
        rate = run.rate_most;
        trap = λ n k. (between 1 n (phase_count p)).0 (sym (ap (is_sound_trap (phase_count p)) k) ∙ run.trap_sound);
        begun = λ i k. (loop_bounded (phase_count p) (run_of p).loops run.loops_sound i k).begun_most;
        line = clauses.line_facts p.device.line (pump_line p e);
        link = λ s k. safe_facts p.device s (pump_link p e) (pump_apart p e) k;
      }

  work : (w : Work) → under_way p ≡ w → is_sound_work (core_of p).syringe (here_of p) (run_of p).rate w ≡ true
  work w k = sym (ap (is_sound_work (core_of p).syringe (here_of p) (run_of p).rate) k) ∙ core.work_sound

  pub sound_facts : Sound p
  sound_facts =
      record {
        ranges = ranges;
        diameter_writable = (writable_iff (core_of p).syringe.diameter).0 core.written;
        phases = clauses.each_phase (phase_count p) p.phases (pump_phases p e);
        three_loops = count_le (phase_count p) (run_of p).loops run.loops_sound;
        different_phases = loops_differ (phase_count p) (run_of p).loops run.loops_sound;
        visit = λ v k. clauses.visit_facts (core_of p).syringe (here_of p) (run_of p).rate v (work (Visiting v) k);
        passes_few = λ i k. (loop_bounded (phase_count p) (run_of p).loops run.loops_sound i k).passes_most;
        pause = λ left k. (between 1 left (pause_ticks (here_of p).function)).0 (work (Pausing left) k);
        wait = λ k. (clauses.stands_in (here_of p).function).1 (work Waiting k);
        stopped = λ a k. clauses.nothing (run_of p) a (sym (ap (is_sound_mode (run_of p)) k) ∙ run.mode_sound);
      }

-- ---- and back
module _ (p : Pump) (s : Sound p) where
  trap_test : (t : Option ℕ) → (run_of p).trap ≡ t → is_sound_trap (phase_count p) t ≡ true
  trap_test None e = refl
  trap_test (Some n) e = (between 1 n (phase_count p)).1 (s.ranges.trap n e)

  run_test : RunClauses (phase_count p) (run_of p)
  run_test =
      record {
        least = s.ranges.current.0;
        most = s.ranges.current.1;
        rate_most = s.ranges.rate;
        trap_sound = trap_test (run_of p).trap refl;
        loops_sound =
            sound_of (phase_count p) (run_of p).loops s.three_loops
            (λ i k. record { begun_most = s.ranges.begun i k; passes_most = s.passes_few i k })
            s.different_phases;
        mode_sound = clauses.mode_test (run_of p) (run_of p).mode s.stopped;
      }

  work_test : (w : Work) → under_way p ≡ w → is_sound_work (core_of p).syringe (here_of p) (run_of p).rate w ≡ true
  work_test Entering e = refl
  work_test (Visiting v) e = clauses.visit_test (core_of p).syringe (here_of p) (run_of p).rate v (s.visit v e)
  work_test (Pausing left) e = (between 1 left (pause_ticks (here_of p).function)).1 (s.pause left e)
  work_test Waiting e = ap is_wait (s.wait e)

  core_test : CoreClauses (phase_count p) (core_of p) (here_of p)
  core_test =
      record {
        in_range = (diameter_facts (core_of p).syringe.diameter).1 s.ranges.diameter;
        written = (writable_iff (core_of p).syringe.diameter).1 s.diameter_writable;
        chosen_least = s.ranges.chosen.0;
        chosen_most = s.ranges.chosen.1;
        ledger_sound = ledger_sound (core_of p).ledger s.ranges.infused s.ranges.withdrawn;
        under_way_lem = run_sound (phase_count p) (run_of p) run_test;
        work_sound = work_test (under_way p) refl;
      }

  pub sound_test : is_sound_pump p ≡ true
  sound_test =
      pump_sound p (clauses.phases_test (phase_count p) p.phases s.phases)
      (core_sound (phase_count p) (core_of p) (here_of p) core_test)
      (clauses.line_test p.device.line s.ranges.line)
      (link_test p.device s.ranges.link)
      (apart_test p.device s.ranges.link)

pub sound_iff : (p : Pump) → (is_sound_pump p ≡ true) ↔ Sound p
sound_iff p = (sound_facts p, sound_test p)
