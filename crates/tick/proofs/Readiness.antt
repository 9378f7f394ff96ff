-- What the callees of a tick ask, from a sound core and phase: see Ready in specs/Ticks.antt.
-- Assumes nothing.
use Rattle.std.specs.Prelude.{Some}
use Prim.Native.Nat.{ℕ, ◌≤◌}
use mathlib.Core.Path.{◌≡◌, sym, ap, ◌∙◌}
use mathlib.Core.Logic.{⊎_elim}
use native.Mathlib.Omega.{arith}
use lib.Dec.{leb}
use borrow.Author.Tests.{leb-true}
use Rattle.base.proofs.Choices.{and_right}
use Rattle.drive.specs.Syringe.{is_diameter, least_diameter, most_diameter}
use Rattle.drive.proofs.Bounds.{threshold_le}
use Rattle.drive.proofs.Theorems.{usable_iff}
use Rattle.words.specs.declared.phases.Phase.{Phase}
use Rattle.loops.proofs.Kept.{turning}
use Rattle.dispense.specs.Rates.{is_usable_rate}
use Rattle.dispense.specs.declared.rates.Rate.{Rate}
use Rattle.dispense.specs.declared.visits.Visit.{Visit}
use Rattle.program.specs.Sound.{is_sound_work}
use Rattle.program.specs.declared.state.Core.{Core}
use Rattle.program.specs.declared.state.Work.TheVariants.{Visiting}
use Rattle.program.proofs.Parts.{ledger_clauses, visit_clauses, RunClauses, run_clauses, CoreClauses, core_clauses}
use Rattle.tick.specs.Entering.{Enterable}
use Rattle.tick.specs.Ticks.{Ready}
use Rattle.tick.specs.Working.{AtRate}

-- ---- what a tick's callees ask
module _ (s : Core) (p : Phase) (ready : Ready s p) where
  abbrev phases : ℕ
  phases = ready.phases

  core : CoreClauses phases s p
  core = core_clauses phases s p ready.core

  run : RunClauses phases s.run
  run = run_clauses phases s.run core.under_way_lem

  pub ready_current : s.run.place.current ≤ 100
  ready_current = omega (arith, run.most, ready.few)

  pub ready_entering : Enterable s.run
  ready_entering =
      record {
        current = ready_current;
        turning = turning phases _ s.run.loops ready.few run.loops_sound ready_current;
      }

  diameter_le : s.syringe.diameter ≤ most_diameter
  unfolding is_diameter
  diameter_le =
      leb-true _ _ (and_right (leb least_diameter s.syringe.diameter) (leb s.syringe.diameter most_diameter) core.in_range)

  pub ready_visit :
      (v : Visit) → s.run.place.work ≡ Visiting v → AtRate s.run s.ledger s.syringe p.direction v
  ready_visit v e =
      let d = s.syringe in
      let visit = visit_clauses d p s.run.rate v (sym (ap (is_sound_work d p s.run.rate) e) ∙ core.work_sound) in
      record {
        small = run.rate_most;
        gives =
            λ (x : Rate) (f : s.run.rate ≡ Some x).
            record {
              high = diameter_le;
              current_few = ready_current;
              total = ledger_clauses s.ledger core.ledger_sound p.direction;
              works =
                  record {
                    store_below = visit.store_below;
                    usable = ((usable_iff d x.thousandths x.unit).0 (sym (ap (is_usable_rate d) f) ∙ visit.rate_usable)).1;
                    within = ⊎_elim (λ k. omega arith) (λ k. omega arith) visit.fewer_given;
                    bounded = threshold_le d diameter_le;
                  };
            };
      }
