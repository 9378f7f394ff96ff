-- A sound phase, ledger, visit, stopped pump, program under way and core taken apart into their clauses, and put together again: the one
-- place where soundness is.
-- Assumes nothing.
use Rattle.std.specs.Prelude.{Option, Some, None, is_none}
use Prim.Native.Nat.{ℕ, ◌+◌, ◌≤◌, ◌<◌}
use mathlib.Core.Path.{◌≡◌, refl, ap}
use mathlib.Core.Logic.{◌⊎◌, inl, inr, ⊎_elim}
use mathlib.Core.Bool.{Bool, true, false, ◌&&◌, ◌||◌}
use lib.Dec.{leb, ltb, eqb}
use borrow.Author.Tests.{leb-true, le-leb, ltb-true, lt-ltb, eqb-true, eq-eqb}
use Rattle.std.specs.Prelude.{Option, Some, None, is_none}
use Rattle.base.specs.All.{all}
use Rattle.base.proofs.Choices.{and_left, and_right, false_true}
use Rattle.base.proofs.Each.{each, all_of, and_both, either}
use Rattle.decimal.specs.Writable.{is_writable}
use Rattle.drive.specs.Rates.{most_rate}
use Rattle.drive.specs.Syringe.{is_diameter, step_threshold, step_target}
use Rattle.drive.specs.declared.directions.Direction.{Direction}
use Rattle.drive.specs.declared.directions.Direction.TheVariants.{Infuse, Withdraw}
use Rattle.drive.specs.declared.syringe.Syringe.{Syringe}
use Rattle.words.specs.Functions.{fits, is_rate_phase}
use Rattle.words.specs.Phases.{is_sound_phase}
use Rattle.words.specs.declared.phases.Phase.{Phase}
use Rattle.loops.specs.Loops.{is_sound_loops}
use Rattle.dispense.specs.Ledgers.{most_total, total_of, is_sound_ledger}
use Rattle.dispense.specs.Rates.{thousandths, is_usable_rate}
use Rattle.dispense.specs.declared.ledgers.Ledger.{Ledger}
use Rattle.dispense.specs.declared.rates.Rate.{Rate}
use Rattle.dispense.specs.declared.visits.Visit.{Visit}
use Rattle.program.specs.Runs.{is_entering}
use Rattle.program.specs.Sound.{is_sound_trap, visit_tests, is_sound_visit, is_sound_work, idle_tests, is_sound_mode}
use Rattle.program.specs.Sound.{run_tests, is_sound_run, core_tests, is_sound_core}
use Rattle.program.specs.declared.state.Core.{Core}
use Rattle.program.specs.declared.state.Run.{Run}
use Rattle.program.specs.declared.state.Work.{Work}
use Rattle.program.specs.declared.state.Work.TheVariants.{Entering, Visiting, Pausing, Waiting}

-- ---- a phase
pub record PhaseClauses (phases : ℕ) (p : Phase) : Type 0 where
  pub rate_written : is_writable p.rate ≡ true
  pub volume_written : is_writable p.volume ≡ true
  pub datum_fits : fits phases p.function ≡ true

module _ (phases : ℕ) (p : Phase) where
  pub phase_clauses : is_sound_phase phases p ≡ true → PhaseClauses phases p
  unfolding is_sound_phase
  phase_clauses e =
      let numbers = and_left (is_writable p.rate && is_writable p.volume) (fits phases p.function) e in
      record {
        rate_written = and_left (is_writable p.rate) (is_writable p.volume) numbers;
        volume_written = and_right (is_writable p.rate) (is_writable p.volume) numbers;
        datum_fits = and_right (is_writable p.rate && is_writable p.volume) (fits phases p.function) e;
      }

  pub phase_sound : PhaseClauses phases p → is_sound_phase phases p ≡ true
  unfolding is_sound_phase
  phase_sound c =
      and_both (is_writable p.rate && is_writable p.volume) _
      (and_both (is_writable p.rate) _ c.rate_written c.volume_written) c.datum_fits

-- ---- a ledger: the total of either direction
pub ledger_clauses : (l : Ledger) → is_sound_ledger l ≡ true → (way : Direction) → total_of l way ≤ most_total
unfolding is_sound_ledger
ledger_clauses l e Infuse = leb-true _ _ (and_left (leb l.totals.infused most_total) _ e)
ledger_clauses l e Withdraw = leb-true _ _ (and_right (leb l.totals.infused most_total) _ e)

pub ledger_sound : (l : Ledger) → total_of l Infuse ≤ most_total → total_of l Withdraw ≤ most_total → is_sound_ledger l ≡ true
unfolding is_sound_ledger
ledger_sound l i w = and_both _ _ (le-leb _ _ i) (le-leb _ _ w)

-- ---- a visit: a continuous one has no target and counts no step
pub record VisitClauses (d : Syringe) (here : Phase) (rate : Option Rate) (v : Visit) : Type 0 where
  pub store_below : v.store < step_threshold d
  pub aimed : v.target ≡ step_target d here.volume
  pub fewer_given : (v.given < v.target) ⊎ (here.volume ≡ 0) × (v.given ≡ 0)
  pub rate_usable : is_usable_rate d rate ≡ true
  pub in_rate_phase : is_rate_phase here.function ≡ true

or_right : (t u : Bool) → u ≡ true → (t || u) ≡ true
or_right true u e = refl
or_right false u e = e

module _ (d : Syringe) (here : Phase) (rate : Option Rate) (v : Visit) where
  pub visit_clauses : is_sound_visit d here rate v ≡ true → VisitClauses d here rate v
  unfolding is_sound_visit
  visit_clauses e =
      let t = each (visit_tests d here rate v) e in
      record {
        store_below = ltb-true _ _ t.0;
        aimed = eqb-true _ _ t.1.0;
        fewer_given =
            either (ltb v.given v.target) (eqb here.volume 0 && eqb v.given 0) (λ k. inl (ltb-true _ _ k))
            (λ k. inr (eqb-true _ _ (and_left (eqb here.volume 0) _ k), eqb-true _ _ (and_right (eqb here.volume 0) _ k)))
            t.1.1.0;
        rate_usable = t.1.1.1.0;
        in_rate_phase = t.1.1.1.1.0;
      }

  pub visit_sound : VisitClauses d here rate v → is_sound_visit d here rate v ≡ true
  unfolding is_sound_visit
  visit_sound c =
      all_of (visit_tests d here rate v) (
        lt-ltb _ _ c.store_below,
        (
          eq-eqb _ _ c.aimed,
          (
            ⊎_elim (λ k. rw (lt-ltb v.given v.target k))
                (λ k. or_right (ltb v.given v.target) _ (and_both _ _ (eq-eqb _ _ k.0) (eq-eqb _ _ k.1)))
                c.fewer_given,
            (c.rate_usable, (c.in_rate_phase, tt)),
          ),
        ),
      )

-- ---- a stopped pump
pub record IdleClauses (r : Run) : Type 0 where
  pub no_work : r.place.work ≡ Entering
  pub no_trap : r.trap ≡ None
  pub no_loop : r.loops.count ≡ 0
  pub no_rate : r.rate ≡ None

entering_of : (w : Work) → is_entering w ≡ true → w ≡ Entering
entering_of Entering h = refl
entering_of (Visiting v) h = false_true h
entering_of (Pausing left) h = false_true h
entering_of Waiting h = false_true h

no_trap_of : (t : Option ℕ) → is_none t ≡ true → t ≡ None
no_trap_of None h = refl
no_trap_of (Some n) h = false_true h

no_rate_of : (r : Option Rate) → is_none r ≡ true → r ≡ None
no_rate_of None h = refl
no_rate_of (Some r) h = false_true h

module _ (r : Run) where
  pub idle_clauses : all (idle_tests r) ≡ true → IdleClauses r
  idle_clauses e =
      let t = each (idle_tests r) e in
      record {
        no_work = entering_of r.place.work t.0;
        no_trap = no_trap_of r.trap t.1.0;
        no_loop = eqb-true r.loops.count 0 t.1.1.0;
        no_rate = no_rate_of r.rate t.1.1.1.0;
      }

  pub idle_sound : IdleClauses r → all (idle_tests r) ≡ true
  idle_sound c =
      all_of (idle_tests r)
      (ap is_entering c.no_work, (ap (is_none {T = ℕ}) c.no_trap, (eq-eqb r.loops.count 0 c.no_loop, (ap (is_none {T = Rate}) c.no_rate, tt))))

-- ---- the program under way, but for what it is doing
pub record RunClauses (phases : ℕ) (r : Run) : Type 0 where
  pub least : 1 ≤ r.place.current
  pub most : r.place.current ≤ phases + 1
  pub rate_most : thousandths r.rate ≤ most_rate
  pub trap_sound : is_sound_trap phases r.trap ≡ true
  pub loops_sound : is_sound_loops phases r.loops ≡ true
  pub mode_sound : is_sound_mode r r.mode ≡ true

module _ (phases : ℕ) (r : Run) where
  pub run_clauses : is_sound_run phases r ≡ true → RunClauses phases r
  unfolding is_sound_run
  run_clauses e =
      let t = each (run_tests phases r) e in
      record {
        least = leb-true 1 r.place.current t.0;
        most = leb-true r.place.current (phases + 1) t.1.0;
        rate_most = leb-true (thousandths r.rate) most_rate t.1.1.0;
        trap_sound = t.1.1.1.0;
        loops_sound = t.1.1.1.1.0;
        mode_sound = t.1.1.1.1.1.0;
      }

  pub run_sound : RunClauses phases r → is_sound_run phases r ≡ true
  unfolding is_sound_run
  run_sound c =
      all_of (run_tests phases r) (
        le-leb _ _ c.least,
        (
          le-leb _ _ c.most,
          (le-leb _ _ c.rate_most, (c.trap_sound, (c.loops_sound, (c.mode_sound, tt)))),
        ),
      )

-- ---- the core, with the current phase in hand
pub record CoreClauses (phases : ℕ) (s : Core) (here : Phase) : Type 0 where
  pub in_range : is_diameter s.syringe.diameter ≡ true
  pub written : is_writable s.syringe.diameter ≡ true
  pub chosen_least : 1 ≤ s.chosen
  pub chosen_most : s.chosen ≤ phases
  pub ledger_sound : is_sound_ledger s.ledger ≡ true
  pub under_way_lem : is_sound_run phases s.run ≡ true
  pub work_sound : is_sound_work s.syringe here s.run.rate s.run.place.work ≡ true

module _ (phases : ℕ) (s : Core) (here : Phase) where
  pub core_clauses : is_sound_core phases s here ≡ true → CoreClauses phases s here
  unfolding is_sound_core
  core_clauses e =
      let t = each (core_tests phases s here) e in
      record {
        in_range = t.0;
        written = t.1.0;
        chosen_least = leb-true 1 s.chosen t.1.1.0;
        chosen_most = leb-true s.chosen phases t.1.1.1.0;
        ledger_sound = t.1.1.1.1.0;
        under_way_lem = t.1.1.1.1.1.0;
        work_sound = t.1.1.1.1.1.1.0;
      }

  pub core_sound : CoreClauses phases s here → is_sound_core phases s here ≡ true
  unfolding is_sound_core
  core_sound c =
      all_of (core_tests phases s here) (
        c.in_range,
        (
          c.written,
          (
            le-leb _ _ c.chosen_least,
            (le-leb _ _ c.chosen_most, (c.ledger_sound, (c.under_way_lem, (c.work_sound, tt)))),
          ),
        ),
      )
