-- A working tick of a visit or of a timed pause keeps the program under way sound, and the totals at most their limit.
-- Assumes nothing.
use Rattle.std.specs.Prelude.{Option, Some, None}
use Prim.Native.Nat.{ℕ, ◌+◌, ◌-◌, ◌≤◌}
use mathlib.Core.Path.{◌≡◌}
use mathlib.Core.Bool.{true, false}
use native.Mathlib.Omega.{arith}
use lib.Dec.{leb, eqb}
use borrow.Author.Tests.{leb-true, leb-false, le-leb, ne_eqb}
use Rattle.std.specs.Prelude.{Some}
use Rattle.base.proofs.Choices.{and_left, and_right}
use Rattle.base.proofs.Each.{and_both}
use Rattle.drive.specs.Rates.{hourly_rate}
use Rattle.drive.specs.Syringe.{is_diameter, step_threshold}
use Rattle.drive.specs.declared.directions.Direction.{Direction}
use Rattle.drive.specs.declared.directions.Direction.TheVariants.{Infuse, Withdraw}
use Rattle.drive.specs.declared.syringe.Syringe.{Syringe}
use Rattle.words.specs.Functions.{number, is_rate_phase, pause_ticks}
use Rattle.words.specs.declared.answers.Alarm.TheVariants.{Program}
use Rattle.words.specs.declared.functions.Function.{Function}
use Rattle.words.specs.declared.phases.Phase.{Phase}
use Rattle.dispense.specs.Ledgers.{most_total, total_of, with_figure, is_sound_ledger}
use Rattle.dispense.specs.Visits.{worked_of, is_done}
use Rattle.dispense.specs.declared.ledgers.Ledger.{Ledger}
use Rattle.dispense.specs.declared.rates.Rate.{Rate}
use Rattle.dispense.specs.declared.visits.Visit.{Visit}
use Rattle.program.specs.Sound.{Table, is_sound_visit, is_sound_work}
use Rattle.program.specs.declared.state.Run.{Run}
use Rattle.program.specs.declared.state.Work.TheVariants.{Visiting, Pausing}
use Rattle.program.proofs.Parts.{ledger_clauses, ledger_sound, visit_clauses}
use Rattle.tick.specs.Working.{dose_of, after_visit, give_steps, work_at, work_visit, work_pause}
use Rattle.tick.specs.declared.working.Given.{Given}
use Rattle.soundness.specs.Kept.{KeptRun}
use Rattle.soundness.proofs.Entering.{threshold_above}
use Rattle.soundness.proofs.Runs.{by_test, Going, next_kept, doing_kept, stop_kept, within}
use Rattle.soundness.proofs.Visits.{worked_sound}

-- what a working tick must leave sound
abbrev pub KeptGiven : ℕ → (ℕ → Phase) → Syringe → Given → Type 0
KeptGiven phases look d x = KeptRun phases look d x.run × (is_sound_ledger x.ledger ≡ true)

-- ---- a sound ledger with another total that is at most its limit
pub figure_sound :
    (l : Ledger) (way : Direction) (x : ℕ)
    → is_sound_ledger l ≡ true
    → x ≤ most_total
    → is_sound_ledger (record { totals = with_figure l.totals way x }) ≡ true
figure_sound l Infuse x e h = ledger_sound _ h (ledger_clauses l e Withdraw)
figure_sound l Withdraw x e h = ledger_sound _ (ledger_clauses l e Infuse) h

-- ---- what a phase is doing is of its function, so it does not stop
pub rate_not_stop : (g : Function) → is_rate_phase g ≡ true → eqb (number g) 3 ≡ false
rate_not_stop g h = ne_eqb (number g) 3 (λ e. let k = leb-true (number g) 2 h in omega arith)

pause_not_stop : (g : Function) (left : ℕ) → 1 ≤ left → left ≤ pause_ticks g → eqb (number g) 3 ≡ false
pause_not_stop g left lo hi =
    ne_eqb (number g) 3
    (λ e. let none : pause_ticks g ≡ 0 = simp (ne_eqb (number g) 8 (omega arith), ne_eqb (number g) 9 (omega arith)) in absurd (omega arith))

module _ (phases : ℕ) (look : ℕ → Phase) (table : Table phases look) (d : Syringe) (e : is_diameter d.diameter ≡ true) (r : Run) (g : Going phases r) where
  abbrev here : Phase
  here = look r.place.current

  -- ---- a visit ends, or goes on where it is sound
  after_kept :
      (v : Visit)
      → r.place.current ≤ phases
      → (is_done v ≡ false → is_sound_visit d here r.rate v ≡ true)
      → KeptRun phases look d (after_visit r v)
  unfolding after_visit
  after_kept v c w =
      by_test (KeptRun phases look d) (is_done v)
      (λ q. next_kept phases look d r g c)
      (λ q. doing_kept phases look d r g (Visiting v) (w q))

  -- the steps of a visit
  give_kept :
      (l : Ledger) (way : Direction) (v : Visit) (hourly : ℕ)
      → is_sound_ledger l ≡ true
      → is_sound_visit d here r.rate v ≡ true
      → KeptGiven phases look d (give_steps r l d way v hourly)
  unfolding give_steps
  give_kept l way v hourly s w =
      by_test (KeptGiven phases look d) (leb (total_of l way + dose_of d v hourly) most_total)
      (λ q. (
        after_kept (worked_of v hourly (step_threshold d))
            (within phases look table r g.clauses (rate_not_stop here.function (visit_clauses d here r.rate v w).in_rate_phase))
            (worked_sound d here r.rate v hourly (threshold_above d e) w),
        figure_sound l way (total_of l way + dose_of d v hourly) s (leb-true _ _ q),
      ))
      (λ q. (stop_kept phases look d r g.clauses (Some Program), s))

  -- at the current rate; a sound visit has one
  pub visit_kept :
      (l : Ledger) (way : Direction) (v : Visit)
      → KeptRun phases look d r
      → is_sound_ledger l ≡ true
      → is_sound_visit d here r.rate v ≡ true
      → KeptGiven phases look d (work_visit r l d way v)
  unfolding work_visit
  visit_kept l way v k s w = go r.rate
    where
      go : (rate : Option Rate) → KeptGiven phases look d (work_at r l d way v rate)
      go None = (k, s)
      go (Some x) = give_kept l way v (hourly_rate x.thousandths x.unit) s w

  -- ---- a timed pause
  pub pause_kept : (left : ℕ) → is_sound_work d here r.rate (Pausing left) ≡ true → KeptRun phases look d (work_pause r left)
  unfolding work_pause
  pause_kept left w =
      let full = pause_ticks here.function in
      let lo = leb-true 1 left (and_left (leb 1 left) (leb left full) w) in
      let hi = leb-true left full (and_right (leb 1 left) (leb left full) w) in
      by_test (KeptRun phases look d) (leb left 1)
      (λ q. next_kept phases look d r g (within phases look table r g.clauses (pause_not_stop here.function left lo hi)))
      (λ q.
      let more = leb-false left 1 q in
      doing_kept phases look d r g (Pausing (left - 1))
      (and_both _ _ (le-leb 1 (left - 1) (omega arith)) (le-leb (left - 1) full (omega (arith, hi)))))
