-- Entering a phase keeps the program under way sound, whatever its function.
-- Assumes nothing.
use Rattle.std.specs.Prelude.{Option, Some, None, IfSome}
use Prim.Native.Nat.{ℕ, ◌+◌, ◌≤◌, ◌<◌}
use mathlib.Core.Path.{◌≡◌, refl, sym, ap, ◌∙◌}
use mathlib.Core.Bool.{Bool, true, false, ◌&&◌}
use native.Mathlib.Omega.{arith}
use lib.Dec.{leb, ltb, eqb}
use borrow.Author.Tests.{leb-true, le-leb, eqb-true, eqb-false, eq-eqb}
use Rattle.std.specs.Prelude.{Option, Some, None}
use Rattle.base.proofs.Choices.{and_left, and_right}
use Rattle.base.proofs.Each.{and_both}
use Rattle.decimal.proofs.Grid.{writable_grid}
use Rattle.drive.specs.Rates.{most_rate}
use Rattle.drive.specs.Syringe.{is_diameter, step_threshold, step_target}
use Rattle.drive.specs.declared.syringe.Syringe.{Syringe}
use Rattle.drive.proofs.Bounds.{threshold_ge}
use Rattle.words.specs.Functions.{number, fits, is_phase, is_rate_phase, is_wait, pause_ticks}
use Rattle.words.specs.declared.answers.Alarm.TheVariants.{Program}
use Rattle.words.specs.declared.functions.Function.{Function}
use Rattle.words.specs.declared.functions.Function.TheVariants as f
use Rattle.words.specs.declared.phases.Phase.{Phase}
use Rattle.loops.specs.Loops as loops
use Rattle.loops.specs.declared.Loops.{Loops}
use Rattle.loops.proofs.Kept.{lps_sound, lop_sound, lop_next_ge, lop_next_le, lpe_sound, lpe_next_ge, lpe_next_le}
use Rattle.loops.proofs.Soundness.{none_sound}
use Rattle.dispense.specs.Rates.{thousandths, increase, decrease, is_usable_rate}
use Rattle.dispense.specs.declared.rates.Rate.{Rate}
use Rattle.program.specs.Runs.{with_rate, with_loops, with_trap, doing, fire}
use Rattle.program.specs.Sound.{Table, is_sound_trap}
use Rattle.program.specs.declared.state.Pins.{Pins}
use Rattle.program.specs.declared.state.Run.{Run}
use Rattle.program.specs.declared.state.Work.{Work}
use Rattle.program.specs.declared.state.Work.TheVariants.{Visiting, Pausing, Waiting}
use Rattle.program.proofs.Parts.{PhaseClauses, phase_clauses}
use Rattle.tick.specs.Entering.{begin_visit, enter_rate, enter_pause, begun, start_loop, pass_loop, end_loop, jump_if, arm_trap, clear_trap}
use Rattle.tick.specs.Entering.{enter_by, enter}
use Rattle.soundness.specs.Kept.{KeptRun}
use Rattle.soundness.proofs.Runs.{by_test, Going, going_with, to_kept, next_kept, jump_kept, doing_kept, stop_kept, within}
use Rattle.soundness.proofs.Visits.{begun_sound}

-- ---- a rate that is to be the current one is at most the largest
increase_most : (rate : Option Rate) (x : ℕ) → thousandths (increase rate x) ≤ most_rate
increase_most None x = omega arith
increase_most (Some r) x =
    by_test (λ (q : Option Rate). thousandths q ≤ most_rate) (leb (r.thousandths + x) most_rate) (λ e. leb-true _ _ e) (λ e. omega arith)

decrease_most : (rate : Option Rate) (x : ℕ) → thousandths rate ≤ most_rate → thousandths (decrease rate x) ≤ most_rate
decrease_most None x h = omega arith
decrease_most (Some r) x h = omega arith

-- a diameter in its range gives a threshold
pub threshold_above : (d : Syringe) → is_diameter d.diameter ≡ true → 0 < step_threshold d
unfolding is_diameter
threshold_above d e = omega (arith, threshold_ge d (leb-true 100 d.diameter (and_left (leb 100 d.diameter) (leb d.diameter 50_000) e)))

module _ (phases : ℕ) (look : ℕ → Phase) (d : Syringe) (r : Run) (g : Going phases r) where
  abbrev here : Phase
  here = look r.place.current

  -- ---- RAT, INC, DEC: a visit begun at a usable current rate, or ended at entry
  begin_kept :
      is_diameter d.diameter ≡ true
      → r.place.current ≤ phases
      → is_rate_phase here.function ≡ true
      → is_usable_rate d r.rate ≡ true
      → KeptRun phases look d (begin_visit r d here)
  unfolding begin_visit
  begin_kept e c k u =
      by_test (KeptRun phases look d) (ltb 0 here.volume && eqb (step_target d here.volume) 0)
      (λ q. next_kept phases look d r g c)
      (λ q. doing_kept phases look d r g (Visiting _) (begun_sound d here r.rate (threshold_above d e) u k q))

  -- ---- PAS: its full number of ticks, or the trigger wait
  pause_kept :
      (ticks : ℕ)
      → ticks ≡ pause_ticks here.function
      → (ticks ≡ 0 → is_wait here.function ≡ true)
      → KeptRun phases look d (enter_pause r ticks)
  unfolding enter_pause
  pause_kept ticks e w =
      let none = with_rate r None in
      let g' = going_with phases r None r.trap r.loops g (omega arith) g.clauses.trap_sound g.clauses.loops_sound in
      by_test (λ (work : Work). KeptRun phases look d (doing none work)) (eqb ticks 0)
      (λ q. doing_kept phases look d none g' Waiting (w (eqb-true ticks 0 q)))
      (λ q.
      doing_kept phases look d none g' (Pausing ticks)
      (and_both _ _ (le-leb 1 ticks (let above = eqb-false ticks 0 q in omega arith)) (le-leb ticks _ (omega arith))))

  -- ---- LPS
  going_loops : (l : Loops) → loops.is_sound_loops phases l ≡ true → Going phases (with_loops r l)
  going_loops l h = going_with phases r r.rate r.trap l g g.clauses.rate_most g.clauses.trap_sound h

  begun_kept :
      (more : Option Loops)
      → r.place.current ≤ phases
      → IfSome more (λ l. loops.is_sound_loops phases l ≡ true)
      → KeptRun phases look d (begun r more)
  begun_kept None c h = stop_kept phases look d r g.clauses (Some Program)
  begun_kept (Some l) c h = next_kept phases look d (with_loops r l) (going_loops l h) c

  lps_kept : r.place.current ≤ phases → KeptRun phases look d (start_loop r)
  unfolding start_loop
  lps_kept c = begun_kept (loops.lps r.loops r.place.current) c (lps_sound phases _ r.loops g.clauses.loops_sound c)

  -- ---- LOP
  lop_kept : (n : ℕ) → n ≤ 99 → r.place.current ≤ phases → KeptRun phases look d (pass_loop r n)
  unfolding pass_loop
  lop_kept n h c =
      let sound = g.clauses.loops_sound in
      let t = loops.lop r.loops n r.place.current in
      to_kept phases look d (with_loops r t.loops) (going_loops t.loops (lop_sound phases n _ r.loops sound h)) t.next
      (lop_next_ge r.loops n _) (lop_next_le phases n _ r.loops sound c)

  -- ---- LPE
  lpe_kept : KeptRun phases look d (end_loop r)
  unfolding end_loop
  lpe_kept =
      let sound = g.clauses.loops_sound in
      let t = loops.lpe r.loops in
      to_kept phases look d (with_loops r t.loops) (going_loops t.loops (lpe_sound phases r.loops sound)) t.next
      (lpe_next_ge r.loops) (lpe_next_le phases r.loops sound)

  -- ---- IF
  if_kept : (six : Bool) (n : ℕ) → is_phase phases n ≡ true → r.place.current ≤ phases → KeptRun phases look d (jump_if r six n)
  unfolding jump_if
  if_kept true n h c = next_kept phases look d r g c
  if_kept false n h c = jump_kept phases look d r g n h

  -- ---- a trap fires
  pub fire_kept : (n : ℕ) → is_phase phases n ≡ true → KeptRun phases look d (fire r n)
  unfolding fire
  fire_kept n h =
      jump_kept phases look d (with_loops (with_trap r None) loops.none)
      (going_with phases r r.rate None loops.none g g.clauses.rate_most refl (none_sound phases)) n h

  -- ---- EVN and EVR
  going_trap : (trap : Option ℕ) → is_sound_trap phases trap ≡ true → Going phases (with_trap r trap)
  going_trap trap h = going_with phases r r.rate trap r.loops g g.clauses.rate_most h g.clauses.loops_sound

  evn_kept :
      (four : Bool) (n : ℕ) → is_phase phases n ≡ true → r.place.current ≤ phases → KeptRun phases look d (arm_trap r four n)
  unfolding arm_trap
  evn_kept true n h c = next_kept phases look d (with_trap r (Some n)) (going_trap (Some n) h) c
  evn_kept false n h c = fire_kept n h

  evr_kept : r.place.current ≤ phases → KeptRun phases look d (clear_trap r)
  unfolding clear_trap
  evr_kept c = next_kept phases look d (with_trap r None) (going_trap None refl) c

module _ (phases : ℕ) (look : ℕ → Phase) (table : Table phases look) (d : Syringe) (e : is_diameter d.diameter ≡ true) (r : Run) (g : Going phases r) where
  abbrev now : Phase
  now = look r.place.current

  -- a phase that does not stop is not past the last
  not_past : (h : Function) → now.function ≡ h → eqb (number h) 3 ≡ false → r.place.current ≤ phases
  not_past h q n = within phases look table r g.clauses (ap (λ (x : Function). eqb (number x) 3) q ∙ n)

  -- RAT, INC, DEC at the rate that is to be the current one
  rate_kept :
      (rate : Option Rate)
      → thousandths rate ≤ most_rate
      → r.place.current ≤ phases
      → is_rate_phase now.function ≡ true
      → KeptRun phases look d (enter_rate r d now rate)
  unfolding enter_rate
  rate_kept rate h c k =
      by_test (KeptRun phases look d) (is_usable_rate d rate)
      (λ u.
      begin_kept phases look d (with_rate r rate)
      (going_with phases r rate r.trap r.loops g h g.clauses.trap_sound g.clauses.loops_sound) e c k u)
      (λ u. stop_kept phases look d r g.clauses (Some Program))

  phase : PhaseClauses phases now
  phase = phase_clauses phases now (table.every r.place.current)

  rate_most : now.rate ≤ most_rate
  rate_most = (writable_grid now.rate phase.rate_written).bounded

  -- ---- by the function of the phase in hand
  enter_by_kept : (pins : Pins) (h : Function) → now.function ≡ h → fits phases h ≡ true → KeptRun phases look d (enter_by r pins d now h)
  enter_by_kept pins f.Rat q z = rate_kept (Some (record { unit = now.unit; thousandths = now.rate })) rate_most (not_past f.Rat q refl) (ap is_rate_phase q)
  enter_by_kept pins f.Inc q z =
      rate_kept (increase r.rate now.rate) (increase_most r.rate _) (not_past f.Inc q refl) (ap is_rate_phase q)
  enter_by_kept pins f.Dec q z =
      rate_kept (decrease r.rate now.rate) (decrease_most r.rate _ g.clauses.rate_most) (not_past f.Dec q refl)
      (ap is_rate_phase q)
  enter_by_kept pins f.Stp q z = stop_kept phases look d r g.clauses None
  enter_by_kept pins (f.Jmp n) q z = jump_kept phases look d r g n z
  enter_by_kept pins (f.Lop n) q z =
      lop_kept phases look d r g n (leb-true n 99 (and_right (leb 1 n) (leb n 99) z)) (not_past (f.Lop n) q refl)
  enter_by_kept pins f.Lps q z = lps_kept phases look d r g (not_past f.Lps q refl)
  enter_by_kept pins f.Lpe q z = lpe_kept phases look d r g
  enter_by_kept pins (f.Pas n) q z =
      pause_kept phases look d r g (pause_ticks (f.Pas n)) (sym (ap pause_ticks q)) (λ y. ap is_wait q ∙ eq-eqb n 0 (omega arith))
  enter_by_kept pins (f.Tenths n) q z =
      pause_kept phases look d r g (pause_ticks (f.Tenths n)) (sym (ap pause_ticks q))
      (λ y. let lo = leb-true 1 n (and_left (leb 1 n) (leb n 99) z) in absurd (omega arith))
  enter_by_kept pins (f.If n) q z = if_kept phases look d r g pins.six n z (not_past (f.If n) q refl)
  enter_by_kept pins (f.Evn n) q z = evn_kept phases look d r g pins.four n z (not_past (f.Evn n) q refl)
  enter_by_kept pins f.Evr q z = evr_kept phases look d r g (not_past f.Evr q refl)
  enter_by_kept pins f.Bep q z = next_kept phases look d r g (not_past f.Bep q refl)
  enter_by_kept pins (f.Out level) q z = next_kept phases look d r g (not_past (f.Out level) q refl)

  pub enter_kept : (pins : Pins) → KeptRun phases look d (enter r pins d now)
  unfolding enter
  enter_kept pins = enter_by_kept pins now.function refl phase.datum_fits
