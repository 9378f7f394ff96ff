-- A tick that enters a phase, function by function: the pump and the books agree behind it.
-- Assumes nothing.
use Rattle.std.specs.Prelude.{if◌then◌else◌, is_some, Option, Some, None, is_none, IfSome}
use Prim.Native.Nat.{ℕ, ◌+◌, ◌≤◌}
use mathlib.Core.Path.{◌≡◌, refl, sym, ap, ◌∙◌, subst}
use mathlib.Core.Bool.{Bool, true, false, not, ◌&&◌, ◌||◌}
use mathlib.Core.List.{List, [], ◌∷◌, reverse}
use native.Mathlib.Omega.{arith}
use lib.Dec.{eqb, ltb, leb}
use lib.ListN.{length, length-take}
use borrow.Author.Tests.{leb-true, ne_eqb, lt-leb}
use Rattle.base.proofs.Choices.{and_false, false_true}
use Rattle.drive.specs.Syringe.{step_target}
use Rattle.words.specs.Functions.{number, datum, is_beep, pause_ticks}
use Rattle.words.specs.declared.answers.Alarm.TheVariants.{Program}
use Rattle.words.specs.declared.functions.Function.{Function}
use Rattle.words.specs.declared.functions.Function.TheVariants as f
use Rattle.loops.specs.Loops as stored
use Rattle.loops.specs.declared.Loop.{Loop}
use Rattle.loops.specs.declared.Loops.{Loops}
use Rattle.dispense.specs.Rates.{increase, decrease, is_usable_rate}
use Rattle.dispense.specs.declared.rates.Rate.{Rate}
use Rattle.dispense.specs.declared.visits.Visit as stored-visit
use Rattle.program.specs.Cores.{with_run, with_output}
use Rattle.program.specs.Runs.{with_rate, with_loops, with_trap, doing, go_on, go_to, fire, raise, stop, is_visiting}
use Rattle.program.specs.declared.state.Mode.TheVariants.{Running}
use Rattle.program.specs.declared.state.Run.{Run}
use Rattle.program.specs.declared.state.Work.{Work}
use Rattle.program.specs.declared.state.Work.TheVariants.{Entering, Visiting}
use Rattle.tick.specs.Entering.{begin_visit, enter_rate, enter_pause, begun, start_loop, pass_loop, end_loop, jump_if, arm_trap, clear_trap, enter_by, enter}
use Rattle.tick.specs.Ticks.{entered, output_after}
use Rattle.tick.specs.declared.Moved.{Moved}
use Rattle.soundness.proofs.Runs.{by_test}
use Rattle.pump.specs.Holder.{here_of}
use Rattle.pump.specs.declared.holder.Pump.{Pump}
use Rattle.statement.specs.Facts.{core_of, run_of, under_way, loops_of}
use Rattle.statement.specs.Histories.{Whole, Event, Every, tick_in}
use Rattle.statement.specs.Outcomes.{pump_with_core}
use Rattle.statement.proofs.Soundness.{sound_facts}
use Rattle.condition3.specs.Books as books
use Rattle.condition3.specs.Books.{Books, Visit, Doing, nothing, visiting, view_of, moves, Deed, other, enters, deed_by, deed}
use Rattle.condition3.specs.Books.{drops}
use Rattle.condition3.specs.Books.{stored_in, is_usable_at, new_visit, is_whole, all_visits, doing_by, made_by, later, still_open, newest_loop}
use Rattle.condition3.specs.Books.{older_loops, again, is_last}
use Rattle.condition3.specs.Condition.{Fits, Entry}
use Rattle.condition3.specs.Stored.{SameVisit, SameWork}
use Rattle.condition3.proofs.Loops as loops
use Rattle.condition3.proofs.Noting.{Kept, Gone, makes_gone, gone_stopped}
use Rattle.condition3.proofs.Ticks.{Stepped, stepped_by, moved, Silent, silent_beside, silent_ruled, silent_few, tick_drops}
use Rattle.condition3.proofs.Ticks.{none_booked, same_none}
use Rattle.condition3.proofs.Sizes.{step_some, target_same, entry_same, usable_same, fits_by}
use Rattle.condition3.proofs.Views.{is_stopped_in, view_stopped, view_moves}

module _ (p : Pump) (b : Books) (k : Kept p b) (runs : (run_of p).mode ≡ Running) (at : under_way p ≡ Entering) (out beep : Bool) where
  abbrev g : Function
  g = (here_of p).function

  -- what entering makes of the program
  abbrev pub made : Run → Moved
  made r = record { core = with_output (with_run (core_of p) r) out; infused = 0; withdrawn = 0; beep = beep }

  abbrev behind : Run → Pump
  behind r = pump_with_core p (made r).core

  abbrev event : Run → Event
  event r = moved p (made r)

  silent : (r : Run) → Whole (behind r) → Silent p (made r)
  silent r w = record { whole = w; pins = refl; ledger = refl; none_infused = refl; none_withdrawn = refl }

  -- ---- the books have no visit under way
  none_before : b.doing ≡ nothing
  none_before = none_booked p (under_way p) b.doing k.work (ap is_visiting at)

  past_fits : Every Fits b.past
  past_fits = subst (λ (x : Doing). Every Fits (all_visits x b.past)) none_before k.fits

  moving : moves (view_of p) ≡ true
  moving = view_moves p ∙ rw (runs, at) refl

  entering : (r : Run) → deed b (event r) ≡ enters (view_of p)
  entering r =
      ap (λ (x : Doing). deed_by x (view_of p) (tick_in [])) none_before
      ∙ ap (λ (t : Bool). if◌then◌else◌ {A = Deed} t (enters (view_of p)) other) moving

  number_seen : number (view_of p).phase.function ≡ number g
  unfolding view_of
  number_seen = refl

  -- the stored rate is usable, as it is seen
  abbrev seen_usable : Bool
  seen_usable = is_usable_at (view_of p).diameter (stored_in (view_of p).phase)

  abbrev stored_rate_lem : Option Rate
  stored_rate_lem = stored_in (here_of p)

  stored_seen : stored_in (view_of p).phase ≡ stored_rate_lem
  unfolding view_of
  stored_seen = refl

  rate_later : (r : Run) → (later (event r)).rate ≡ r.rate
  unfolding view_of
  rate_later r = refl

  usable_seen : seen_usable ≡ is_usable_rate (core_of p).syringe stored_rate_lem
  unfolding view_of
  usable_seen =
      usable_same (core_of p).syringe (record { unit = (here_of p).unit; thousandths = (here_of p).rate })

  -- what RAT does at a usable rate
  abbrev Sets : Run → Type 0
  Sets r = number g ≡ 0 → seen_usable ≡ true → (is_stopped_in r.mode ≡ false) × (r.rate ≡ stored_rate_lem)

  -- ---- no function but LPS, LOP and LPE turns a loop
  turns_none :
      (r : Run)
      →
      Sets r
      → (number g ≡ 5 → ⊥)
      → (number g ≡ 6 → ⊥)
      → (number g ≡ 7 → ⊥)
      → Entry (event r) (view_of p) b.loops
  turns_none r rat five six seven =
      record {
        rat =
            λ h usable.
            let it = rat (sym number_seen ∙ h) usable in (view_stopped (behind r) ∙ it.0, rate_later r ∙ it.1 ∙ sym stored_seen);
        lps = λ h. absurd (six (sym number_seen ∙ h));
        lop = λ h. absurd (five (sym number_seen ∙ h));
        lpe = λ h. absurd (seven (sym number_seen ∙ h));
      }

  -- ---- it stops the pump
  abbrev begins : Run → Doing
  begins r = doing_by b.doing (event r) (enters (view_of p))

  -- no visit begins where the function is no rate phase, or the pump is stopped
  none_begun : (r : Run) → (leb (number g) 2 && not (is_stopped_in r.mode)) ≡ false → begins r ≡ nothing
  none_begun r h =
      ap
      (λ (t : Bool). if◌then◌else◌ {A = Doing} (leb (number (view_of p).phase.function) 2 && not t) (visiting (new_visit (view_of p))) nothing)
      (view_stopped (behind r))
      ∙ ap
      (λ (n : ℕ). if◌then◌else◌ {A = Doing} (leb n 2 && not (is_stopped_in r.mode)) (visiting (new_visit (view_of p))) nothing) number_seen
      ∙ ap (λ (t : Bool). if◌then◌else◌ {A = Doing} t (visiting (new_visit (view_of p))) nothing) h

  none_fits : (r : Run) → begins r ≡ nothing → Every Fits (all_visits (begins r) b.past)
  none_fits r h = subst (λ (x : Doing). Every Fits (all_visits x b.past)) (sym h) past_fits

  dropped_by : (r : Run) (x : Bool) → (eqb (number g) 11 && not b.four) ≡ x → drops b (event r) ≡ (x || is_stopped_in r.mode)
  dropped_by r x h =
      tick_drops b p (made r) (enters (view_of p)) x (entering r) (ap (λ (n : ℕ). eqb n 11 && not b.four) number_seen ∙ h)

  -- all is dropped
  pub drops_all :
      (r : Run)
      → Whole (behind r)
      → Gone (behind r)
      → drops b (event r) ≡ true
      → begins r ≡ nothing
      → Entry (event r) (view_of p) b.loops
      → Stepped b (event r)
  drops_all r w gone d n turns =
      stepped_by b (event r) (enters (view_of p)) true refl (entering r) d w
      (makes_gone b (event r) (behind r) (silent_beside p b k (made r) (silent r w)) (enters (view_of p)) gone (none_fits r n))
      (silent_ruled p b k (made r) (silent r w))
      (λ _. turns)
      (silent_few p b k (made r) (silent r w))

  pub stops :
      (r : Run) → is_stopped_in r.mode ≡ true → (eqb (number g) 11) ≡ false → Entry (event r) (view_of p) b.loops → Whole
      (behind r) → Stepped b (event r)
  stops r h quiet turns w =
      drops_all r w (gone_stopped (behind r) w h)
      (dropped_by r false (ap (λ (t : Bool). t && not b.four) quiet) ∙ h)
      (none_begun r (ap (λ (t : Bool). leb (number g) 2 && not t) h ∙ and_false (leb (number g) 2)))
      turns

  -- ---- it goes on, and no visit begins
  -- what a function makes of loops and trap
  abbrev turn : Function → List Loop × Bool
  turn h = (
    if eqb (number h) 6
        then record { begun = (run_of p).place.current; passes = 0 } ∷ still_open (run_of p).place.current b.loops b.loops
        else if eqb (number h) 5
        then if is_last (datum h) b.loops then older_loops b.loops else again 1 b.loops
        else if eqb (number h) 7 then again 0 b.loops else b.loops,
    eqb (number h) 11 || not (eqb (number h) 12) && b.trap,
  )

  turned : made_by b.loops b.trap (enters (view_of p)) ≡ turn g
  unfolding view_of
  turned = refl

  module _ (h : Function) (is : g ≡ h) where
    turned_by : turn h ≡ made_by b.loops b.trap (enters (view_of p))
    turned_by = sym (turned ∙ ap turn is)

    -- LPS, LOP and LPE are 5 to 7 of the functions, RAT is 0
    low : (r : Run) → number h ≤ 4 → 1 ≤ number h → Entry (event r) (view_of p) b.loops
    low r n some =
        let z = ap number is in
        turns_none r (λ x _. absurd (omega (arith, z, x))) (λ x. omega (arith, z, x)) (λ x. omega (arith, z, x)) (λ x. omega (arith, z, x))

    high : (r : Run) → 8 ≤ number h → Entry (event r) (view_of p) b.loops
    high r n =
        let z = ap number is in
        turns_none r (λ x _. absurd (omega (arith, z, x))) (λ x. omega (arith, z, x)) (λ x. omega (arith, z, x)) (λ x. omega (arith, z, x))

    goes_on :
        (r : Run)
        → is_stopped_in r.mode ≡ false
        → (eqb (number h) 11 && not b.four) ≡ false
        → leb (number h) 2 ≡ false
        → is_visiting r.place.work ≡ false
        → stored.opened r.loops ≡ reverse (turn h).0
        → is_some r.trap ≡ (turn h).1
        → Entry (event r) (view_of p) b.loops
        → Whole (behind r)
        → Stepped b (event r)
    goes_on r on quiet plain still l t turns w =
        let beside = silent_beside p b k (made r) (silent r w) in
        let none = none_begun r
        (ap (λ (x : Function). leb (number x) 2 && not (is_stopped_in r.mode)) is ∙ ap (λ (x : Bool). x && not (is_stopped_in r.mode)) plain) in
        let fired = ap (λ (x : Function). eqb (number x) 11 && not b.four) is ∙ quiet in
        stepped_by b (event r) (enters (view_of p)) false refl (entering r) (dropped_by r false fired ∙ on) w
        (record {
          work =
              subst (λ (x : Doing). SameWork (behind r) r.place.work (if is_whole x || false then nothing else x)) (sym none)
              (same_none (behind r) r.place.work still);
          fits = none_fits r none;
          loops = l ∙ ap (λ (x : List Loop × Bool). reverse x.0) turned_by;
          trap = t ∙ ap (λ (x : List Loop × Bool). x.1) turned_by;
          four = beside.four;
          line = beside.line;
          totals = beside.totals;
        })
        (silent_ruled p b k (made r) (silent r w))
        (λ _. turns)
        (silent_few p b k (made r) (silent r w))

    -- a function that leaves loops and trap
    aside :
        (r : Run)
        → is_stopped_in r.mode ≡ false
        → eqb (number h) 11 ≡ false
        → leb (number h) 2 ≡ false
        → is_visiting r.place.work ≡ false
        → stored.opened r.loops ≡ loops_of p
        → is_some r.trap ≡ is_some (run_of p).trap
        → turn h ≡ (b.loops, b.trap)
        → Entry (event r) (view_of p) b.loops
        → Whole (behind r)
        → Stepped b (event r)
    aside r on quiet plain still l t same turns w =
        goes_on r on (ap (λ (x : Bool). x && not b.four) quiet) plain still
        (l ∙ k.loops ∙ ap (λ (x : List Loop × Bool). reverse x.0) (sym same))
        (t ∙ k.trap ∙ ap (λ (x : List Loop × Bool). x.1) (sym same))
        turns w

  going : is_stopped_in (run_of p).mode ≡ false
  going = ap is_stopped_in runs

  -- ---- entering as some function
  abbrev entered_as : Function → Run
  entered_as h = enter_by (run_of p) (core_of p).pins (core_of p).syringe (here_of p) h

  abbrev Enters : Run → Type 0
  Enters r = Whole (behind r) → Stepped b (event r)

  -- PAS, whole seconds or tenths
  pauses :
      (h : Function)
      → g ≡ h
      → number h ≤ 9
      → 8 ≤ number h
      → turn h ≡ (b.loops, b.trap)
      → (ticks : ℕ)
      → Enters (enter_pause (run_of p) ticks)
  unfolding enter_pause
  pauses h is most least same ticks w =
      let z : number g ≡ number h = ap number is in
      aside h is (enter_pause (run_of p) ticks) going (ne_eqb (number h) 11 (λ x. omega arith)) (lt-leb (number h) 2 (omega arith))
      (by_test (λ (x : Work). is_visiting x ≡ false) (eqb ticks 0) (λ _. refl) (λ _. refl))
      refl refl same (high h is (enter_pause (run_of p) ticks) least) w

  -- EVN: with pin 4 low it fires
  traps : (n : ℕ) → g ≡ f.Evn n → Enters (arm_trap (run_of p) (core_of p).pins.four n)
  unfolding arm_trap fire
  traps n is =
      by_test Enters (core_of p).pins.four
      (λ high-four w.
      goes_on (f.Evn n) is (go_on (with_trap (run_of p) _)) going (ap not (sym k.four ∙ high-four)) refl refl k.loops refl
      (high (f.Evn n) is _ (omega arith)) w)
      (λ low-four w.
      drops_all (fire (run_of p) n) w (record { work = refl; loops = refl; trap = refl })
      (dropped_by (fire (run_of p) n) true
      (ap (λ (x : Function). eqb (number x) 11 && not b.four) is ∙ ap not (sym k.four ∙ low-four)))
      (none_begun (fire (run_of p) n) (ap (λ (x : Function). leb (number x) 2 && not (is_stopped_in (run_of p).mode)) is))
      (high (f.Evn n) is _ (omega arith)))

  -- ---- LPS, LOP and LPE
  few : length (loops_of p) ≤ 3
  few = omega (arith, length-take (run_of p).loops.count (run_of p).loops.slots, (sound_facts p k.whole.sound).three_loops)

  differ : loops.Differ (loops_of p)
  differ = (sound_facts p k.whole.sound).different_phases

  running_later : (r : Run) → (later (event r)).running ≡ r.place.current
  unfolding view_of
  running_later r = refl

  running_now : (view_of p).running ≡ (run_of p).place.current
  unfolding view_of
  running_now = refl

  datum_seen : datum (view_of p).phase.function ≡ datum g
  unfolding view_of
  datum_seen = refl

  abbrev current : ℕ
  current = (run_of p).place.current

  passes : (n : ℕ) → g ≡ f.Lop n → Enters (pass_loop (run_of p) n)
  unfolding pass_loop
  passes n is w =
      goes_on (f.Lop n) is (pass_loop (run_of p) n) going refl refl refl
      (loops.lop_loops (run_of p).loops b.loops k.loops few n current)
      k.trap
      (record {
        rat = λ z _. absurd (omega (arith, ap number is, number_seen, z));
        lps = λ z. absurd (omega (arith, ap number is, number_seen, z));
        lop =
            λ _.
            running_later (pass_loop (run_of p) n)
            ∙ loops.lop_next (run_of p).loops b.loops k.loops few n current
            ∙ ap (λ (x : ℕ). (if is_last x b.loops then current else (newest_loop b.loops).begun) + 1) (sym (datum_seen ∙ ap datum is))
            ∙ ap
            (λ (x : ℕ). (if is_last (datum (view_of p).phase.function) b.loops then x else (newest_loop b.loops).begun) + 1)
            (sym running_now);
        lpe = λ z. absurd (omega (arith, ap number is, number_seen, z));
      })
      w

  returns : g ≡ f.Lpe → Enters (end_loop (run_of p))
  unfolding end_loop
  returns is w =
      goes_on f.Lpe is (end_loop (run_of p)) going refl refl refl
      (loops.lpe_loops (run_of p).loops b.loops k.loops few)
      k.trap
      (record {
        rat = λ z _. absurd (omega (arith, ap number is, number_seen, z));
        lps = λ z. absurd (omega (arith, ap number is, number_seen, z));
        lop = λ z. absurd (omega (arith, ap number is, number_seen, z));
        lpe = λ _. running_later (end_loop (run_of p)) ∙ loops.lpe_next (run_of p).loops b.loops k.loops few;
      })
      w

  starts : g ≡ f.Lps → Enters (start_loop (run_of p))
  unfolding start_loop
  starts is = go (stored.lps (run_of p).loops current) refl
    where
      full_is : is_none (stored.lps (run_of p).loops current) ≡ leb 3 (length (still_open current b.loops b.loops))
      full_is = loops.lps_full (run_of p).loops b.loops k.loops few current differ

      turning :
          (r : Run)
          → books.stops (event r) ≡ is_none (stored.lps (run_of p).loops current)
          → Entry (event r) (view_of p) b.loops
      turning r h =
          record {
            rat = λ z _. absurd (omega (arith, ap number is, number_seen, z));
            lps =
                λ _.
                h ∙ full_is ∙ ap (λ (n : ℕ). leb 3 (length (still_open n b.loops b.loops))) (sym running_now);
            lop = λ z. absurd (omega (arith, ap number is, number_seen, z));
            lpe = λ z. absurd (omega (arith, ap number is, number_seen, z));
          }

      go : (more : Option Loops) → stored.lps (run_of p).loops current ≡ more → Enters (begun (run_of p) more)
      go None e w =
          let r = raise (run_of p) Program in
          stops r refl (ap (λ (x : Function). eqb (number x) 11) is) (turning r (view_stopped (behind r) ∙ sym (ap is_none e))) w
      go (Some more) e w =
          let r = go_on (with_loops (run_of p) more) in
          goes_on f.Lps is r going refl refl refl
          (subst (λ (x : Option Loops). IfSome x (λ l. stored.opened l ≡ reverse (record { begun = current; passes = 0 } ∷ still_open current b.loops b.loops)))
          e (loops.lps_loops (run_of p).loops b.loops k.loops few current differ))
          k.trap
          (turning r (view_stopped (behind r) ∙ going ∙ sym (ap is_none e)))
          w

  -- ---- RAT, INC and DEC: a visit begins, or an unusable rate stops the pump
  module _ (h : Function) (is : g ≡ h) (pumps : leb (number h) 2 ≡ true) where
    few_number : number h ≤ 2
    few_number = leb-true (number h) 2 pumps

    unfired : (eqb (number h) 11 && not b.four) ≡ false
    unfired = ap (λ (t : Bool). t && not b.four) (ne_eqb (number h) 11 (λ z. omega (arith, few_number)))

    rate_entry :
        (r : Run)
        →
        Sets r
        → Entry (event r) (view_of p) b.loops
    rate_entry r rat =
        let z = ap number is in
        turns_none r rat (λ x. omega (arith, z, x, few_number)) (λ x. omega (arith, z, x, few_number))
        (λ x. omega (arith, z, x, few_number))

    first : Visit
    first = new_visit (view_of p)

    begins_one : (r : Run) → is_stopped_in r.mode ≡ false → begins r ≡ visiting first
    unfolding first
    begins_one r on =
        ap
        (λ (t : Bool). if◌then◌else◌ {A = Doing} (leb (number (view_of p).phase.function) 2 && not t) (visiting (new_visit (view_of p))) nothing)
        (view_stopped (behind r) ∙ on)
        ∙ ap (λ (n : ℕ). if◌then◌else◌ {A = Doing} (leb n 2 && true) (visiting (new_visit (view_of p))) nothing) (number_seen ∙ ap number is)
        ∙ ap (λ (t : Bool). if◌then◌else◌ {A = Doing} (t && true) (visiting (new_visit (view_of p))) nothing) pumps

    first_fits : Fits first
    unfolding first view_of
    first_fits =
        fits_by first (step_some (core_of p).syringe (sound_facts p k.whole.sound).ranges.diameter.0) (λ _. omega arith)

    first_whole : is_whole (visiting first) ≡ (ltb 0 (here_of p).volume && eqb (step_target (core_of p).syringe (here_of p).volume) 0)
    unfolding first view_of
    first_whole = entry_same (core_of p).syringe (here_of p).volume

    begins_by :
        (r : Run)
        → is_stopped_in r.mode ≡ false
        → SameWork (behind r) r.place.work (if is_whole (visiting first) || false then nothing else visiting first)
        → r.loops ≡ (run_of p).loops
        → r.trap ≡ (run_of p).trap
        → (number h ≡ 0 → r.rate ≡ stored_rate_lem)
        → Whole (behind r)
        → Stepped b (event r)
    begins_by r on same l t sets w =
        let beside = silent_beside p b k (made r) (silent r w) in
        let one = begins_one r on in
        let left : turn h ≡ (b.loops, b.trap) = rate_turn in
        stepped_by b (event r) (enters (view_of p)) false refl (entering r)
        (dropped_by r false (ap (λ (x : Function). eqb (number x) 11 && not b.four) is ∙ unfired) ∙ on) w
        (record {
          work = subst (λ (x : Doing). SameWork (behind r) r.place.work (if is_whole x || false then nothing else x)) (sym one) same;
          fits = subst (λ (x : Doing). Every Fits (all_visits x b.past)) (sym one) (first_fits, past_fits);
          loops =
              ap stored.opened l ∙ k.loops ∙ ap (λ (x : List Loop × Bool). reverse x.0) (sym left ∙ turned_by h is);
          trap = ap (is_some {T = ℕ}) t ∙ k.trap ∙ ap (λ (x : List Loop × Bool). x.1) (sym left ∙ turned_by h is);
          four = beside.four;
          line = beside.line;
          totals = beside.totals;
        })
        (silent_ruled p b k (made r) (silent r w))
        (λ _. rate_entry r (λ z _. (on, sets (sym (ap number is) ∙ z))))
        (silent_few p b k (made r) (silent r w))
      where
        rate_turn : turn h ≡ (b.loops, b.trap)
        rate_turn =
            rw (
              ne_eqb (number h) 6 (λ z. omega (arith, few_number)),
              ne_eqb (number h) 5 (λ z. omega (arith, few_number)),
              ne_eqb (number h) 7 (λ z. omega (arith, few_number)),
              ne_eqb (number h) 11 (λ z. omega (arith, few_number)),
              ne_eqb (number h) 12 (λ z. omega (arith, few_number)),
            )

    -- the visit that is entered, in both
    abbrev fresh : stored-visit.Visit
    fresh = record { given = 0; target = step_target (core_of p).syringe (here_of p).volume; store = 0 }

    same : (rate : Option Rate) → SameVisit (behind (doing (with_rate (run_of p) rate) (Visiting fresh))) fresh first
    unfolding first view_of
    same rate =
        record {
          phase = refl;
          volume = refl;
          step = refl;
          direction = λ _. refl;
          store = refl;
          target = target_same (core_of p).syringe (here_of p).volume;
          count = λ _. refl;
        }

    opens : (rate : Option Rate) → (number h ≡ 0 → rate ≡ stored_rate_lem) → Enters (begin_visit (with_rate (run_of p) rate) (core_of p).syringe (here_of p))
    unfolding begin_visit
    opens rate sets =
        let small = ltb 0 (here_of p).volume && eqb (step_target (core_of p).syringe (here_of p).volume) 0 in
        by_test Enters small
        (λ e w.
        let r = go_on (with_rate (run_of p) rate) in
        begins_by r going
        (subst (λ (t : Bool). SameWork (behind r) Entering (if t || false then nothing else visiting first)) (sym (first_whole ∙ e)) tt)
        refl refl sets w)
        (λ e w.
        let r = doing (with_rate (run_of p) rate) (Visiting fresh) in
        begins_by r going
        (subst (λ (t : Bool). SameWork (behind r) (Visiting fresh) (if t || false then nothing else visiting first)) (sym (first_whole ∙ e)) (same rate))
        refl refl sets w)

    rates :
        (rate : Option Rate)
        → (number h ≡ 0 → rate ≡ stored_rate_lem)
        → Enters (enter_rate (run_of p) (core_of p).syringe (here_of p) rate)
    unfolding enter_rate
    rates rate sets =
        by_test Enters (is_usable_rate (core_of p).syringe rate) (λ _. opens rate sets)
        (λ bad w.
        let r = raise (run_of p) Program in
        stops r refl (ap (λ (x : Function). eqb (number x) 11) is ∙ ne_eqb (number h) 11 (λ z. omega (arith, few_number)))
        (rate_entry r
        (λ z usable.
        let same-rate = ap (is_usable_rate (core_of p).syringe) (sets (sym (ap number is) ∙ z)) in
        false_true (sym (usable_seen ∙ sym same-rate ∙ bad) ∙ usable)))
        w)

  -- ---- any function
  enters_as : (h : Function) → g ≡ h → Enters (entered_as h)
  unfolding jump_if clear_trap
  enters_as f.Rat is = rates f.Rat is refl (stored_in (here_of p)) (λ _. refl)
  enters_as f.Inc is = rates f.Inc is refl (increase (run_of p).rate (here_of p).rate) (λ z. absurd (omega (arith, z)))
  enters_as f.Dec is = rates f.Dec is refl (decrease (run_of p).rate (here_of p).rate) (λ z. absurd (omega (arith, z)))
  enters_as f.Stp is =
      stops (stop (run_of p)) refl (ap (λ (x : Function). eqb (number x) 11) is) (low f.Stp is (stop (run_of p)) (omega arith) (omega arith))
  enters_as (f.Jmp n) is =
      aside (f.Jmp n) is (go_to (run_of p) n) going refl refl refl refl refl refl (low (f.Jmp n) is _ (omega arith) (omega arith))
  enters_as (f.Lop n) is = passes n is
  enters_as f.Lps is = starts is
  enters_as f.Lpe is = returns is
  enters_as (f.Pas n) is = pauses (f.Pas n) is (omega arith) (omega arith) refl (pause_ticks (f.Pas n))
  enters_as (f.Tenths n) is = pauses (f.Tenths n) is (omega arith) (omega arith) refl (pause_ticks (f.Tenths n))
  enters_as (f.If n) is =
      by_test Enters (core_of p).pins.six
      (λ _. aside (f.If n) is (go_on (run_of p)) going refl refl refl refl refl refl (high (f.If n) is _ (omega arith)))
      (λ _. aside (f.If n) is (go_to (run_of p) n) going refl refl refl refl refl refl (high (f.If n) is _ (omega arith)))
  enters_as (f.Evn n) is = traps n is
  enters_as f.Evr is =
      goes_on f.Evr is (clear_trap (run_of p)) going refl refl refl k.loops refl (high f.Evr is _ (omega arith))
  enters_as f.Bep is = aside f.Bep is (go_on (run_of p)) going refl refl refl refl refl refl (high f.Bep is _ (omega arith))
  enters_as (f.Out n) is = aside (f.Out n) is (go_on (run_of p)) going refl refl refl refl refl refl (high (f.Out n) is _ (omega arith))

pub enters_phase_lem :
    (p : Pump) (b : Books)
    → Kept p b
    → (run_of p).mode ≡ Running
    → under_way p ≡ Entering
    → Whole (pump_with_core p (entered (core_of p) (here_of p)).core)
    → Stepped b (moved p (entered (core_of p) (here_of p)))
unfolding entered enter
enters_phase_lem p b k runs at =
    enters_as p b k runs at (output_after (here_of p).function (core_of p).output) (is_beep (here_of p).function) (here_of p).function refl
