-- A tick that works a visit: it gives the steps that the books give, and the pump and the books agree behind it.
-- Assumes nothing.
use Rattle.std.specs.Prelude.{if◌then◌else◌, is_some, Option, Some, None}
use Prim.Native.Nat.{ℕ, ◌+◌, ◌-◌, ◌*◌, ◌/◌, ◌%◌, ◌≤◌, ◌<◌, min}
use mathlib.Core.Path.{◌≡◌, refl, sym, ap, ap₂, ◌∙◌, subst}
use mathlib.Core.Logic.{◌⊎◌, inl, inr}
use mathlib.Core.Bool.{Bool, true, false, not, ◌&&◌, ◌||◌}
use mathlib.Core.List.{[]}
use native.Mathlib.Nat.{zero-div}
use native.Mathlib.Omega.{arith}
use lib.Dec.{eqb, ltb, leb}
use borrow.Author.Tests.{lt-ltb, le-ltb, eqb-true, eqb-false, eq-eqb, ne_eqb}
use Rattle.base.proofs.Choices.{false_true}
use Rattle.drive.specs.Rates.{hourly_rate}
use Rattle.drive.specs.Syringe.{step_volume, step_threshold}
use Rattle.drive.specs.declared.directions.Direction.{Direction}
use Rattle.drive.specs.declared.directions.Direction.TheVariants.{Infuse, Withdraw}
use Rattle.drive.proofs.Theorems.{usable_iff, due_four}
use Rattle.words.specs.Functions.{number}
use Rattle.words.specs.declared.answers.Alarm.TheVariants.{Program}
use Rattle.words.specs.declared.functions.Function.TheVariants as f
use Rattle.words.specs.declared.phases.Phase.{Phase}
use Rattle.loops.specs.Loops.{opened}
use Rattle.loops.specs.declared.Loops.{Loops}
use Rattle.dispense.specs.Ledgers.{most_total, total_of, book}
use Rattle.dispense.specs.Visits.{due_of, store_of, steps_of, given_of, worked_of, is_done}
use Rattle.dispense.specs.declared.ledgers.Ledger.{Ledger}
use Rattle.dispense.specs.declared.rates.Rate.{Rate}
use Rattle.dispense.specs.declared.visits.Visit as stored
use Rattle.program.specs.Cores.{with_run, with_ledger}
use Rattle.program.specs.Runs.{raise, doing, go_on}
use Rattle.program.specs.declared.state.Mode.{Mode}
use Rattle.program.specs.declared.state.Mode.TheVariants.{Running}
use Rattle.program.specs.declared.state.Run.{Run}
use Rattle.program.specs.declared.state.Work.{Work}
use Rattle.program.specs.declared.state.Work.TheVariants.{Entering, Visiting}
use Rattle.tick.specs.Ticks.{worked, work_by}
use Rattle.tick.specs.Working.{dose_of, after_visit, give_steps, work_at, work_visit}
use Rattle.tick.specs.declared.Moved.{Moved}
use Rattle.tick.specs.declared.working.Given.{Given}
use Rattle.soundness.proofs.Runs.{by_test}
use Rattle.pump.specs.Holder.{here_of}
use Rattle.pump.specs.declared.holder.Pump.{Pump}
use Rattle.statement.specs.Facts.{VisitFacts, Usable, core_of, run_of, under_way}
use Rattle.statement.specs.Histories.{Whole, Event, Every, tick_in}
use Rattle.statement.specs.Outcomes.{pump_with_core}
use Rattle.statement.proofs.Soundness.{sound_facts}
use Rattle.condition3.specs.Books as books
use Rattle.condition3.specs.Books.{Books, Visit, Doing, nothing, visiting, view_of, moves, Deed, other, works, deed_by, deed, due}
use Rattle.condition3.specs.Books.{is_full}
use Rattle.condition3.specs.Books.{is_whole, all_visits, of_way, ruled_by, told, hourly, later}
use Rattle.condition3.specs.Condition.{Fits, In}
use Rattle.condition3.specs.Stored.{SameVisit, SameWork}
use Rattle.condition3.proofs.Noting.{Kept, Beside, makes_gone, gone_stopped, some_volume}
use Rattle.condition3.proofs.Sizes.{step_same, step_some, rate_same, fits_by}
use Rattle.condition3.proofs.Ticks.{Stepped, stepped_by, moved, tick_beside, tick_drops}
use Rattle.condition3.proofs.Views.{is_stopped_in, moves_in, view_moves}

-- ---- n steps in a direction
abbrev pub towards : Direction → Direction → ℕ → ℕ
towards way d n = of_way d (of_way way n 0) (of_way way 0 n)

towards_none : (way d : Direction) (n : ℕ) → n ≡ 0 → towards way d n ≡ 0
towards_none Infuse Infuse n e = e
towards_none Infuse Withdraw n e = refl
towards_none Withdraw Infuse n e = refl
towards_none Withdraw Withdraw n e = e

-- the same in its own direction is the same in each
towards_same : (way : Direction) (n m : Direction → ℕ) → n way ≡ m way → (d : Direction) → towards way d (n d) ≡ towards way d (m d)
towards_same Infuse n m e Infuse = e
towards_same Infuse n m e Withdraw = refl
towards_same Withdraw n m e Infuse = refl
towards_same Withdraw n m e Withdraw = e

towards_both : (way : Direction) (n : ℕ) → of_way way n 0 + of_way way 0 n ≡ n
towards_both Infuse n = omega arith
towards_both Withdraw n = omega arith

booked : (l : Ledger) (way d : Direction) (n v : ℕ) → total_of (book l way (n * v)) d ≡ total_of l d + towards way d n * v
booked l Infuse Infuse n v = refl
booked l Infuse Withdraw n v = omega arith
booked l Withdraw Infuse n v = omega arith
booked l Withdraw Withdraw n v = refl

unbooked : (l : Ledger) (way d : Direction) (v : ℕ) → total_of l d ≡ total_of l d + towards way d 0 * v
unbooked l way d v = omega (arith, ap (λ n. n * v) (towards_none way d 0 refl))

module _ (p : Pump) (b : Books) (k : Kept p b) (runs : (run_of p).mode ≡ Running) (v : stored.Visit) (at : under_way p ≡ Visiting v)
    (w : Visit)
    (is : b.doing ≡ visiting w) (same : SameVisit p v w) where
  facts : VisitFacts (core_of p).syringe (here_of p) (run_of p).rate v
  facts = (sound_facts p k.whole.sound).visit v at

  step_positive : 0 < w.v
  step_positive = rw same.step (step_some (core_of p).syringe (sound_facts p k.whole.sound).ranges.diameter.0)

  -- ---- a visit with a volume has a target, a continuous one has none
  below : 0 < w.volume → w.steps < w.volume / w.v
  below h =
      let some = rw same.volume at h in
      let given = facts.given_below (some_volume (core_of p).syringe.diameter (here_of p).volume some) in
      omega (arith, given, same.count h, same.target)

  no_target : w.volume ≡ 0 → v.target ≡ 0
  no_target z = same.target ∙ ap (λ (n : ℕ). n / w.v) z ∙ zero-div w.v

  continuous : eqb v.target 0 ≡ eqb w.volume 0
  continuous = go (eqb w.volume 0) refl
    where
      go : (t : Bool) → eqb w.volume 0 ≡ t → eqb v.target 0 ≡ eqb w.volume 0
      go true e = eq-eqb v.target 0 (no_target (eqb-true w.volume 0 e)) ∙ sym e
      go false e =
          let h = eqb-false w.volume 0 e in
          ne_eqb v.target 0 (λ z. omega (arith, z, same.target, below (omega arith))) ∙ sym e

  module _ (r : Rate) (at-rate : (run_of p).rate ≡ Some r) where
    abbrev hour : ℕ
    hour = hourly_rate r.thousandths r.unit

    abbrev limit : ℕ
    limit = step_threshold (core_of p).syringe

    abbrev n : ℕ
    n = steps_of v hour limit

    abbrev next : stored.Visit
    next = worked_of v hour limit

    abbrev rate : Option Rate
    rate = (view_of p).rate

    rate_seen : rate ≡ Some r
    unfolding view_of
    rate_seen = at-rate

    hour_same : hour ≡ hourly rate
    hour_same = rate_same r ∙ ap hourly (sym rate_seen)

    limit_same : limit ≡ 3_600_000 * w.v
    unfolding step_threshold
    limit_same = ap (λ (x : ℕ). 3_600_000 * x) (step_same (core_of p).syringe ∙ sym same.step)

    -- ---- the due steps, and the store
    sum_same : v.store + hour ≡ w.store + hourly rate
    sum_same = ap₂ (λ (x y : ℕ). x + y) same.store hour_same

    due_same : due_of v hour limit ≡ (w.store + hourly rate) / (3_600_000 * w.v)
    unfolding due_of
    due_same = ap₂ (λ (x y : ℕ). x / y) sum_same limit_same

    store_same : store_of v hour limit ≡ (w.store + hourly rate) % (3_600_000 * w.v)
    unfolding store_of
    store_same = ap₂ (λ (x y : ℕ). x % y) sum_same limit_same

    steps_same : n ≡ due w rate
    unfolding steps_of
    steps_same = go (eqb w.volume 0) refl
      where
        go :
            (t : Bool)
            → eqb w.volume 0 ≡ t
            → (if eqb v.target 0 then due_of v hour limit else min (due_of v hour limit) (v.target - v.given))
            ≡ (if eqb w.volume 0
            then (w.store + hourly rate) / (3_600_000 * w.v)
            else min ((w.store + hourly rate) / (3_600_000 * w.v)) (w.volume / w.v - w.steps))
        go true e = rw (continuous, e) due_same
        go false e =
            let some : 0 < w.volume = let h = eqb-false w.volume 0 e in omega arith in
            rw (continuous, e) (ap₂ min due_same (ap₂ (λ (x y : ℕ). x - y) same.target (same.count some)))

    -- ---- the limit of the total
    abbrev way : Direction
    way = (here_of p).direction

    abbrev there : Bool
    there = leb (total_of (core_of p).ledger way + dose_of (core_of p).syringe v hour) most_total

    full_same : is_full (b.given way) w rate ≡ not there
    unfolding dose_of
    full_same =
        ap (λ (x : ℕ). not (leb x most_total))
        (ap₂ (λ (x y : ℕ). x + y) (sym (k.totals way))
        (ap₂ (λ (x y : ℕ). x * y) (sym steps_same) (same.step ∙ sym (step_same (core_of p).syringe))))

    -- ---- the visit after it
    after : ℕ → Visit
    after m = books.worked_on w rate m

    steps_left : 0 < w.volume → w.steps + n ≤ w.volume / w.v
    steps_left h =
        let some : eqb w.volume 0 ≡ false = ne_eqb w.volume 0 (λ z. omega arith) in
        let least : n ≤ w.volume / w.v - w.steps = within some in
        omega (arith, below h)
      where
        within : eqb w.volume 0 ≡ false → n ≤ w.volume / w.v - w.steps
        within e = rw (steps_same, e) (omega arith)

    after_fits : (m : ℕ) → m ≤ n → Fits (after m)
    unfolding after
    after_fits m h = fits_by (after m) step_positive (λ some. omega (arith, steps_left some))

    done_same : is_whole (visiting (after n)) ≡ is_done next
    unfolding after is_done worked_of given_of
    done_same = go (eqb w.volume 0) refl
      where
        go :
            (t : Bool)
            → eqb w.volume 0 ≡ t
            → (ltb 0 w.volume && leb (w.volume / w.v) (w.steps + n))
            ≡ (ltb 0 v.target && leb v.target (if eqb v.target 0 then v.given else v.given + n))
        go true e =
            let z = eqb-true w.volume 0 e in
            rw (le-ltb 0 w.volume (omega arith), le-ltb 0 v.target (omega (arith, no_target z)))
        go false e =
            let some : 0 < w.volume = let h = eqb-false w.volume 0 e in omega arith in
            let target : 0 < v.target = omega (arith, same.target, below some) in
            rw (lt-ltb 0 w.volume some, lt-ltb 0 v.target target, continuous, e)
            (ap₂ leb (sym same.target) (ap (λ (x : ℕ). x + n) (sym (same.count some))))

    -- ---- what is seen, before it and behind it
    pumps : number (here_of p).function ≤ 2
    pumps = go facts.in_rate_phase
      where
        go : ((here_of p).function ≡ f.Rat) ⊎ ((here_of p).function ≡ f.Inc) ⊎ ((here_of p).function ≡ f.Dec) → number (here_of p).function ≤ 2
        go (inl e) = omega (arith, ap number e)
        go (inr (inl e)) = omega (arith, ap number e)
        go (inr (inr e)) = omega (arith, ap number e)

    in_place :
        (q : Pump)
        → moves (view_of q) ≡ true
        → (run_of q).place.current ≡ (run_of p).place.current
        → here_of q ≡ here_of p
        → In w (view_of q)
    unfolding view_of
    in_place q moving place here =
        record {
          runs = moving;
          its_phase = place ∙ sym same.phase;
          pumps = rw here pumps;
          its_direction = λ h. ap (λ (x : Phase). x.direction) here ∙ same.direction h;
        }

    moving : moves (view_of p) ≡ true
    moving = view_moves p ∙ rw (runs, at) refl

    -- ---- so many steps, in the phase's direction
    module _ (run : Run) (ledger : Ledger) (m : ℕ) where
      abbrev given : Moved
      given = record { core = with_ledger (with_run (core_of p) run) ledger; infused = of_way way m 0; withdrawn = of_way way 0 m; beep = false }

      abbrev event : Event
      event = moved p given

      abbrev q : Pump
      q = pump_with_core p given.core

      working : deed b event ≡ works w (view_of p)
      working =
          ap (λ (x : Doing). deed_by x (view_of p) (tick_in [])) is
          ∙ ap (λ (t : Bool). if◌then◌else◌ {A = Deed} t (works w (view_of p)) other) moving

      drops_by : books.drops b event ≡ is_stopped_in run.mode
      drops_by = tick_drops b p given (works w (view_of p)) false working refl

      -- the visit in the books
      abbrev now : Doing
      now = books.doing_by b.doing event (works w (view_of p))

      now_is : now ≡ visiting (after m)
      unfolding after
      now_is = ap (λ (x : ℕ). visiting (books.worked_on w rate x)) (towards_both way m)

      fits_now : m ≤ n → Every Fits (all_visits now b.past)
      fits_now h =
          let old : Fits w × Every Fits b.past = subst (λ (x : Doing). Every Fits (all_visits x b.past)) is k.fits in
          subst (λ (x : Doing). Every Fits (all_visits x b.past)) (sym now_is) (after_fits m h, old.1)

      beside :
          ((d : Direction) → total_of ledger d ≡ total_of (core_of p).ledger d + towards way d m * step_volume (core_of p).syringe)
          → Beside b event q
      beside more = tick_beside b p given k refl more

      ruled :
          m ≡ (if is_full (b.given way) w rate then 0 else due w rate)
          → (d : Direction)
          → told d event ≡ ruled_by d (b.given d) (works w (view_of p))
      unfolding view_of
      ruled e d =
          towards_same way (λ (_ : Direction). m)
          (λ (x : Direction). if is_full (b.given x) w (view_of p).rate then 0 else due w (view_of p).rate) e d

      few : m ≤ 4 → told Infuse event + told Withdraw event ≤ 4
      few h = omega (arith, towards_both way m)

    -- ---- at most four are due
    four : n ≤ 4
    unfolding steps_of due_of
    four =
        by_test (λ (x : ℕ). x ≤ 4) (eqb v.target 0) (λ _. most) (λ _. omega (arith, most))
      where
        usable : Usable (core_of p).syringe (Some r)
        usable = subst (Usable (core_of p).syringe) at-rate facts.usable

        most : (v.store + hour) / limit ≤ 4
        most =
            due_four (core_of p).syringe r.thousandths v.store r.unit (sound_facts p k.whole.sound).ranges.diameter.0
            ((usable_iff (core_of p).syringe r.thousandths r.unit).1 usable)
            facts.store_below

    way_seen : (view_of p).phase.direction ≡ way
    unfolding view_of
    way_seen = refl

    -- ---- the total would pass its limit: no step, and alarm E
    abbrev Works : Given → Type 0
    Works g =
        Whole (pump_with_core p (with_ledger (with_run (core_of p) g.run) g.ledger)) → Stepped b (event g.run g.ledger g.steps)

    full : there ≡ false → Works (record { run = raise (run_of p) Program; ledger = (core_of p).ledger; steps = 0 })
    full e wq =
        let stop = raise (run_of p) Program in
        let l = (core_of p).ledger in
        let none = full_same ∙ ap not e in
        stepped_by b (event stop l 0) (works w (view_of p)) true refl (working stop l 0) (drops_by stop l 0) wq
        (makes_gone b (event stop l 0) (q stop l 0) (beside stop l 0 (λ d. unbooked l way d (step_volume (core_of p).syringe)))
        (works w (view_of p)) (gone_stopped (q stop l 0) wq refl) (fits_now stop l 0 (omega arith)))
        (ruled stop l 0 (sym (ap (λ (t : Bool). if t then 0 else due w rate) none)))
        (in_place p moving refl refl, λ _ _ room. false_true (sym room ∙ ap (λ (d : Direction). is_full (b.given d) w rate) way_seen ∙ none))
        (few stop l 0 (omega arith))

    -- ---- the steps are given
    abbrev taken : Ledger
    taken = book (core_of p).ledger way (dose_of (core_of p).syringe v hour)

    taken_is : (d : Direction) → total_of taken d ≡ total_of (core_of p).ledger d + towards way d n * step_volume (core_of p).syringe
    unfolding dose_of
    taken_is d = booked (core_of p).ledger way d n (step_volume (core_of p).syringe)

    module _ (e : there ≡ true) where
      not_full : is_full (b.given way) w rate ≡ false
      not_full = full_same ∙ ap not e

      gives :
          (run : Run)
          → run.mode ≡ (run_of p).mode
          → SameWork (q run taken n) run.place.work (if is_whole (visiting (after n)) || false then nothing else visiting (after n))
          → run.loops ≡ (run_of p).loops
          → run.trap ≡ (run_of p).trap
          → (is_whole (visiting (after n)) ≡ false → In w (later (event run taken n)))
          → Works (record { run = run; ledger = taken; steps = n })
      gives run mode work loops trap stays wq =
          let here = beside run taken n taken_is in
          let on : is_stopped_in run.mode ≡ false = ap is_stopped_in (mode ∙ runs) in
          stepped_by b (event run taken n) (works w (view_of p)) false refl (working run taken n) (drops_by run taken n ∙ on) wq
          (record {
            work =
                subst (λ (x : Doing). SameWork (q run taken n) run.place.work (if is_whole x || false then nothing else x))
                (sym (now_is run taken n)) work;
            fits = fits_now run taken n (omega arith);
            loops = ap (λ (x : Loops). opened x) loops ∙ k.loops;
            trap = ap (is_some {T = ℕ}) trap ∙ k.trap;
            four = here.four;
            line = here.line;
            totals = here.totals;
          })
          (ruled run taken n (steps_same ∙ sym (ap (λ (t : Bool). if t then 0 else due w rate) not_full)))
          (in_place p moving refl refl, λ _ part _. stays (sym (ap is_whole (now_is run taken n)) ∙ part))
          (few run taken n four)

      ends : is_done next ≡ true → Works (record { run = go_on (run_of p); ledger = taken; steps = n })
      ends d =
          gives (go_on (run_of p)) refl
          (subst (λ (t : Bool). SameWork (q (go_on (run_of p)) taken n) Entering (if t || false then nothing else visiting (after n)))
          (sym (done_same ∙ d)) tt)
          refl refl (λ part. false_true (sym part ∙ done_same ∙ d))

      same_after : SameVisit (q (doing (run_of p) (Visiting next)) taken n) next (after n)
      unfolding after worked_of given_of
      same_after =
          record {
            phase = same.phase;
            volume = same.volume;
            step = same.step;
            direction = same.direction;
            store = store_same;
            target = same.target;
            count = counted;
          }
        where
          counted : 0 < w.volume → (if eqb v.target 0 then v.given else v.given + n) ≡ w.steps + n
          counted h =
              let some : eqb v.target 0 ≡ false = continuous ∙ ne_eqb w.volume 0 (λ z. omega arith) in
              ap (λ (t : Bool). if t then v.given else v.given + n) some ∙ ap (λ (x : ℕ). x + n) (same.count h)

      stays_on : is_done next ≡ false → Works (record { run = doing (run_of p) (Visiting next); ledger = taken; steps = n })
      stays_on d =
          let run = doing (run_of p) (Visiting next) in
          gives run refl
          (subst (λ (t : Bool). SameWork (q run taken n) (Visiting next) (if t || false then nothing else visiting (after n)))
          (sym (done_same ∙ d)) same_after)
          refl refl
          (λ _. in_place (q run taken n) (view_moves (q run taken n) ∙ ap (λ (x : Mode). moves_in x (Visiting next)) runs) refl refl)

      given_all : Works (record { run = after_visit (run_of p) next; ledger = taken; steps = n })
      unfolding after_visit
      given_all = by_test (λ (run : Run). Works (record { run = run; ledger = taken; steps = n })) (is_done next) ends stays_on

    works_on : Works (give_steps (run_of p) (core_of p).ledger (core_of p).syringe way v hour)
    unfolding give_steps
    works_on = by_test Works there given_all full

-- ---- the whole: a sound visit has a rate, and the books have the visit
worked_is :
    (p : Pump) (way : Direction) (g : Given)
    → record {
      core = with_ledger (with_run (core_of p) g.run) g.ledger;
      infused = of_way way g.steps 0;
      withdrawn = of_way way 0 g.steps;
      beep = false;
    }
    ≡ worked (core_of p) way g
worked_is p Infuse g = refl
worked_is p Withdraw g = refl

pub works_visit :
    (p : Pump) (b : Books)
    → Kept p b
    → (run_of p).mode ≡ Running
    → (v : stored.Visit)
    → under_way p ≡ Visiting v
    → Whole (pump_with_core p (work_by (core_of p) (here_of p) (Visiting v)).core)
    → Stepped b (moved p (work_by (core_of p) (here_of p) (Visiting v)))
unfolding work_visit
works_visit p b k runs v at =
    by_doing b.doing refl (subst (λ (x : Work). SameWork p x b.doing) at k.work) (run_of p).rate refl
    ((sound_facts p k.whole.sound).visit v at).usable
  where
    way : Direction
    way = (here_of p).direction

    Works : Moved → Type 0
    Works m = Whole (pump_with_core p m.core) → Stepped b (moved p m)

    by_doing :
        (x : Doing)
        → b.doing ≡ x
        → SameWork p (Visiting v) x
        → (rate : Option Rate)
        → (run_of p).rate ≡ rate
        → Usable (core_of p).syringe rate
        → Works (worked (core_of p) way (work_at (run_of p) (core_of p).ledger (core_of p).syringe way v rate))
    by_doing nothing is same _ e use-of = absurd same
    by_doing (visiting w) is same None e use-of = absurd use-of
    by_doing (visiting w) is same (Some r) e use-of =
        subst Works (worked_is p way (give_steps (run_of p) (core_of p).ledger (core_of p).syringe way v (hourly_rate r.thousandths r.unit)))
        (works_on p b k runs v at w is same r e)
