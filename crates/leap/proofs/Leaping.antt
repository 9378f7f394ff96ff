-- A leap of a visit is that many ticks one after the other.
-- Assumes nothing.
use Rattle.std.specs.Prelude.{if◌then◌else◌, Option, Some, None}
use Prim.Native.Nat.{ℕ, zero, suc, ◌+◌, ◌*◌, ◌≤◌}
use mathlib.Core.Path.{◌≡◌, refl, sym, ap, ◌∙◌, subst}
use mathlib.Core.Bool.{Bool, true, false, ◌&&◌}
use native.Mathlib.Nat.{mul-le-mul}
use native.Mathlib.Numerals.{add-one}
use native.Mathlib.Omega.{arith}
use lib.Dec.{leb}
use borrow.Author.Tests.{leb-true, le-leb}
use Rattle.drive.specs.Rates.{hourly_rate}
use Rattle.drive.specs.Syringe.{step_volume, step_threshold}
use Rattle.drive.specs.declared.directions.Direction.{Direction}
use Rattle.drive.specs.declared.directions.Direction.TheVariants.{Infuse, Withdraw}
use Rattle.words.specs.declared.phases.Phase.{Phase}
use Rattle.dispense.specs.Ledgers.{most_total, total_of, book}
use Rattle.dispense.specs.Visits.{steps_of, worked_of, is_done}
use Rattle.dispense.specs.declared.ledgers.Ledger.{Ledger}
use Rattle.dispense.specs.declared.rates.Rate.{Rate}
use Rattle.dispense.specs.declared.visits.Visit.{Visit}
use Rattle.program.specs.Cores.{with_run, with_ledger}
use Rattle.program.specs.Runs.{doing, go_on, is_operating}
use Rattle.program.specs.declared.state.Core.{Core}
use Rattle.program.specs.declared.state.Work.{Work}
use Rattle.program.specs.declared.state.Work.TheVariants.{Visiting}
use Rattle.tick.specs.Ticks.{steps, worked, tick}
use Rattle.tick.specs.Working.{AtRate, Giving, dose_of, after_visit, give_steps, work_at, work_visit}
use Rattle.tick.specs.declared.working.Given.{Given}
use Rattle.tick.proofs.Ticking.{ticks_visit}
use Rattle.leap.specs.Leaps.{Moves, no_tick, and_tick, next_tick, ticks, Leap}
use Rattle.leap.specs.Reports.{silent_for, infused_by, withdrawn_by, worked_for}
use Rattle.leap.specs.Strides.{stride_steps}
use Rattle.leap.specs.Visits.{is_short, stride_of, visit_after, stride_dose, strode, none, leap_at, leap_by, leap_visit}
use Rattle.leap.specs.declared.Leapt.{Leapt}
use Rattle.leap.specs.declared.visits.Strode.{Strode}
use Rattle.leap.proofs.Striding.{none_steps, four_a_tick}
use Rattle.leap.proofs.Visiting.{steady, short_fewer, fewer_steps, given_more, worked_on_lem, not_done, at_none}
use Rattle.leap.proofs.Resting.{leaps_none}

-- ---- what is booked and reported in a direction
book_none : (l : Ledger) (way : Direction) → book l way 0 ≡ l
book_none l Infuse = let e : l.totals.infused + 0 ≡ l.totals.infused = omega arith in
    λ i. record { totals = record { infused = e i; withdrawn = l.totals.withdrawn } }
book_none l Withdraw = let e : l.totals.withdrawn + 0 ≡ l.totals.withdrawn = omega arith in
    λ i. record { totals = record { infused = l.totals.infused; withdrawn = e i } }

book_twice : (l : Ledger) (way : Direction) (a b : ℕ) → book (book l way a) way b ≡ book l way (a + b)
book_twice l Infuse a b = let e : l.totals.infused + a + b ≡ l.totals.infused + (a + b) = omega arith in
    λ i. record { totals = record { infused = e i; withdrawn = l.totals.withdrawn } }
book_twice l Withdraw a b = let e : l.totals.withdrawn + a + b ≡ l.totals.withdrawn + (a + b) = omega arith in
    λ i. record { totals = record { infused = l.totals.infused; withdrawn = e i } }

book_total : (l : Ledger) (way : Direction) (a : ℕ) → total_of (book l way a) way ≡ total_of l way + a
book_total l Infuse a = refl
book_total l Withdraw a = refl

abbrev moving : Core → Direction → ℕ → Moves
moving s way n = record { core = s; infused = infused_by way n; withdrawn = withdrawn_by way n; beeps = 0 }

moving_none : (s : Core) (way : Direction) → moving s way 0 ≡ no_tick s
moving_none s Infuse = refl
moving_none s Withdraw = refl

moving_more : (s t : Core) (way : Direction) (a b : ℕ) → moving t way (a + b) ≡ and_tick (moving s way a) (steps t way b)
moving_more s t Infuse a b = refl
moving_more s t Withdraw a b = refl

reported_sum : (way : Direction) (n : ℕ) → infused_by way n + withdrawn_by way n ≡ n
reported_sum Infuse n = omega arith
reported_sum Withdraw n = omega arith

leap_stayed : (s : Core) (p : Phase) (n : ℕ) → Leap s p n (worked_for s p.direction (none s.run s.ledger))
leap_stayed s p n = leaps_none s p n _ (go p.direction)
  where
    go : (way : Direction) → worked_for s way (none s.run s.ledger) ≡ silent_for s 0
    go Infuse = refl
    go Withdraw = refl

-- ---- a visit
module _
    (s : Core) (p : Phase) (v : Visit) (hourly : ℕ) (gives : Giving s.run s.ledger s.syringe p.direction v hourly)
    (runs : is_operating s.run ≡ true) (f : s.run.place.work ≡ Visiting v) where
  abbrev limit : ℕ
  limit = step_threshold s.syringe

  abbrev volume : ℕ
  volume = step_volume s.syringe

  abbrev given : ℕ → ℕ
  given k = stride_steps v.store hourly limit k

  abbrev dose : ℕ → ℕ
  dose k = stride_dose s.syringe v hourly k

  abbrev visit : ℕ → Visit
  visit k = visit_after v (stride_of s.syringe v hourly k)

  -- after k ticks
  abbrev after : ℕ → Strode
  after k = strode s.run s.ledger s.syringe p.direction v hourly k

  abbrev in_visit : ℕ → Core
  in_visit k = with_ledger (with_run s (after k).run) (after k).ledger

  record Within (k : ℕ) : Type 0 where
    short : is_short v (given k) ≡ true
    total : total_of s.ledger p.direction + dose k ≤ most_total

  -- fewer ticks give fewer steps
  within_before : (k : ℕ) → Within (k + 1) → Within k
  unfolding stride_dose
  within_before k h =
      let fewer = fewer_steps v hourly limit gives.works k in
      record {
        short = short_fewer v (given k) (given (k + 1)) fewer h.short;
        total = omega (arith, h.total, mul-le-mul {n₁ = given k} {m₁ = volume} {n₂ = given (k + 1)} {m₂ = volume} fewer (omega arith));
      }

  -- what one tick more doses
  dose_more : (k : ℕ) → Within (k + 1) → dose k + dose_of s.syringe (visit k) hourly ≡ dose (k + 1)
  unfolding stride_dose dose_of
  dose_more k h =
      let d : (given k + steps_of (visit k) hourly limit) * volume ≡ given (k + 1) * volume =
      ap (λ (x : ℕ). x * volume) (given_more v hourly limit gives.works k h.short) in
      omega (arith, d)

  run_on : (k : ℕ) → Within (k + 1) → after_visit (after k).run (worked_of (visit k) hourly limit) ≡ (after (k + 1)).run
  unfolding after_visit
  run_on k h =
      ap (λ (x : Visit). if is_done x then go_on (after k).run else doing (after k).run (Visiting x))
      (worked_on_lem v hourly limit gives.works k h.short)
      ∙ rw (not_done v hourly limit gives.works (k + 1) h.short) refl

  ledger_on :
      (k : ℕ) → Within (k + 1) → book (after k).ledger p.direction (dose_of s.syringe (visit k) hourly) ≡ (after (k + 1)).ledger
  ledger_on k h = book_twice s.ledger p.direction (dose k) _ ∙ ap (book s.ledger p.direction) (dose_more k h)

  -- a working tick after k of them
  abbrev next : ℕ → Given
  next k = record { run = (after (k + 1)).run; ledger = (after (k + 1)).ledger; steps = steps_of (visit k) hourly limit }

  gives_next :
      (k : ℕ) → Within (k + 1) → next k ≡ give_steps (after k).run (after k).ledger s.syringe p.direction (visit k) hourly
  unfolding give_steps
  gives_next k h =
      let more = dose_of s.syringe (visit k) hourly in
      let fits : total_of (after k).ledger p.direction + more ≤ most_total =
      omega (arith, book_total s.ledger p.direction (dose k), dose_more k h, h.total) in
      sym
      (rw (le-leb (total_of (after k).ledger p.direction + more) most_total fits)
      (λ i. record { run = run_on k h i; ledger = ledger_on k h i; steps = steps_of (visit k) hourly limit }))

  module _ (x : Rate) (rated : s.run.rate ≡ Some x) (e : hourly ≡ hourly_rate x.thousandths x.unit) where
    works_next : (k : ℕ) → Within (k + 1) → next k ≡ work_visit (after k).run (after k).ledger s.syringe p.direction (visit k)
    unfolding work_visit
    works_next k h =
        gives_next k h
        ∙ ap (give_steps (after k).run (after k).ledger s.syringe p.direction (visit k)) e
        ∙ ap (work_at (after k).run (after k).ledger s.syringe p.direction (visit k)) (sym rated)

    visit_tick : (k : ℕ) → Within (k + 1) → worked (in_visit k) p.direction (next k) ≡ tick (in_visit k) p
    visit_tick k h = ticks_visit (in_visit k) p _ (visit k) (next k) runs refl (works_next k h) refl

    strode_on :
        (k : ℕ)
        → Within (k + 1)
        → moving (in_visit (k + 1)) p.direction (given (k + 1))
        ≡ and_tick (moving (in_visit k) p.direction (given k)) (tick (in_visit k) p)
    strode_on k h =
        ap (moving (in_visit (k + 1)) p.direction) (sym (given_more v hourly limit gives.works k h.short))
        ∙ moving_more (in_visit k) (in_visit (k + 1)) p.direction (given k) (steps_of (visit k) hourly limit)
        ∙ ap (and_tick (moving (in_visit k) p.direction (given k))) (visit_tick k h)

    strode_none : moving (in_visit 0) p.direction (given 0) ≡ no_tick s
    unfolding stride_dose
    strode_none =
        let none : given 0 ≡ 0 = none_steps v.store hourly limit (steady v hourly limit gives.works) in
        let z : given 0 * volume ≡ 0 = ap (λ (x : ℕ). x * volume) none ∙ omega arith in
        let l : (after 0).ledger ≡ s.ledger = ap (book s.ledger p.direction) z ∙ book_none s.ledger p.direction in
        let w : Visiting (visit 0) ≡ s.run.place.work = ap Visiting (at_none v hourly limit gives.works) ∙ sym f in
        let c : in_visit 0 ≡ s =
        ap (λ (x : Ledger). with_ledger (with_run s (after 0).run) x) l ∙ ap (λ (x : Work). with_run s (doing s.run x)) w in
        ap (λ (x : Core). moving x p.direction (given 0)) c ∙ ap (moving s p.direction) none ∙ moving_none s p.direction

    module _ (look : ℕ → Phase) (l : look s.run.place.current ≡ p) where
      visit_ticks : (k : ℕ) → Within k → moving (in_visit k) p.direction (given k) ≡ ticks look k s
      unfolding ticks
      visit_ticks zero h = strode_none
      visit_ticks (suc k) h =
          let here : Within (k + 1) = rw (add-one k) h in
          ap (λ (x : ℕ). moving (in_visit x) p.direction (given x)) (sym (add-one k))
          ∙ strode_on k here
          ∙ ap (λ (x : Phase). and_tick (moving (in_visit k) p.direction (given k)) (tick (in_visit k) x)) (sym l)
          ∙ ap (next_tick look) (visit_ticks k (within_before k here))

    leap_strode : (n k : ℕ) → k ≤ n → Within k → Leap s p n (worked_for s p.direction (after k))
    leap_strode n k most h =
        record {
          within = omega (arith, most);
          stays = refl;
          goes_on = refl;
          few =
              omega (
                arith,
                reported_sum p.direction (given k),
                four_a_tick v.store hourly limit (steady v hourly limit gives.works) k,
              );
          same = λ (look : ℕ → Phase) (l : look s.run.place.current ≡ p). visit_ticks look l k h;
        }

    -- tested at the end of the leap
    leap_tried :
        (n k : ℕ)
        → k ≤ n
        → Leap s p n (worked_for s p.direction (leap_at s.run s.ledger s.syringe p.direction v hourly k))
    unfolding leap_at
    leap_tried n k most = go (is_short v (given k)) (leb (total_of s.ledger p.direction + dose k) most_total) refl refl
      where
        go :
            (a b : Bool)
            → is_short v (given k) ≡ a
            → leb (total_of s.ledger p.direction + dose k) most_total ≡ b
            → Leap s p n (worked_for s p.direction (if a && b then after k else none s.run s.ledger))
        go true true g h =
            leap_strode n k most (record { short = g; total = leb-true (total_of s.ledger p.direction + dose k) most_total h })
        go true false g h = leap_stayed s p n
        go false b g h = leap_stayed s p n

pub leaps_visiting :
    (s : Core) (p : Phase) (v : Visit) (n k : ℕ) (g : Strode) (x : Leapt)
    → is_operating s.run ≡ true
    → s.run.place.work ≡ Visiting v
    → AtRate s.run s.ledger s.syringe p.direction v
    → k ≤ n
    → g ≡ leap_visit s.run s.ledger s.syringe p.direction v k
    → x ≡ worked_for s p.direction g
    → Leap s p n x
unfolding leap_visit
leaps_visiting s p v n k g x runs f rated most e q =
    subst (Leap s p n) (sym (q ∙ ap (worked_for s p.direction) e)) (go s.run.rate refl)
  where
    go :
        (rate : Option Rate)
        → s.run.rate ≡ rate
        → Leap s p n (worked_for s p.direction (leap_by s.run s.ledger s.syringe p.direction v k rate))
    go None h = leap_stayed s p n
    go (Some r) h = leap_tried s p v (hourly_rate r.thousandths r.unit) (rated.gives r h) runs f r h refl n k most
