-- Wrong engines, each with a short history from power-up of which condition 3 does not hold: tests of the condition itself, which is said
-- of any pump and any events (specs/Condition.antt). Each is wrong in one thing, and the field that refuses it is named.
-- The five slips of document 01 are here, and of its four cheats the last. The other three can keep condition 3, and are not its business:
--     refusing always           condition 1, the exact table
--     answering `00S` always    condition 2, at the first query
--     leaving the state still   condition 2, at RUN and a tick
-- The last three are calls of many ticks: condition 3 is said of the single ticks, and what such a call itself hands back is the business of
-- AddsUp (specs/Many.antt of the statement), which refuses them.
-- (01, What a bidder's proof must pin; Slips we have met; 02, 1/12 and 2/12)
-- Assumes nothing.
use Rattle.std.specs.Prelude.{Option, Some}
use Prim.Native.Nat.{ℕ, ◌+◌, ◌*◌, ◌≤◌}
use Prim.Native.String.{String}
use mathlib.Core.Path.{◌≡◌, refl, sym, ap}
use mathlib.Core.Bool.{Bool}
use mathlib.Core.List.{List, [], ◌∷◌, ◌++◌}
use lib.Dec.{lit<}
use lib.ListN.{length}
use borrow.Author.Tests.{eqb-false}
use native.Mathlib.Omega.{arith}
use Rattle.base.specs.Text.{text}
use Rattle.base.proofs.Choices.{false_true}
use Rattle.drive.specs.declared.directions.Direction.{Direction}
use Rattle.drive.specs.declared.directions.Direction.TheVariants.{Infuse}
use Rattle.drive.specs.declared.rates.RateUnit.TheVariants.{Mh}
use Rattle.words.specs.declared.answers.Alarm.TheVariants.{Program}
use Rattle.loops.specs.Loops.{in_slots}
use Rattle.dispense.specs.Rates.{thousandths}
use Rattle.dispense.specs.declared.rates.Rate.{Rate}
use Rattle.program.specs.Cores.{with_run, with_ledger}
use Rattle.program.specs.Edges as edges
use Rattle.program.specs.Runs.{with_rate, with_loops, stop, raise, doing}
use Rattle.program.specs.declared.state.Run.{Run}
use Rattle.program.specs.declared.state.Work.TheVariants.{Visiting}
use Rattle.tick.specs.Entering.{pass_loop}
use Rattle.pump.specs.Calls as calls
use Rattle.pump.specs.Calls.{tick_at}
use Rattle.pump.specs.Device as device
use Rattle.pump.specs.Holder.{model_phases, fresh_pump}
use Rattle.pump.specs.Reports as reports
use Rattle.pump.specs.declared.holder.Pump.{Pump}
use Rattle.pump.specs.declared.reports.Report.{Report}
use Rattle.statement.specs.Facts.{core_of, run_of, under_way, loops_of}
use Rattle.statement.specs.Histories.{Call, byte_in, pin_at, tick_in, ticks_in, report_after, buffer_behind, after, Event, trace, single_ticks}
use Rattle.statement.specs.Many.{AddsUp}
use Rattle.statement.specs.Outcomes.{pump_with_core}
use Rattle.statement.proofs.Many.{call_adds}
use Rattle.condition3.specs.Books.{Books, step_at, blank, noted, books, deed, ruled_by, told}
use Rattle.condition3.specs.Condition.{Throughout, Goes, Condition3}
use Rattle.condition3.specs.Sending.{blank_buffer, bytes_in, lines, one_tick, ticks_of}
use Rattle.condition3.proofs.Opening.{opened}
use Rattle.condition3.proofs.Stops.{silent_tick}

-- ==== A wrong engine's history: from power-up calls that it answers rightly, then calls with what it reports, of the pump that it has
abbrev pub Slip : Type 0
Slip = Call × (Pump → Report)

pub record Wrong : Type 0 where
  pub rightly : List Call
  pub slips : List Slip

abbrev pub sent_to : Pump → List Slip → List Event
sent_to p [] = []
sent_to p (s ∷ ss) = record { before = p; call = s.0; report = s.1 p; buffer = buffer_behind p s.0 } ∷ sent_to (s.1 p).pump ss

abbrev pub reached : Pump → List Slip → Pump
reached p [] = p
reached p (s ∷ ss) = reached (s.1 p).pump ss

abbrev pub right : Wrong → List Event
right w = trace (fresh_pump model_phases) w.rightly

abbrev pub wrong : Wrong → List Event
wrong w = sent_to (after (fresh_pump model_phases) w.rightly) w.slips

abbrev pub Passes : Wrong → Type 0
Passes w = Condition3 (reached (after (fresh_pump model_phases) w.rightly) w.slips) (right w ++ wrong w)

-- ---- what the condition says of those last events, with the books behind the right ones
behind : (P : Books → Event → Type 0) (b : Books) (es fs : List Event) → Throughout P b (es ++ fs) → Throughout P (books b es) fs
unfolding books
behind P b [] fs h = h
behind P b (e ∷ es) fs h = behind P (noted b e) es fs h.1

abbrev Ruled : Direction → Books → Event → Type 0
Ruled d b e = told d e ≡ ruled_by d (b.given d) (deed b e)

abbrev Going : Books → Event → Type 0
Going b e = Goes b e (deed b e)

module _ (w : Wrong) (c : Passes w) where
  ruled : Throughout (Ruled Infuse) (books blank (right w)) (wrong w)
  ruled = behind (Ruled Infuse) blank (right w) (wrong w) (c.given Infuse).ruled

  goes : Throughout Going (books blank (right w)) (wrong w)
  goes = behind Going blank (right w) (wrong w) c.none_silent

-- what a tick reports, of a sound state
abbrev ticked : Pump → Report
ticked p = reports.moved_by p (tick_at p) blank_buffer

-- ---- a report with another state: in it another program under way, or another total infused
abbrev reaching : Report → Pump → Report
reaching r p =
    record {
      pump = p;
      length = r.length;
      infused = r.infused;
      withdrawn = r.withdrawn;
      beeps = r.beeps;
      ticks = r.ticks;
      refusal = r.refusal;
      output = r.output;
    }

abbrev running : Report → Run → Report
running r x = reaching r (pump_with_core r.pump (with_run (core_of r.pump) x))

abbrev booked : Report → ℕ → Report
booked r fl =
    reaching r
    (pump_with_core r.pump (with_ledger (core_of r.pump) (record { totals = record { infused = fl; withdrawn = 0 } })))

-- ---- what is sent first: for a visit, a visit under a trap, a loop begun again and again, a loop of two passes
abbrev dosing : String → List Call
dosing volume = lines ("" ∷ "RAT200MH" ∷ volume ∷ "RUN" ∷ [])

abbrev trapped : List Call
trapped = lines ("" ∷ "FUNEVN5" ∷ "PHN2" ∷ "FUNRAT" ∷ "RAT200MH" ∷ "VOL1" ∷ "RUN" ∷ [])

abbrev endless : List Call
endless = lines ("" ∷ "FUNLPS" ∷ "PHN2" ∷ "FUNJMP1" ∷ "RUN" ∷ [])

abbrev twice : List Call
twice = lines ("" ∷ "FUNLPS" ∷ "PHN2" ∷ "FUNBEP" ∷ "PHN3" ∷ "FUNLOP2" ∷ "RUN" ∷ [])

-- ==== "add the hourly rate to the store" (01, Ticks and phases): twice of it is added. At 50 MH a first working tick gives no step, and
-- here one.   Refused by `ruled`
abbrev at_mh : ℕ → Option Rate
at_mh x = Some (record { unit = Mh; thousandths = x })

abbrev twice_as_fast : Pump → Report
twice_as_fast p =
    let r : Report = ticked (pump_with_core p (with_run (core_of p) (with_rate (run_of p) (at_mh 100_000)))) in
    running r (with_rate (run_of r.pump) (at_mh 50_000))

abbrev pub pace_doubled : Wrong
pace_doubled = record { rightly = lines ("" ∷ "RAT50MH" ∷ "RUN" ∷ []) ++ ticks_of 1; slips = (one_tick, twice_as_fast) ∷ [] }

pub pace_doubled_lem : Passes pace_doubled → ⊥
unfolding opened single_ticks
pace_doubled_lem c = eqb-false 1 0 refl (ruled pace_doubled c).0

-- "current rate becomes the stored one": half of it does, and is shown by RAT and kept to.   Refused by `none_silent` (Entry)
abbrev halved : Pump → Report
halved p = let r : Report = ticked p in running r (with_rate (run_of r.pump) (at_mh 25_000))

abbrev pub rate_halved : Wrong
rate_halved = record { rightly = lines ("" ∷ "RAT50MH" ∷ "RUN" ∷ []); slips = (one_tick, halved) ∷ [] }

pub rate_halved_lem : Passes rate_halved → ⊥
unfolding opened single_ticks
rate_halved_lem c = eqb-false 25_000 50_000 refl (ap thousandths (((goes rate_halved c).0 refl).rat refl refl).1)

-- ==== "Reaching the target ends the visit" (01, Ticks and phases): it ends before. 50 steps fit in VOL 1.000, and behind the 45th the pump
-- is stopped.   Refused by `none_silent` (In)
abbrev pub stops_in_silence : Wrong
stops_in_silence = record { rightly = dosing "VOL1" ++ ticks_of 16; slips = (one_tick, λ p. running (ticked p) (stop (run_of p))) ∷ [] }

pub stops_in_silence_lem : Passes stops_in_silence → ⊥
unfolding opened single_ticks
stops_in_silence_lem c = false_true ((goes stops_in_silence c).0.1 refl refl refl).runs

-- the same at a byte that ends no line: nothing but *RESET stops a pump in I or W.   Refused by `none_silent` (Goes)
abbrev stops_at : Call → Pump → Report
stops_at call p = running (report_after p call) (stop (run_of p))

abbrev pub stops_at_aByte : Wrong
stops_at_aByte =
    let call = byte_in 65 blank_buffer in record { rightly = dosing "VOL1" ++ ticks_of 3; slips = (call, stops_at call) ∷ [] }

pub stops_at_a_byte : Passes stops_at_aByte → ⊥
unfolding opened single_ticks
stops_at_a_byte c = false_true ((goes stops_at_aByte c).0 refl refl)

-- ==== "Firing .. ends the visit" (01, Ticks and phases): it lives on, and gives three steps in phase 5, an STP phase.   Refused by `ruled`
abbrev visit_left : Pump → Report
visit_left p = let r : Report = report_after p (pin_at 4 0) in running r (doing (run_of r.pump) (under_way p))

abbrev pub visit_survives : Wrong
visit_survives = record { rightly = trapped ++ ticks_of 3; slips = (pin_at 4 0, visit_left) ∷ (one_tick, ticked) ∷ [] }

pub visit_survives_its_trap : Passes visit_survives → ⊥
unfolding opened single_ticks calls.pin_call device.edge edges.pin_four edges.spring
visit_survives_its_trap c = eqb-false 3 0 refl (ruled visit_survives c).1.0

-- ==== "running the first phase truly and merely naming the later ones" (01, What a bidder's proof must pin): the first working tick of the
-- second visit gives two steps at 200 MH, and here none.   Refused by `ruled`
abbrev pub first_visit_only : Wrong
first_visit_only =
    record {
      rightly = lines ("" ∷ "RAT200MH" ∷ "VOL0.020" ∷ "PHN2" ∷ "FUNRAT" ∷ "RAT200MH" ∷ "RUN" ∷ []) ++ ticks_of 3;
      slips = (one_tick, silent_tick) ∷ [];
    }

pub first_visit_only_lem : Passes first_visit_only → ⊥
unfolding opened single_ticks
first_visit_only_lem c = eqb-false 0 2 refl (ruled first_visit_only c).0

-- and one that stops where the second visit would begin, at a usable rate.   Refused by `none_silent` (Entry)
abbrev pub second_visit_unbegun : Wrong
second_visit_unbegun =
    record {
      rightly = lines ("" ∷ "RAT200MH" ∷ "VOL0.020" ∷ "PHN2" ∷ "FUNRAT" ∷ "RAT200MH" ∷ "RUN" ∷ []) ++ ticks_of 2;
      slips = (one_tick, stops_at one_tick) ∷ [];
    }

pub second_visit_unbegun_lem : Passes second_visit_unbegun → ⊥
unfolding opened single_ticks
second_visit_unbegun_lem c = false_true (sym (((goes second_visit_unbegun c).0 refl).rat refl refl).0)

-- ==== The slips (01, Slips we have met)
-- "Booking a phase's whole volume at entry, so a trap leaves it counted": no step was given, and 50 stand.   Refused by `total`
abbrev pub whole_volume_booked : Wrong
whole_volume_booked =
    record {
      rightly = trapped ++ ticks_of 1;
      slips = (one_tick, λ p. booked (ticked p) (50 * step_at 10_000)) ∷ (pin_at 4 0, λ p. report_after p (pin_at 4 0)) ∷ [];
    }

pub whole_volume_booked_lem : Passes whole_volume_booked → ⊥
unfolding opened single_ticks calls.pin_call device.edge edges.pin_four edges.spring
whole_volume_booked_lem c = eqb-false 981_750_000 0 refl (c.given Infuse).total

-- "Re-pricing old totals when the diameter changes": 50 steps of 10 mm, and those of 20 mm stand.   Refused by `total`
abbrev pub old_totals_repriced : Wrong
old_totals_repriced =
    record {
      rightly = dosing "VOL1" ++ ticks_of 20 ++ bytes_in (text "DIA20");
      slips = (byte_in 13 blank_buffer, λ p. booked (report_after p (byte_in 13 blank_buffer)) (50 * step_at 20_000)) ∷ [];
    }

pub old_totals_repriced_lem : Passes old_totals_repriced → ⊥
unfolding opened single_ticks
old_totals_repriced_lem c = eqb-false 3_927_000_000 981_750_000 refl (c.given Infuse).total

-- "Reading LOP n as n repeats after the first pass": the second LOP 2 returns.   Refused by `none_silent` (Entry) and by `three_loops`
abbrev pub one_repeat_more : Wrong
one_repeat_more = record { rightly = twice ++ ticks_of 4; slips = (one_tick, λ p. running (ticked p) (pass_loop (run_of p) 3)) ∷ [] }

pub one_repeat_more_lem : Passes one_repeat_more → ⊥
unfolding opened single_ticks
one_repeat_more_lem c = eqb-false 2 4 refl (((goes one_repeat_more c).0 refl).lop refl)

pub its_loop_stays : Passes one_repeat_more → ⊥
unfolding opened single_ticks
its_loop_stays c = eqb-false 1 0 refl (ap length c.three_loops.booked)

-- "Opening the same loop again after a JMP until the fourth alarm": each LPS opens one more, written as begun by phase n
abbrev opens_another : ℕ → Pump → Report
opens_another n p =
    let r : Report = ticked p in
    running r (with_loops (run_of r.pump) (in_slots (loops_of p ++ record { begun = n; passes = 0 } ∷ [])))

-- whatever n is, 1 or another: behind the second LPS two loops are stored, and one is open.   Refused by `three_loops` (booked)
abbrev pub same_loop_again : ℕ → Wrong
same_loop_again n = record { rightly = endless ++ ticks_of 2; slips = (one_tick, opens_another n) ∷ [] }

pub same_loop_again_lem : (n : ℕ) → Passes (same_loop_again n) → ⊥
unfolding opened single_ticks
same_loop_again_lem n c = eqb-false 2 1 refl (ap length c.three_loops.booked)

-- "until the fourth alarm": named as begun by phases 1, 11 and 21 they pass; the fourth LPS is alarm E.   Refused by `none_silent` (Entry)
abbrev pub loop_opened_thrice : Wrong
loop_opened_thrice =
    record {
      rightly = endless ++ ticks_of 2;
      slips =
          (one_tick, opens_another 11)
          ∷ (one_tick, ticked)
          ∷ (one_tick, opens_another 21)
          ∷ (one_tick, ticked)
          ∷ (one_tick, λ p. running (ticked p) (raise (run_of p) Program))
          ∷ [];
    }

pub loop_opened_thrice_lem : Passes loop_opened_thrice → ⊥
unfolding opened single_ticks
loop_opened_thrice_lem c = false_true (sym (((goes loop_opened_thrice c).1.1.1.1.0 refl).lps refl))

-- "Rounding the step target up": one step fits in 0.030 microlitres, and two are given.   Refused by `ruled` and by `visits_fit`
abbrev two_aimed_at : Pump → Report
two_aimed_at p = let r : Report = ticked p in running r (doing (run_of r.pump) (Visiting (record { given = 0; target = 2; store = 0 })))

abbrev pub target_rounded_up : Wrong
target_rounded_up = record { rightly = dosing "VOL0.030"; slips = (one_tick, two_aimed_at) ∷ (one_tick, ticked) ∷ [] }

pub target_rounded_up_lem : Passes target_rounded_up → ⊥
unfolding opened single_ticks
target_rounded_up_lem c = eqb-false 2 1 refl (ruled target_rounded_up c).1.0

pub two_do_not_fit : Passes target_rounded_up → ⊥
unfolding opened single_ticks
two_do_not_fit c = let more : 39_270_000 ≤ 30_000_000 = c.visits_fit.0.at_most (lit< tt) in omega arith

-- ==== Alarm T (02, 2/12): with the 1,000th tick behind SAF 1, in a visit at 200 MH, of which that tick gives three steps
abbrev limited : List Call
limited = lines ("" ∷ "RAT200MH" ∷ "RUN" ∷ "SAF1" ∷ []) ++ ticks_of 999

abbrev telling : Report → ℕ → ℕ → Report
telling r length infused =
    record {
      pump = r.pump;
      length = length;
      infused = infused;
      withdrawn = r.withdrawn;
      beeps = r.beeps;
      ticks = r.ticks;
      refusal = r.refusal;
      output = r.output;
    }

-- "that tick does its other work and then alarm T stops the pump": it is sent, and the steps are not told.   Refused by `ruled`
abbrev pub steps_lost_to_the_alarm : Wrong
steps_lost_to_the_alarm =
    record { rightly = limited; slips = (one_tick, λ p. let r : Report = ticked p in telling r r.length 0) ∷ [] }

pub steps_lost_to_the_alarm_lem : Passes steps_lost_to_the_alarm → ⊥
unfolding opened single_ticks
steps_lost_to_the_alarm_lem c = eqb-false 0 3 refl (ruled steps_lost_to_the_alarm c).0

-- "Each new alarm is sent once as a packet by the tick that raises it": it stops the pump, and is not sent.   Refused by `none_silent` (In)
abbrev pub alarm_not_sent : Wrong
alarm_not_sent = record { rightly = limited; slips = (one_tick, λ p. let r : Report = ticked p in telling r 0 r.infused) ∷ [] }

pub alarm_not_sent_lem : Passes alarm_not_sent → ⊥
unfolding opened single_ticks
alarm_not_sent_lem c = false_true ((goes alarm_not_sent c).0.1 refl refl refl).runs

-- "Refusals: 1 now also for ticks": a tick that is refused gives a step all the same.   Refused by `ruled`
abbrev pub steps_of_aRefusal : Wrong
steps_of_aRefusal =
    record { rightly = dosing "VOL1" ++ ticks_of 2; slips = (tick_in [], λ p. telling (report_after p (tick_in [])) 0 1) ∷ [] }

pub steps_of_a_refusal : Passes steps_of_aRefusal → ⊥
unfolding opened single_ticks
steps_of_a_refusal c = eqb-false 1 0 refl (ruled steps_of_aRefusal c).0

-- ==== "It must equal that many single ticks one after another" (02, 1/12): a call of many tells a step more than its ticks do, whatever
-- the state and the number.   Refused by `infused` of AddsUp
abbrev step_more : Report → Report
step_more r =
    record {
      pump = r.pump;
      length = r.length;
      infused = r.infused + 1;
      withdrawn = r.withdrawn;
      beeps = r.beeps;
      ticks = r.ticks;
      refusal = r.refusal;
      output = r.output;
    }

abbrev many : Pump → ℕ → Report → Event
many p n r = record { before = p; call = ticks_in n blank_buffer; report = r; buffer = blank_buffer }

pub one_step_more : (p : Pump) (n : ℕ) → AddsUp (many p n (step_more (report_after p (ticks_in n blank_buffer)))) → ⊥
one_step_more p n c = omega (arith, (call_adds p (ticks_in n blank_buffer)).infused, c.infused)

-- and one that tells what three ticks tell, and leaves the state of two: five steps were given, and two are booked.   Refused by `follows`
abbrev lagging : Event
lagging =
    let p : Pump = after (fresh_pump model_phases) (dosing "VOL1") in
    many p 3 (reaching (report_after p (ticks_in 3 blank_buffer)) (after p (ticks_of 2)))

pub one_tick_behind : AddsUp lagging → ⊥
unfolding opened single_ticks calls.ticks_call calls.ticks_buffer calls.in_turn reports.of_ticks
one_tick_behind c =
    eqb-false 98_175_000 39_270_000 refl (ap (λ (p : Pump). (core_of p).ledger.totals.infused) c.follows.1.1.1)

-- and one that tells the level of its first tick: BEP leaves the output low, OUT 1 behind it sets it, and two ticks leave it high.
-- Refused by `level`
abbrev levelled : Report → Bool → Report
levelled r level =
    record {
      pump = r.pump;
      length = r.length;
      infused = r.infused;
      withdrawn = r.withdrawn;
      beeps = r.beeps;
      ticks = r.ticks;
      refusal = r.refusal;
      output = level;
    }

abbrev hasty : Event
hasty =
    let p : Pump = after (fresh_pump model_phases) (lines ("" ∷ "FUNBEP" ∷ "PHN2" ∷ "FUNOUT1" ∷ "RUN" ∷ [])) in
    many p 2 (levelled (report_after p (ticks_in 2 blank_buffer)) (report_after p one_tick).output)

pub first_level_told : AddsUp hasty → ⊥
unfolding opened single_ticks calls.ticks_call calls.ticks_buffer calls.in_turn reports.of_ticks
first_level_told c = false_true c.level
