-- What a call of many ticks reports is what its single ticks report, one by one; it leads where they lead.   (02, 1/12)
--     adds_up   of every event of a history, from any state
-- Assumes nothing.
use Prim.Native.Nat.{ℕ}
use mathlib.Core.Path.{◌≡◌, refl, sym, ap, ◌∙◌, subst}
use mathlib.Core.List.{List, [], ◌∷◌}
use native.Mathlib.Nat.{add-zero}
use Rattle.pump.specs.Calls.{tick_at, ticks_call}
use Rattle.pump.specs.declared.holder.Pump.{Pump}
use Rattle.pump.specs.declared.reports.Report.{Report}
use Rattle.statement.specs.Facts.{core_of}
use Rattle.statement.specs.Histories.{Call, byte_in, pin_at, tick_in, ticks_in, report_after, after, event_of, trace, Every}
use Rattle.statement.specs.Histories.{single_ticks}
use Rattle.statement.specs.Many.{sum_of, MadeOf, AddsUp}
use Rattle.statement.specs.Outcomes as out
use Rattle.statement.specs.Outcomes.{Outcome, outcome_of, TicksDone, Does, Meets, Follows}
use Rattle.statement.proofs.Events.{events_got, trace_follows}
use Rattle.statement.proofs.Outcomes.{call_meets, in_turn_is}
use Rattle.statement.proofs.Raising.{raised_output}

-- ---- what a call of many ticks did is as many single ticks as it tells; none where it was refused
record Did (p : Pump) (buffer : List ℕ) (r : Report) : Type 0 where
  led : r.pump ≡ after p (single_ticks r.ticks buffer)
  infused : r.infused ≡ sum_of (λ x. x.infused) (trace p (single_ticks r.ticks buffer))
  withdrawn : r.withdrawn ≡ sum_of (λ x. x.withdrawn) (trace p (single_ticks r.ticks buffer))
  beeps : r.beeps ≡ sum_of (λ x. x.beeps) (trace p (single_ticks r.ticks buffer))
  ticks : r.ticks ≡ sum_of (λ x. x.ticks) (trace p (single_ticks r.ticks buffer))
  answer : r.length ≡ sum_of (λ x. x.length) (trace p (single_ticks r.ticks buffer))

done_did : (p : Pump) (n : ℕ) (buffer : List ℕ) (o : Outcome) → TicksDone p n buffer o → Did p buffer o.report
done_did p n buffer o d =
    let t = in_turn_is buffer o.report.ticks p _ _ _ _ d.sends d.in_turn in
    record {
      led = t.leads;
      infused = t.sum_infused;
      withdrawn = t.sum_withdrawn;
      beeps = t.sum_beeps;
      ticks = t.sum_ticks;
      answer = d.written.whole ∙ t.sum_length;
    }

none_did : (p : Pump) (buffer : List ℕ) (told : Report → ℕ) (k : ℕ) → 0 ≡ k → 0 ≡ sum_of told (trace p (single_ticks k buffer))
unfolding trace single_ticks sum_of
none_did p buffer told k e = ap (λ (i : ℕ). sum_of told (trace p (single_ticks i buffer))) e

none_led : (p : Pump) (buffer : List ℕ) (k : ℕ) → 0 ≡ k → p ≡ after p (single_ticks k buffer)
unfolding after single_ticks
none_led p buffer k e = ap (λ (i : ℕ). after p (single_ticks i buffer)) e

down_did : (p : Pump) (k : ℕ) (buffer : List ℕ) (o : Outcome) → out.TurnedDown p k buffer o → Did p buffer o.report
down_did p k buffer o t =
    let all : 0 ≡ o.report.ticks = sym t.no_tick_lem in
    record {
      led = t.same_state ∙ none_led p buffer o.report.ticks all;
      infused = t.none_infused ∙ none_did p buffer (λ x. x.infused) o.report.ticks all;
      withdrawn = t.none_withdrawn ∙ none_did p buffer (λ x. x.withdrawn) o.report.ticks all;
      beeps = t.no_beep ∙ none_did p buffer (λ x. x.beeps) o.report.ticks all;
      ticks = t.no_tick_lem ∙ none_did p buffer (λ x. x.ticks) o.report.ticks all;
      answer = t.no_answer ∙ none_did p buffer (λ x. x.length) o.report.ticks all;
    }

ticks_did : (p : Pump) (n : ℕ) (buffer : List ℕ) → Did p buffer (ticks_call p n buffer)
ticks_did p n buffer = go (call_meets p (ticks_in n buffer))
  where
    go : Meets p (ticks_in n buffer) (outcome_of p (ticks_in n buffer)) → Did p buffer (ticks_call p n buffer)
    go (out.turned_down k r t) = down_did p k buffer (outcome_of p (ticks_in n buffer)) t
    go (out.accepted f d) = done_did p n buffer (outcome_of p (ticks_in n buffer)) d

-- so it leads where its single ticks lead
pub apart_after :
    (p : Pump) (n : ℕ) (buffer : List ℕ) → after p (single_ticks (ticks_call p n buffer).ticks buffer) ≡ (ticks_call p n buffer).pump
apart_after p n buffer = sym (ticks_did p n buffer).led

-- ---- the level of a report is that of the state handed back
does_level : (p : Pump) (call : Call) (o : Outcome) → Does p call o → o.report.output ≡ (core_of o.report.pump).output
does_level p (byte_in b buffer) o d = d.still.level ∙ sym (ap (λ (q : Pump). (core_of q).output) d.still.new_state)
does_level p (pin_at pin level) o d = d.still.level ∙ sym (ap (λ (q : Pump). (core_of q).output) d.still.new_state)
does_level p (tick_in buffer) o d =
    d.level
    ∙ sym (ap (λ (q : Pump). (core_of q).output) d.new_state ∙ raised_output p (tick_at p) d.core d.sends d.raises)
does_level p (ticks_in n buffer) o d = d.level

call_level : (p : Pump) (call : Call) → (report_after p call).output ≡ (core_of (report_after p call).pump).output
call_level p call = go (call_meets p call)
  where
    go : Meets p call (outcome_of p call) → (report_after p call).output ≡ (core_of (report_after p call).pump).output
    go (out.turned_down k r t) = t.same_level ∙ sym (ap (λ (q : Pump). (core_of q).output) t.same_state)
    go (out.accepted n d) = does_level p call (outcome_of p call) d

-- ---- every event adds up: one that is no call of many ticks is made of itself
alone : (p : Pump) (call : Call) → MadeOf (event_of p call) (event_of p call ∷ [])
unfolding sum_of
alone p call =
    let r = report_after p call in
    record {
      infused = sym (add-zero r.infused);
      withdrawn = sym (add-zero r.withdrawn);
      beeps = sym (add-zero r.beeps);
      ticks = sym (add-zero r.ticks);
      answer = sym (add-zero r.length);
      follows = (refl, refl);
      got = (call_meets p call, tt);
      level = call_level p call;
    }

pub call_adds : (p : Pump) (call : Call) → AddsUp (event_of p call)
call_adds p (byte_in b buffer) = alone p (byte_in b buffer)
call_adds p (pin_at pin level) = alone p (pin_at pin level)
call_adds p (tick_in buffer) = alone p (tick_in buffer)
call_adds p (ticks_in n buffer) =
    let m = (ticks_call p n buffer).ticks in
    let d = ticks_did p n buffer in
    record {
      infused = d.infused;
      withdrawn = d.withdrawn;
      beeps = d.beeps;
      ticks = d.ticks;
      answer = d.answer;
      follows = subst (Follows p (trace p (single_ticks m buffer))) (apart_after p n buffer) (trace_follows p (single_ticks m buffer));
      got = events_got p (single_ticks m buffer);
      level = call_level p (ticks_in n buffer);
    }

pub adds_up : (p : Pump) (cs : List Call) → Every AddsUp (trace p cs)
unfolding trace
adds_up p [] = tt
adds_up p (c ∷ cs) = (call_adds p c, adds_up (report_after p c).pump cs)
