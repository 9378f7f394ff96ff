-- The events of a history are what its caller got:
--     events_got      each meets the statement of its call, so that no other report and no other buffer could have been got
--     trace_follows   each call was given the state that the last one handed back, and the last state is the one after the calls
--     trace_calls     and they are the events of these calls, in their order
-- Assumes nothing.
use mathlib.Core.Path.{◌≡◌, refl, ap}
use mathlib.Core.List.{List, [], ◌∷◌, map}
use Rattle.pump.specs.declared.holder.Pump.{Pump}
use Rattle.statement.specs.Histories.{Call, report_after, after, Event, trace, Every}
use Rattle.statement.specs.Outcomes.{Got, Follows}
use Rattle.statement.proofs.Outcomes.{call_meets}

pub events_got : (p : Pump) (cs : List Call) → Every Got (trace p cs)
unfolding trace
events_got p [] = tt
events_got p (c ∷ cs) = (call_meets p c, events_got (report_after p c).pump cs)

pub trace_follows : (p : Pump) (cs : List Call) → Follows p (trace p cs) (after p cs)
unfolding trace after
trace_follows p [] = refl
trace_follows p (c ∷ cs) = (refl, trace_follows (report_after p c).pump cs)

pub trace_calls : (p : Pump) (cs : List Call) → map (λ (e : Event). e.call) (trace p cs) ≡ cs
unfolding trace
trace_calls p [] = refl
trace_calls p (c ∷ cs) = ap (λ (t : List Call). c ∷ t) (trace_calls (report_after p c).pump cs)
