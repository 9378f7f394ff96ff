-- A history with every call of many ticks replaced by the single ticks that it did:
--     singly_single   all its calls are single
--     singly_after    it leads to the same state
--     singly_trace    its events are those of the history, taken apart
--     single_stays    events of single calls, taken apart, are the same events
-- Assumes nothing.
use Prim.Native.Nat.{ℕ, zero, suc}
use mathlib.Core.Path.{◌≡◌, refl, ap, ap₂, ◌∙◌}
use mathlib.Core.List.{List, [], ◌∷◌, ◌++◌}
use Rattle.pump.specs.declared.holder.Pump.{Pump}
use Rattle.statement.specs.Histories.{Call, byte_in, pin_at, tick_in, ticks_in, report_after, after, Event, event_of, trace, Every}
use Rattle.statement.specs.Histories.{single_ticks, apart, tick_by_tick}
use Rattle.statement.proofs.Joining.{after_both, trace_both, every_both}
use Rattle.statement.proofs.Many.{apart_after}

abbrev pub Single : Call → Type 0
Single (byte_in b buffer) = Unit {0}
Single (pin_at pin level) = Unit {0}
Single (tick_in buffer) = Unit {0}
Single (ticks_in n buffer) = ⊥

abbrev pub in_singles : Pump → Call → List Call
in_singles p (byte_in b buffer) = byte_in b buffer ∷ []
in_singles p (pin_at pin level) = pin_at pin level ∷ []
in_singles p (tick_in buffer) = tick_in buffer ∷ []
in_singles p (ticks_in n buffer) = single_ticks (report_after p (ticks_in n buffer)).ticks buffer

unfoldable pub singly : Pump → List Call → List Call
singly p [] = []
singly p (c ∷ cs) = in_singles p c ++ singly (report_after p c).pump cs

-- ---- one call
ticks_single : (n : ℕ) (buffer : List ℕ) → Every Single (single_ticks n buffer)
unfolding single_ticks
ticks_single zero buffer = tt
ticks_single (suc n) buffer = (tt, ticks_single n buffer)

call_single : (p : Pump) (c : Call) → Every Single (in_singles p c)
call_single p (byte_in b buffer) = (tt, tt)
call_single p (pin_at pin level) = (tt, tt)
call_single p (tick_in buffer) = (tt, tt)
call_single p (ticks_in n buffer) = ticks_single (report_after p (ticks_in n buffer)).ticks buffer

call_after : (p : Pump) (c : Call) → after p (in_singles p c) ≡ (report_after p c).pump
unfolding after
call_after p (byte_in b buffer) = refl
call_after p (pin_at pin level) = refl
call_after p (tick_in buffer) = refl
call_after p (ticks_in n buffer) = apart_after p n buffer

call_trace : (p : Pump) (c : Call) → trace p (in_singles p c) ≡ apart (event_of p c)
unfolding trace
call_trace p (byte_in b buffer) = refl
call_trace p (pin_at pin level) = refl
call_trace p (tick_in buffer) = refl
call_trace p (ticks_in n buffer) = refl

-- ---- any calls
pub singly_single : (p : Pump) (cs : List Call) → Every Single (singly p cs)
unfolding singly
singly_single p [] = tt
singly_single p (c ∷ cs) =
    let next = singly (report_after p c).pump cs in
    every_both Single (in_singles p c) next (call_single p c) (singly_single (report_after p c).pump cs)

pub singly_after : (p : Pump) (cs : List Call) → after p (singly p cs) ≡ after p cs
unfolding singly after
singly_after p [] = refl
singly_after p (c ∷ cs) =
    let next = singly (report_after p c).pump cs in
    after_both p (in_singles p c) next
    ∙ ap (λ (q : Pump). after q next) (call_after p c)
    ∙ singly_after (report_after p c).pump cs

pub singly_trace : (p : Pump) (cs : List Call) → trace p (singly p cs) ≡ tick_by_tick (trace p cs)
unfolding singly trace tick_by_tick
singly_trace p [] = refl
singly_trace p (c ∷ cs) =
    let next = singly (report_after p c).pump cs in
    trace_both p (in_singles p c) next
    ∙ ap₂ (λ (es : List Event) (q : Pump). es ++ trace q next) (call_trace p c) (call_after p c)
    ∙ ap (λ (es : List Event). apart (event_of p c) ++ es) (singly_trace (report_after p c).pump cs)

-- ---- single calls
single_apart : (p : Pump) (c : Call) → Single c → apart (event_of p c) ≡ (event_of p c ∷ [])
single_apart p (byte_in b buffer) h = refl
single_apart p (pin_at pin level) h = refl
single_apart p (tick_in buffer) h = refl
single_apart p (ticks_in n buffer) h = absurd h

pub single_stays : (p : Pump) (cs : List Call) → Every Single cs → tick_by_tick (trace p cs) ≡ trace p cs
unfolding trace tick_by_tick
single_stays p [] h = refl
single_stays p (c ∷ cs) h =
    let q = (report_after p c).pump in
    ap₂ (λ (a b : List Event). a ++ b) (single_apart p c h.0) (single_stays q cs h.1)
