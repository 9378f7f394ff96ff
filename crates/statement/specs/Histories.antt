-- Histories of calls: what one call reports, the state after many, the events of a history, one for each call or one for each tick, and the
-- states that a history can reach.   (01, Calls; 02, 1/12 and 2/12)
use Rattle.std.specs.Prelude.{ℕ, zero, suc, ◌≤◌, ◌≡◌, true, List, [], ◌∷◌, ◌++◌, length}
use Rattle.pump.specs.Calls.{tick_call, tick_buffer, ticks_call, ticks_buffer, pin_call, byte_report, byte_buffer}
use Rattle.pump.specs.Holder.{phase_count, is_sound_pump}
use Rattle.pump.specs.declared.holder.Pump.{Pump}
use Rattle.pump.specs.declared.reports.Report.{Report}

-- the calls on a state: a byte, a tick and many ticks in one call, each with the buffer handed in for an answer; a pin with its level
pub data Call : Type 0 where
  byte_in : ℕ → List ℕ → Call
  pin_at : ℕ → ℕ → Call
  tick_in : List ℕ → Call
  ticks_in : ℕ → List ℕ → Call

-- what a call hands back: the new state, the steps, the beeps, the ticks done, the length of the answer and the refusal
abbrev pub report_after : Pump → Call → Report
report_after p (byte_in b buffer) = byte_report p b buffer
report_after p (pin_at pin level) = pin_call p pin level
report_after p (tick_in buffer) = tick_call p buffer
report_after p (ticks_in n buffer) = ticks_call p n buffer

-- the buffer handed in with a call; a pin has none
abbrev pub buffer_before : Call → List ℕ
buffer_before (byte_in b buffer) = buffer
buffer_before (pin_at pin level) = []
buffer_before (tick_in buffer) = buffer
buffer_before (ticks_in n buffer) = buffer

-- the buffer when the call is over
abbrev pub buffer_behind : Pump → Call → List ℕ
buffer_behind p (byte_in b buffer) = byte_buffer p b buffer
buffer_behind p (pin_at pin level) = []
buffer_behind p (tick_in buffer) = tick_buffer p buffer
buffer_behind p (ticks_in n buffer) = ticks_buffer p n buffer

-- the state after a list of calls, the first one first, each given the state that the last one handed back
unfoldable pub after : Pump → List Call → Pump
after p [] = p
after p (c ∷ cs) = after (report_after p c).pump cs

-- ---- an event: a call with the state before it, what it handed back, and the buffer when it is over
pub record Event : Type 0 where
  pub before : Pump
  pub call : Call
  pub report : Report
  pub buffer : List ℕ

abbrev pub event_of : Pump → Call → Event
event_of p c = record { before = p; call = c; report = report_after p c; buffer = buffer_behind p c }

-- the events of a list of calls, the first one first
unfoldable pub trace : Pump → List Call → List Event
trace p [] = []
trace p (c ∷ cs) = event_of p c ∷ trace (report_after p c).pump cs

-- ---- tick by tick   (02, 1/12: "It must equal that many single ticks one after another")
-- so many single ticks, each with that buffer; shut, since a figure has more than a million of them
unfoldable pub single_ticks : ℕ → List ℕ → List Call
single_ticks zero buffer = []
single_ticks (suc n) buffer = tick_in buffer ∷ single_ticks n buffer

-- an event taken apart: a call of many ticks is the events of the single ticks that it did, from the state before it; one that was refused
-- did none. Any other call is one event
abbrev pub apart_by : Event → Call → List Event
apart_by e (byte_in b buffer) = e ∷ []
apart_by e (pin_at pin level) = e ∷ []
apart_by e (tick_in buffer) = e ∷ []
apart_by e (ticks_in n buffer) = trace e.before (single_ticks e.report.ticks buffer)

abbrev pub apart : Event → List Event
apart e = apart_by e e.call

-- every event taken apart, one behind the other
unfoldable pub tick_by_tick : List Event → List Event
tick_by_tick [] = []
tick_by_tick (e ∷ es) = apart e ++ tick_by_tick es

-- what holds of every one in a list
abbrev pub Every : {A : Type 0} → (A → Type 0) → List A → Type 0
Every P [] = Unit {0}
Every P (x ∷ xs) = P x × Every P xs

-- a model of the pump has 1 to 99 phases, as many as one or two digits can name   (01, Numbers: "Phase, count and whole second arguments
-- have one or two digits")
pub record Model (n : ℕ) : Type 0 where
  pub some : 1 ≤ n
  pub few : n ≤ 99

-- a sound state of a model, with the 40 places of its line and the 40 of its packet, as the types of the code have them
pub record Whole (p : Pump) : Type 0 where
  pub model : Model (phase_count p)
  pub places : length p.device.line.bytes ≡ 40
  pub packet_places : length p.device.link.bytes ≡ 40
  pub sound : is_sound_pump p ≡ true
