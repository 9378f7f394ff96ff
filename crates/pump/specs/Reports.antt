-- What every call hands back, and the refusals with their numbers.   (01, Calls; 02, 1/12 and 2/12)
use Rattle.std.specs.Prelude.{ℕ, Bool, ◌||◌, List, Option, None, Some, is_some, ltb, eqb, if◌then◌else◌}
use Rattle.tick.specs.declared.Moved.{Moved}
use Rattle.leap.specs.Leaps.{most_ticks, Moves}
use Rattle.answer.specs.Answers.{room, length_in, buffer_after}
use Rattle.answer.specs.declared.frame.Frame.TheVariants.{Packet}
use Rattle.pump.specs.Elapsing.{after_tick, sent, after_ticks, sent_in}
use Rattle.pump.specs.Holder.{with_device}
use Rattle.pump.specs.declared.holder.Pump.{Pump}
use Rattle.pump.specs.declared.reports.Refusal.{Refusal}
use Rattle.pump.specs.declared.reports.Refusal.TheVariants.{ShortBuffer, NoPin, NoLevel, Unsound, TooManyTicks}
use Rattle.pump.specs.declared.reports.Report.{Report}

-- each refusal's number in the table; 0 is none
abbrev pub refusal_number : Option Refusal → ℕ
refusal_number None = 0
refusal_number (Some ShortBuffer) = 1
refusal_number (Some NoPin) = 2
refusal_number (Some NoLevel) = 3
refusal_number (Some Unsound) = 4
refusal_number (Some TooManyTicks) = 5

-- ---- which refusal a call gets, whatever holds the phases
-- a pin level: 4, then 2 where the pin is not 2, 4 or 6, then 3 where the level is not 0 or 1
abbrev pub is_pin : ℕ → Bool
is_pin pin = eqb pin 2 || eqb pin 4 || eqb pin 6

unfoldable pub of_pin : Bool → ℕ → ℕ → Option Refusal
of_pin sound pin level = if sound then if is_pin pin then if ltb 1 level then Some NoLevel else None else Some NoPin else Some Unsound

-- a byte, and a tick: 4, then 1 where the buffer has under 24 bytes   (02, 2/12: "1 now also for ticks")
unfoldable pub of_byte : Bool → ℕ → Option Refusal
of_byte sound size = if sound then if ltb size room then Some ShortBuffer else None else Some Unsound

-- many ticks: 4, then 1, then 5 for more than 1,000,000   (02, 1/12 and 2/12)
unfoldable pub of_ticks : Bool → ℕ → ℕ → Option Refusal
of_ticks sound size n =
    if sound then if ltb size room then Some ShortBuffer else if ltb most_ticks n then Some TooManyTicks else None else Some Unsound

abbrev pub is_refused : Option Refusal → Bool
is_refused refusal = is_some refusal

-- ---- what a call hands back
-- the report, and the buffer when the call is over
pub record Outcome : Type 0 where
  pub report : Report
  pub buffer : List ℕ

-- no step, no beep, no tick done; an answer of that length
abbrev pub unstepped : Pump → ℕ → Option Refusal → Report
unstepped p n refusal =
    record { pump = p; length = n; infused = 0; withdrawn = 0; beeps = 0; ticks = 0; refusal = refusal; output = p.device.core.output }

-- the given state, and no answer
abbrev pub refused : Pump → Option Refusal → Report
refused p refusal = unstepped p 0 refusal

-- a call does what it does where it is not refused
abbrev pub unless_refused : Pump → Option Refusal → Report → Report
unless_refused p refusal does = if is_refused refusal then refused p refusal else does

abbrev pub reported : Pump → ℕ → Report
reported p n = unstepped p n None

-- what a tick did: what it sends is a packet, whose length is told
abbrev pub moved_by : Pump → Moved → List ℕ → Report
moved_by p m buffer =
    record {
      pump = with_device p (after_tick p.device m.core);
      length = length_in Packet 0 (sent p.device m.core) buffer;
      infused = m.infused;
      withdrawn = m.withdrawn;
      beeps = if m.beep then 1 else 0;
      ticks = 1;
      refusal = None;
      output = m.core.output;
    }

abbrev pub moved_buffer : Pump → Moved → List ℕ → List ℕ
moved_buffer p m buffer = buffer_after Packet 0 (sent p.device m.core) buffer

-- what so many ticks did, of which only the last may raise an alarm; where they were refused, none
abbrev pub gone : Pump → Moves → ℕ → Option Refusal → List ℕ → Report
gone p t n refusal buffer =
    record {
      pump = with_device p (after_ticks n p.device t.core);
      length = length_in Packet 0 (sent_in n p.device t.core) buffer;
      infused = t.infused;
      withdrawn = t.withdrawn;
      beeps = t.beeps;
      ticks = n;
      refusal = refusal;
      output = t.core.output;
    }

abbrev pub gone_buffer : Pump → Moves → ℕ → List ℕ → List ℕ
gone_buffer p t n buffer = buffer_after Packet 0 (sent_in n p.device t.core) buffer
