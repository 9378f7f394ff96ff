-- The outcome of every call as a relation between the given state, the arguments, the given buffer and what comes back. The call meets
-- it, and no second outcome does (proofs/Outcomes.antt, call_meets and outcome_unique).   (01, Calls; Line and answer; 02, 1/12, 2/12)
use Rattle.std.specs.Prelude.{ℕ, suc, ◌+◌, ◌≤◌, ◌<◌, ◌≡◌, ◌⊎◌, Bool, true, false, List, [], ◌∷◌, length, get_or, take, Some, None}
use Rattle.words.specs.declared.answers.Alarm.{Alarm}
use Rattle.words.specs.declared.answers.Alarm.TheVariants.{TimeOut}
use Rattle.words.specs.declared.answers.Reply.TheVariants as reply
use Rattle.words.specs.declared.answers.Said.{Said}
use Rattle.words.specs.declared.answers.Said.TheVariants as s
use Rattle.words.specs.declared.commands.Asked.{Asked}
use Rattle.words.specs.declared.commands.Command.{Command}
use Rattle.words.specs.declared.commands.Command.TheVariants as c
use Rattle.words.specs.declared.commands.Request.TheVariants as request
use Rattle.program.specs.Cores.{with_run, reset_core}
use Rattle.program.specs.Edges.{pin_two, pin_four, pin_six}
use Rattle.program.specs.Runs.{pending, clear_alarm}
use Rattle.program.specs.Statuses.{in_hand}
use Rattle.program.specs.declared.state.Core.{Core}
use Rattle.tick.specs.declared.Moved.{Moved}
use Rattle.command.specs.Obeying.{obey}
use Rattle.command.specs.declared.obeying.Obeyed.{Obeyed}
use Rattle.line.specs.Lines.{empty_line, after_byte}
use Rattle.line.specs.Requests.{asked_in, asked_of}
use Rattle.line.specs.declared.lines.Line.{Line}
use Rattle.packet.specs.declared.receiver.Outcome.TheVariants as packet
use Rattle.link.specs.Link.{basic_link, limited_to, limit_of, is_safe, ticks_left, link_tick, link_after, cleared_link}
use Rattle.link.specs.declared.Link.{Link}
use Rattle.link.specs.declared.Taken.{Taken}
use Rattle.answer.specs.Answers.{answer_of}
use Rattle.answer.specs.declared.frame.Frame.TheVariants.{Packet}
use Rattle.pump.specs.Calls.{tick_at, saying, frame_of}
use Rattle.pump.specs.Device as device
use Rattle.pump.specs.Elapsing.{time_out}
use Rattle.pump.specs.Holder.{phase_count, phase_at, with_device, with_phases, fresh_phases, edited}
use Rattle.pump.specs.Reports.{refusal_number}
pub use Rattle.pump.specs.Reports.{Outcome}
use Rattle.pump.specs.declared.calls.Listened.{Listened}
use Rattle.pump.specs.declared.device.Told.TheVariants as told
use Rattle.pump.specs.declared.holder.Pump.{Pump}
use Rattle.statement.specs.Facts.{Sound, core_of, link_of, run_of}
use Rattle.statement.specs.Histories.{Call, byte_in, pin_at, tick_in, ticks_in, report_after, buffer_before, buffer_behind, Event}

-- what the code hands back, by its contract
abbrev pub outcome_of : Pump → Call → Outcome
outcome_of p call = record { report = report_after p call; buffer = buffer_behind p call }

-- the number that a call reports: 0 where it is accepted, else the refusal's in the table
abbrev pub number_of : Outcome → ℕ
number_of o = refusal_number o.report.refusal

-- ---- the table of refusals by their numbers, each where those before it are not given: 4 and then 1; 4, then 2, then 3; 4, then 1, then 5
abbrev pub Pin : ℕ → Type 0
Pin n = (n ≡ 2) ⊎ (n ≡ 4) ⊎ (n ≡ 6)

pub data RefusedAs (p : Pump) : Call → ℕ → Type 0 where
  short_buffer : (b : ℕ) (buffer : List ℕ) → Sound p → length buffer < 24 → RefusedAs p (byte_in b buffer) 1
  no_such_pin : (pin level : ℕ) → Sound p → (Pin pin → ⊥) → RefusedAs p (pin_at pin level) 2
  no_such_level : (pin level : ℕ) → Sound p → Pin pin → 1 < level → RefusedAs p (pin_at pin level) 3
  short_for_tick : (buffer : List ℕ) → Sound p → length buffer < 24 → RefusedAs p (tick_in buffer) 1
  short_for_ticks : (n : ℕ) (buffer : List ℕ) → Sound p → length buffer < 24 → RefusedAs p (ticks_in n buffer) 1
  too_many : (n : ℕ) (buffer : List ℕ) → Sound p → 24 ≤ length buffer → 1_000_000 < n → RefusedAs p (ticks_in n buffer) 5
  not_sound : (call : Call) → (Sound p → ⊥) → RefusedAs p call 4

-- a refusal returns the given state, reports no step, no beep and no tick, and writes nothing
pub record TurnedDown (p : Pump) (k : ℕ) (before : List ℕ) (o : Outcome) : Type 0 where
  pub number : number_of o ≡ k
  pub same_state : o.report.pump ≡ p
  pub none_infused : o.report.infused ≡ 0
  pub none_withdrawn : o.report.withdrawn ≡ 0
  pub no_beep : o.report.beeps ≡ 0
  pub no_tick_lem : o.report.ticks ≡ 0
  pub no_answer : o.report.length ≡ 0
  pub same_level : o.report.output ≡ (core_of p).output
  pub same_buffer : o.buffer ≡ before

-- ---- an accepted call that gives no step: bytes and pins
pub record Still (q : Pump) (o : Outcome) : Type 0 where
  pub taken : number_of o ≡ 0
  pub new_state : o.report.pump ≡ q
  pub none_infused : o.report.infused ≡ 0
  pub none_withdrawn : o.report.withdrawn ≡ 0
  pub no_beep : o.report.beeps ≡ 0
  pub no_tick_lem : o.report.ticks ≡ 0
  pub level : o.report.output ≡ (core_of q).output

-- nothing is written
pub record Silent (before : List ℕ) (o : Outcome) : Type 0 where
  pub no_answer : o.report.length ≡ 0
  pub same_buffer : o.buffer ≡ before

-- one whole answer is written, byte by byte, and the bytes past it stay
pub record Written (answer before : List ℕ) (o : Outcome) : Type 0 where
  pub whole : o.report.length ≡ length answer
  pub same_size : length o.buffer ≡ length before
  pub answer_bytes : (i : ℕ) → i < length answer → get_or o.buffer i 0 ≡ get_or answer i 0
  pub other_bytes : (i : ℕ) → length answer ≤ i → i < length before → get_or o.buffer i 0 ≡ get_or before i 0

-- ---- the state with another core, another line, or another link
abbrev pub pump_with_core : Pump → Core → Pump
pump_with_core p s = with_device p (device.with_core p.device s)

abbrev pub pump_with_line : Pump → Line → Pump
pump_with_line p l = with_device p (device.with_line p.device l)

abbrev pub pump_with_link : Pump → Link → Pump
pump_with_link p l = with_device p (device.with_link p.device l)

-- ---- a tick: the core does what the rules of the current phase give (`tick_at p`); then, in Safe mode, an alarm may come of it
-- the limit ends with this tick: alarm T stops the pump, whatever the tick did, and is sent; else an alarm that the tick raised is sent in
-- Safe mode; else nothing is. What core the tick leaves, and what it sends   (02, 2/12)
pub data Raises (p : Pump) (m : Moved) : Core → Said → Type 0 where
  limit_ends : ticks_left (link_of p) ≡ 1 → Raises p m (time_out m.core) (s.Alarm TimeOut)
  alarm_new :
      (a : Alarm)
      → (ticks_left (link_of p) ≡ 1 → ⊥)
      → is_safe (link_of p) ≡ true
      → pending (run_of p) ≡ None
      → pending m.core.run ≡ Some a
      → Raises p m m.core (s.Alarm a)
  alarm_old :
      (a : Alarm) → (ticks_left (link_of p) ≡ 1 → ⊥) → pending (run_of p) ≡ Some a → Raises p m m.core s.Nothing
  no_alarm : (ticks_left (link_of p) ≡ 1 → ⊥) → pending m.core.run ≡ None → Raises p m m.core s.Nothing
  not_sent : is_safe (link_of p) ≡ false → Raises p m m.core s.Nothing

-- the phases and the line stay, the link has one tick less, and what is sent is a packet
pub record TickDone (p : Pump) (before : List ℕ) (o : Outcome) : Type 0 where
  pub core : Core
  pub sends : Said
  pub raises : Raises p (tick_at p) core sends
  pub taken : number_of o ≡ 0
  pub new_state : o.report.pump ≡ pump_with_link (pump_with_core p core) (link_tick (link_of p))
  pub infused : o.report.infused ≡ (tick_at p).infused
  pub withdrawn : o.report.withdrawn ≡ (tick_at p).withdrawn
  pub one_beep : (tick_at p).beep ≡ true → o.report.beeps ≡ 1
  pub no_beep : (tick_at p).beep ≡ false → o.report.beeps ≡ 0
  pub one_tick_lem : o.report.ticks ≡ 1
  pub level : o.report.output ≡ (tick_at p).core.output
  pub written : Written (answer_of Packet 0 sends) before o

-- ---- many ticks: so many single ticks, none of them refused, each from the state that the last one left, and none behind one that sent an
-- alarm; the sums of the steps infused, the steps withdrawn and the beeps; and what the last one sent   (02, 1/12 and 2/12)
pub data InTurn (before : List ℕ) : ℕ → Pump → Pump → ℕ → ℕ → ℕ → Said → Type 0 where
  none : (p : Pump) → InTurn before 0 p p 0 0 0 s.Nothing
  more :
      (n : ℕ) (p q : Pump) (infused withdrawn beeps : ℕ) (o : Outcome)
      → InTurn before n p q infused withdrawn beeps s.Nothing
      → ((k : ℕ) → RefusedAs q (tick_in before) k → ⊥)
      → (d : TickDone q before o)
      → InTurn before (suc n) p o.report.pump (infused + o.report.infused) (withdrawn + o.report.withdrawn)
      (beeps + o.report.beeps) d.sends

-- all n are done, unless one sent an alarm: that one was the last
pub record TicksDone (p : Pump) (n : ℕ) (before : List ℕ) (o : Outcome) : Type 0 where
  pub sends : Said
  pub taken : number_of o ≡ 0
  pub in_turn :
      InTurn before o.report.ticks p o.report.pump o.report.infused o.report.withdrawn o.report.beeps sends
  pub within : o.report.ticks ≤ n
  pub all : sends ≡ s.Nothing → o.report.ticks ≡ n
  pub level : o.report.output ≡ (core_of o.report.pump).output
  pub written : Written (answer_of Packet 0 sends) before o

-- ---- a pin: its level, 0 or 1, and what its edge does
pub data Level : ℕ → Bool → Type 0 where
  low : Level 0 false
  high : Level 1 true

pub data Edge (s : Core) (is_high : Bool) : ℕ → Core → Type 0 where
  two : Edge s is_high 2 (pin_two s is_high)
  four : Edge s is_high 4 (pin_four s is_high)
  six : Edge s is_high 6 (pin_six s is_high)

pub record Levelled (p : Pump) (pin level : ℕ) (o : Outcome) : Type 0 where
  pub is_high : Bool
  pub core : Core
  pub at_level : Level level is_high
  pub edge : Edge (core_of p) is_high pin core
  pub still : Still (pump_with_core p core) o
  pub silent : Silent (buffer_before (pin_at pin level)) o

-- ---- a text that was heard, in a line or in a packet: the checks in their order. Another address is passed over; a pending alarm is
-- answered, then cleared, and all else stays; SAF is met by the link, in every state of the pump; any other command is obeyed
abbrev pub quiet : Pump → Listened
quiet q = record { pump = q; said = s.Nothing }

-- a command has the phase in hand before it, the function of the phase one number higher, and the number of phases
abbrev pub obeying : Pump → Command → Obeyed
obeying p command =
    obey (core_of p) (phase_at p.phases (in_hand (core_of p))) (phase_at p.phases (in_hand (core_of p) + 1)).function (phase_count p) command

abbrev pub carried_out : Pump → Command → Listened
carried_out p command =
    let o = obeying p command in
    let after = pump_with_link (pump_with_core p o.core) (device.link_behind o.edit (link_of p)) in
    saying (edited after (in_hand (core_of p)) o.edit) (told.Reply o.reply)

-- *RESET is a command like others; its case is told apart so that its effect is seen here: all phases as at power-up, the core too, and
-- Basic mode
pub data HearsText (p : Pump) (asked : Asked) : Listened → Type 0 where
  other_address : (asked.address ≡ 0 → ⊥) → HearsText p asked (quiet p)
  alarm_pending :
      (a : Alarm)
      → asked.address ≡ 0
      → pending (run_of p) ≡ Some a
      → HearsText p asked (saying (pump_with_core p (with_run (core_of p) (clear_alarm (run_of p)))) (told.Alarm a))
  asks_limit :
      asked.address ≡ 0
      → pending (run_of p) ≡ None
      → asked.request ≡ request.AskLimit
      → HearsText p asked (saying p (told.Reply (reply.Limit (limit_of (link_of p)))))
  sets_limit :
      (n : ℕ)
      → asked.address ≡ 0
      → pending (run_of p) ≡ None
      → asked.request ≡ request.SetLimit n
      → n ≤ 255
      → HearsText p asked (saying (pump_with_link p (limited_to n)) (told.Reply reply.Status))
  limit_too_great :
      (n : ℕ)
      → asked.address ≡ 0
      → pending (run_of p) ≡ None
      → asked.request ≡ request.SetLimit n
      → 255 < n
      → HearsText p asked (saying p (told.Reply reply.OutOfRange))
  resets :
      asked.address ≡ 0
      → pending (run_of p) ≡ None
      → asked.request ≡ request.Pump c.Reset
      → HearsText p asked
      (saying (with_phases (pump_with_link (pump_with_core p (reset_core (core_of p))) basic_link) (fresh_phases (phase_count p)))
      (told.Reply reply.Status))
  obeys :
      (command : Command)
      → asked.address ≡ 0
      → pending (run_of p) ≡ None
      → asked.request ≡ request.Pump command
      → HearsText p asked (carried_out p command)

-- ---- a byte. Basic mode: any byte but the return goes into the line; the return ends the line, which is emptied, and its text is heard.
-- Safe mode: the byte goes to the packet under way, if there is one; a wrong packet is answered `?COM`, whatever it asks, and the data of a
-- good one are heard
abbrev pub emptied : Pump → Pump
emptied p = pump_with_line p empty_line

abbrev pub taken : Pump → ℕ → Taken
taken p b = link_after (link_of p) b

pub data Hears (p : Pump) (b : ℕ) : Listened → Type 0 where
  collected :
      is_safe (link_of p) ≡ false → (b ≡ 13 → ⊥) → Hears p b (quiet (pump_with_line p (after_byte p.device.line b).line))
  line_ends :
      (l : Listened) → is_safe (link_of p) ≡ false → b ≡ 13 → HearsText (emptied p) (asked_in p.device.line) l → Hears p b l
  packet_goes_on : is_safe (link_of p) ≡ true → (taken p b).outcome ≡ packet.Nothing → Hears p b (quiet (pump_with_link p (taken p b).link))
  packet_wrong :
      is_safe (link_of p) ≡ true
      → (taken p b).outcome ≡ packet.Wrong
      → Hears p b (saying (pump_with_link p (taken p b).link) (told.Reply reply.Garbled))
  packet_good :
      (n : ℕ) (l : Listened)
      → is_safe (link_of p) ≡ true
      → (taken p b).outcome ≡ packet.Good n
      → HearsText (pump_with_link p (cleared_link (taken p b).link)) (asked_of (take n (taken p b).link.bytes)) l
      → Hears p b l

-- the answer bears our address, 0, and is framed as the mode asks in which the byte came; where nothing is said it has no byte
pub record ByteHeard (p : Pump) (b : ℕ) (before : List ℕ) (o : Outcome) : Type 0 where
  pub said : Listened
  pub hears : Hears p b said
  pub still : Still said.pump o
  pub written : Written (answer_of (frame_of p) 0 said.said) before o

-- ---- the whole
abbrev pub Does : Pump → Call → Outcome → Type 0
Does p (byte_in b buffer) o = ByteHeard p b buffer o
Does p (pin_at pin level) o = Levelled p pin level o
Does p (tick_in buffer) o = TickDone p buffer o
Does p (ticks_in n buffer) o = TicksDone p n buffer o

pub data Meets (p : Pump) (call : Call) (o : Outcome) : Type 0 where
  turned_down : (k : ℕ) → RefusedAs p call k → TurnedDown p k (buffer_before call) o → Meets p call o
  accepted : ((k : ℕ) → RefusedAs p call k → ⊥) → Does p call o → Meets p call o

-- ---- events: what an observer of a history has of a call is what its caller got, the refusal's number, the whole report and every byte of
-- the buffer; and each call is given the state that the last one handed back
abbrev pub Got : Event → Type 0
Got e = Meets e.before e.call (record { report = e.report; buffer = e.buffer })

abbrev pub Follows : Pump → List Event → Pump → Type 0
Follows p [] q = p ≡ q
Follows p (e ∷ es) q = (e.before ≡ p) × Follows e.report.pump es q
