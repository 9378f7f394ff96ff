-- The observer's books: what a second engineer at the bench writes down, who sees each call, its report and its answer. Condition 3
-- (specs/Condition.antt) is said of them. Of the stored state he reads what a query shows, before a call and after it, and no more (View):
--     device.core.run.mode, the kind of its work     the status letter of an answer
--     device.core.syringe.diameter                   DIA
--     device.core.run.place.current, run.rate        PHN, RAT       (in I and W, as the next)
--     phases, at that place                          FUN, VOL, DIR; the stored rate RAT, asked for when the pump is not operating
--     device.link, the time limit                    SAF            (0 in Basic mode)
-- What no query shows he keeps himself, by the document's sentences, said a second time: an engine wrong in definition and code is caught.
use Rattle.std.specs.Prelude.{if◌then◌else◌, ℕ, ◌+◌, ◌-◌, ◌*◌, ◌/◌, ◌%◌, min, Bool, true, false, not, ◌&&◌, ◌||◌, leb, ltb, eqb, List, [], ◌∷◌, ◌++◌, length, take, Option, Some, None}
use Rattle.condition3.specs.Terms.{letter, text, leads, is_text, Direction, Infuse, Withdraw}
use Rattle.condition3.specs.Terms.{RateUnit, Um, Mm, Uh, Mh, Rate, Phase, number, datum, Loop, Pump, here_of, status_run}
pub use Rattle.condition3.specs.Wire.{Packet, outside, inside, has_all, packet_by, packet_data, data_in, past_digit}
use Rattle.condition3.specs.Terms.{status_letter, limit_of, refusal_number, characters, Call, byte_in, pin_at, tick_in, ticks_in, Event}

-- ==== What he sees of a pump: the status letter, the diameter and the time limit; in I and W the running phase, entered or not, and the
-- current rate
pub record View : Type 0 where
  pub status : ℕ
  pub diameter : ℕ
  pub running : ℕ
  pub phase : Phase
  pub rate : Option Rate
  pub limit : ℕ

unfoldable pub view_of : Pump → View
view_of p =
    let run = p.device.core.run in
    let s = status_letter (status_run run (here_of p).direction) in
    record {
      status = s;
      diameter = p.device.core.syringe.diameter;
      running = run.place.current;
      phase = here_of p;
      rate = run.rate;
      limit = limit_of p.device.link;
    }

abbrev pub later : Event → View
later e = view_of e.report.pump

abbrev pub stops : Event → Bool
stops e = eqb (later e).status (letter "S")

abbrev pub moves : View → Bool
moves x = eqb x.status (letter "I") || eqb x.status (letter "W")

-- Safe mode has a limit of a second or more; 0 is Basic mode   (02, 2/12)
abbrev pub is_safe : View → Bool
is_safe x = ltb 0 x.limit

-- the number of the phase's function, in the order RAT, INC, DEC, STP, JMP, LOP, LPS, LPE, PAS (whole, tenths), IF, EVN, EVR, BEP, OUT
abbrev pub kind_of : View → ℕ
kind_of x = number x.phase.function

-- of two things, one for each direction, that of d; the steps that a report tells in d
abbrev pub of_way : {A : Type 0} → Direction → A → A → A
of_way Infuse infused withdrawn = infused
of_way Withdraw infused withdrawn = withdrawn

abbrev pub told : Direction → Event → ℕ
told d e = of_way d e.report.infused e.report.withdrawn

-- ==== A visit: its phase, the direction, volume and step volume v (in femtolitres) at its entry, its time store, the steps given in it
pub record Visit : Type 0 where
  pub phase : ℕ
  pub direction : Direction
  pub volume : ℕ
  pub v : ℕ
  pub store : ℕ
  pub steps : ℕ

-- v = D x D x 19,635 / 100,000; a thousandth of a volume is 10^6 fl up to 14 mm, else 10^9; of a rate so many fl an hour   (01, Volumes)
abbrev pub step_at : ℕ → ℕ
step_at diameter = diameter * diameter * 19_635 / 100_000

abbrev pub volume_at : ℕ → ℕ → ℕ
volume_at diameter thousandths = thousandths * (if leb diameter 14_000 then 1_000_000 else 1_000_000_000)

abbrev pub in_unit : RateUnit → ℕ → ℕ
in_unit Um thousandths = thousandths * 60_000_000
in_unit Mm thousandths = thousandths * 60_000_000_000
in_unit Uh thousandths = thousandths * 1_000_000
in_unit Mh thousandths = thousandths * 1_000_000_000

abbrev pub hourly : Option Rate → ℕ
hourly None = 0
hourly (Some rate) = in_unit rate.unit rate.thousandths

-- RAT makes the stored rate the current one. Usable: above 0, and at most four thresholds of 3,600,000 v
abbrev pub stored_in : Phase → Option Rate
stored_in p = Some (record { unit = p.unit; thousandths = p.rate })

abbrev pub is_usable_at : ℕ → Option Rate → Bool
is_usable_at diameter rate = ltb 0 (hourly rate) && leb (hourly rate) (4 * (3_600_000 * step_at diameter))

abbrev pub new_visit : View → Visit
new_visit x =
    let volume = volume_at x.diameter x.phase.volume in
    record { phase = x.running; direction = x.phase.direction; volume = volume; v = step_at x.diameter; store = 0; steps = 0 }

-- a working tick adds the hourly rate to the store, 0 at entry; every threshold of 3,600,000 v in it is a due step and is taken off; the
-- due steps are given up to the target, volume / v rounded down; a continuous visit, of volume 0, has none   (01, Ticks and phases)
abbrev pub due : Visit → Option Rate → ℕ
due w rate =
    let n = (w.store + hourly rate) / (3_600_000 * w.v) in if eqb w.volume 0 then n else min n (w.volume / w.v - w.steps)

abbrev pub worked_on : Visit → Option Rate → ℕ → Visit
worked_on w rate steps =
    let store = (w.store + hourly rate) % (3_600_000 * w.v) in
    record { phase = w.phase; direction = w.direction; volume = w.volume; v = w.v; store = store; steps = w.steps + steps }

abbrev pub is_full : ℕ → Visit → Option Rate → Bool
is_full given w rate = not (leb (given + due w rate * w.v) 1_000_000_000_000_000_000)

-- ==== Loops, the newest first. LPS: if this phase opened a loop, that loop and those opened after it close; else all stay
abbrev pub still_open : ℕ → List Loop → List Loop → List Loop
still_open n all [] = all
still_open n all (l ∷ ls) = if eqb l.begun n then ls else still_open n all ls

-- LOP and LPE: the newest, or if none is open, one counted as begun by phase 0; and those that are older
abbrev pub newest_loop : List Loop → Loop
newest_loop [] = record { begun = 0; passes = 0 }
newest_loop (l ∷ ls) = l

abbrev pub older_loops : List Loop → List Loop
older_loops [] = []
older_loops (l ∷ ls) = ls

-- LOP k: one more pass; if they reach k or more, the loop closes. LPE counts none
abbrev pub is_last : ℕ → List Loop → Bool
is_last k ls = leb k ((newest_loop ls).passes + 1)

abbrev pub again : ℕ → List Loop → List Loop
again passes ls = record { begun = (newest_loop ls).begun; passes = (newest_loop ls).passes + passes } ∷ older_loops ls

-- ==== The books: the visit under way, those that are over, the loops, whether a trap is set, the level of pin 4, the bytes since the last
-- return, the packet under way with its bytes since STX, the ticks since the last byte, and what was given in each direction since its
-- total was cleared; at power-up nothing, and pin 4 high
pub data Doing : Type 0 where
  nothing : Doing
  visiting : Visit → Doing

pub record Books : Type 0 where
  pub doing : Doing
  pub past : List Visit
  pub loops : List Loop
  pub trap : Bool
  pub four : Bool
  pub line : List ℕ
  pub packet : Packet
  pub quiet : ℕ
  pub given : Direction → ℕ

abbrev pub blank : Books
blank =
    record { doing = nothing; past = []; loops = []; trap = false; four = true; line = []; packet = outside; quiet = 0; given = λ d. 0 }

abbrev pub all_visits : Doing → List Visit → List Visit
all_visits nothing past = past
all_visits (visiting w) past = w ∷ past

-- it has reached its target, and so ended of itself; at entry where the target is 0
abbrev pub is_whole : Doing → Bool
is_whole nothing = false
is_whole (visiting w) = ltb 0 w.volume && leb (w.volume / w.v) w.steps

-- ---- a tick in I or W works the visit under way, or enters the phase; many in one call are taken apart first; a refused one does neither
-- (01, Ticks and phases)
pub data Deed : Type 0 where
  other : Deed
  enters : View → Deed
  works : Visit → View → Deed

abbrev pub deed_by : Doing → View → Call → Deed
deed_by doing x (byte_in b buffer) = other
deed_by doing x (pin_at pin level) = other
deed_by doing x (ticks_in n buffer) = other
deed_by nothing x (tick_in buffer) = if moves x then enters x else other
deed_by (visiting w) x (tick_in buffer) = if moves x then works w x else other

abbrev pub is_taken : Event → Bool
is_taken e = eqb (refusal_number e.report.refusal) 0

abbrev pub deed : Books → Event → Deed
deed b e = if is_taken e then deed_by b.doing (view_of e.before) e.call else other

-- the steps that the rules give in direction d: at a working tick, in the direction of the phase, none if the total would pass 10^18
abbrev pub ruled_by : Direction → ℕ → Deed → ℕ
ruled_by d given other = 0
ruled_by d given (enters x) = 0
ruled_by d given (works w x) =
    let n = if is_full given w x.rate then 0 else due w x.rate in
    of_way d (of_way x.phase.direction n 0) (of_way x.phase.direction 0 n)

-- entering RAT, INC or DEC begins a visit; an unusable rate is alarm E, which stops the pump, and begins none
abbrev pub doing_by : Doing → Event → Deed → Doing
doing_by doing e other = doing
doing_by doing e (enters x) = if leb (kind_of x) 2 && not (stops e) then visiting (new_visit x) else nothing
doing_by doing e (works w x) = visiting (worked_on w x.rate (e.report.infused + e.report.withdrawn))

-- what is made of the loops, by LPS, LOP and LPE, and of the trap, by EVN and EVR
abbrev pub made_by : List Loop → Bool → Deed → List Loop × Bool
made_by ls trap other = (ls, trap)
made_by ls trap (works w x) = (ls, trap)
made_by ls trap (enters x) = (
  if eqb (kind_of x) 6
      then record { begun = x.running; passes = 0 } ∷ still_open x.running ls ls
      else if eqb (kind_of x) 5
      then if is_last (datum x.phase.function) ls then older_loops ls else again 1 ls
      else if eqb (kind_of x) 7 then again 0 ls else ls,
  eqb (kind_of x) 11 || not (eqb (kind_of x) 12) && trap,
)

-- ---- a call: a pin has its level. In Basic mode a byte joins the line, which the return, 13, ends
abbrev pub four_after : Bool → Call → Bool
four_after four (byte_in b buffer) = four
four_after four (pin_at pin level) = if eqb pin 4 then eqb level 1 else four
four_after four (tick_in buffer) = four
four_after four (ticks_in n buffer) = four

abbrev pub line_after : List ℕ → Bool → Call → List ℕ
line_after line safe (byte_in b buffer) = if safe then line else if eqb b 13 then [] else line ++ b ∷ []
line_after line safe (pin_at pin level) = line
line_after line safe (tick_in buffer) = line
line_after line safe (ticks_in n buffer) = line

-- in Safe mode it joins the packet, which is over too where no byte came for 500 ticks   (02, 2/12)
abbrev pub packet_after : Books → Bool → Bool → Call → Packet
packet_after b safe answered (byte_in x buffer) = if safe then packet_by b.packet answered x else b.packet
packet_after b safe answered (pin_at pin level) = b.packet
packet_after b safe answered (tick_in buffer) = if leb 500 (b.quiet + 1) then outside else b.packet
packet_after b safe answered (ticks_in n buffer) = b.packet

abbrev pub quiet_after : ℕ → Call → ℕ
quiet_after quiet (byte_in b buffer) = 0
quiet_after quiet (pin_at pin level) = quiet
quiet_after quiet (tick_in buffer) = quiet + 1
quiet_after quiet (ticks_in n buffer) = quiet

abbrev pub answer_data : Event → List ℕ
answer_data e = data_in (is_safe (view_of e.before)) (take e.report.length e.buffer)

-- a command was obeyed: the answer's data are `00` and the status   (01, Line and answer)
unfoldable pub is_obeyed : Event → Bool
is_obeyed e = is_text (text "00") (take 2 (answer_data e)) && eqb (length (answer_data e)) 3

-- what a line or a packet asks, behind the address
abbrev pub asked : Books → Event → List ℕ
asked b e = past_digit (past_digit (if is_safe (view_of e.before) then packet_data b.packet else characters b.line))

-- alarm T stops the pump in this tick, and is sent   (02, 2/12)
unfoldable pub timed_out : Event → Bool
timed_out e = is_safe (view_of e.before) && is_text (text "00A?T") (answer_data e)

unfoldable pub clears : Direction → Books → Event → Bool
clears d b e = is_obeyed e && (is_text (of_way d (text "CLDINF") (text "CLDWDR")) (asked b e) || is_text (text "*RESET") (asked b e))

-- firing (pin 4 falls with the trap set, not paused; or is low where EVN is entered), RUN n, a stop and alarms drop visit, loops and trap
abbrev pub fires_by : Books → Event → Deed → Bool
fires_by b e other = not (four_after true e.call) && (b.four && (b.trap && not (eqb (view_of e.before).status (letter "P"))))
fires_by b e (enters x) = eqb (kind_of x) 11 && not b.four
fires_by b e (works w x) = false

unfoldable pub drops : Books → Event → Bool
drops b e = fires_by b e (deed b e) || is_obeyed e && leads (text "RUN") (asked b e) && ltb 3 (length (asked b e)) || stops e

-- ---- the books behind an event: a refused call leaves them; a visit is over that is whole or dropped; a step counts at v then in force
unfoldable pub noted : Books → Event → Books
noted b e =
    let now = doing_by b.doing e (deed b e) in
    let over = is_whole now || drops b e in
    let safe = is_safe (view_of e.before) in
    if is_taken e
    then
    record {
      doing = if over then nothing else now;
      past = if over then all_visits now b.past else b.past;
      loops = if drops b e then [] else (made_by b.loops b.trap (deed b e)).0;
      trap = not (drops b e) && (made_by b.loops b.trap (deed b e)).1;
      four = four_after b.four e.call;
      line = line_after b.line safe e.call;
      packet = packet_after b safe (ltb 0 e.report.length) e.call;
      quiet = quiet_after b.quiet e.call;
      given = λ d. if clears d b e then 0 else b.given d + told d e * step_at (view_of e.before).diameter;
    }
    else b

unfoldable pub books : Books → List Event → Books
books b [] = b
books b (e ∷ es) = books (noted b e) es
