-- What a row of the marked figures says, and what is observed for it: from power-up, through the calls alone.   (01, Marked figures)
use Rattle.std.specs.Prelude.{ℕ, ◌+◌, ◌-◌, ◌≡◌, Bool, true, false, ◌&&◌, List, [], ◌∷◌, ◌++◌, eqb, length, take, if◌then◌else◌}
use Prim.Native.Char.{Char}
use Prim.Native.String.{String}
use Rattle.base.specs.Text.{letter, text}
use Rattle.decimal.specs.Print.{print}
use Rattle.program.specs.Runs.{is_operating, is_entering}
use Rattle.program.specs.declared.state.Run.{Run}
use Rattle.pump.specs.Holder.{model_phases, fresh_pump}
use Rattle.pump.specs.Reports.{refusal_number}
use Rattle.pump.specs.declared.holder.Pump.{Pump}
use Rattle.pump.specs.declared.reports.Report.{Report}
use Rattle.statement.specs.Histories.{Call, byte_in, pin_at, tick_in, ticks_in, Event, trace}
use Rattle.condition3.specs.Books.{Books, Doing, nothing, visiting, Visit, is_whole, blank, books}
use Rattle.condition3.specs.Sending.{lines, ticks_of}

-- the pump just switched on, from which every row goes   (01, Commands: Power-up)
abbrev pub at_power_up : Pump
at_power_up = fresh_pump model_phases

-- ---- a row: its letter, what the document says, and what the definitions give, where k more ticks may go by; a row in which no tick goes
-- by takes no notice of k. Each side is one number, or bytes
pub record Row : Type 0 where
  pub mark : ℕ
  pub paper : List ℕ
  pub given : ℕ → List ℕ

-- the claim of a row: they are the same, however many more ticks go by
abbrev pub Agrees : Row → Type 0
Agrees r = (k : ℕ) → r.given k ≡ r.paper

-- ---- a, b, c: a number that a definition gives
abbrev pub comes_to : Char → ℕ → ℕ → Row
comes_to c n m = record { mark = letter c; paper = n ∷ []; given = λ k. m ∷ [] }

-- ---- j, k: so many thousandths as they are printed
abbrev pub prints : Char → ℕ → String → Row
prints c n t = record { mark = letter c; paper = text t; given = λ k. print n }

-- ---- d, e, f, g: lines sent, and every byte that is answered to them
-- what the calls answer: of each one's buffer as many bytes as its report says   (01, Calls: "one whole answer, and reports its length")
unfoldable pub answer_text : List Event → List ℕ
answer_text [] = []
answer_text (e ∷ es) = take e.report.length e.buffer ++ answer_text es

-- the lines of a talk, and the answers to them, each between STX and ETX   (01, Line and answer)
abbrev pub questions : List (String × String) → List String
questions [] = []
questions (said ∷ talk) = said.0 ∷ questions talk

abbrev pub framed_talk : List (String × String) → List ℕ
framed_talk [] = []
framed_talk (said ∷ talk) = 2 ∷ text said.1 ++ 3 ∷ framed_talk talk

abbrev pub talks : Char → List (String × String) → Row
talks c talk = record { mark = letter c; paper = framed_talk talk; given = λ k. answer_text (trace at_power_up (lines (questions talk))) }

abbrev pub one_if : Bool → ℕ
one_if t = if t then 1 else 0

-- ---- f, h, i: the visits in the observer's books, when lines are sent and n ticks go by (specs/Books.antt of condition 3)
unfoldable pub books_after : List String → ℕ → Books
books_after ts n = books blank (trace at_power_up (lines ts ++ ticks_of n))

-- how many are under way; of each that is over, 1 if it ended of itself, else 0, and its steps
abbrev pub in_progress : Doing → ℕ
in_progress nothing = 0
in_progress (visiting w) = 1

abbrev pub over : List Visit → List ℕ
over [] = []
over (w ∷ ws) = one_if (is_whole (visiting w)) ∷ w.steps ∷ over ws

abbrev pub visits_in : Books → List ℕ
visits_in b = in_progress b.doing ∷ over b.past

-- tick n ends a visit of so many steps: a tick earlier none is over; then, and when any k more go by, none is under way, and one is over,
-- which ended of itself
abbrev pub dispenses : Char → List String → ℕ → ℕ → Row
dispenses c ts n steps =
    record {
      mark = letter c;
      paper = 0 ∷ 0 ∷ 1 ∷ steps ∷ [];
      given = λ k. length (books_after ts (n - 1)).past ∷ visits_in (books_after ts (n + k));
    }

-- ---- l: how often a phase is entered, when lines are sent and n ticks go by, and any k more
-- a tick would enter that phase: the pump runs, the phase is the current one, and it is not entered   (01, Ticks and phases: "A tick does
-- one of: enter the current phase, or work the entered one")
unfoldable pub entering : ℕ → Run → Bool
entering phase r = is_operating r && (is_entering r.place.work && eqb r.place.current phase)

-- the event is a tick that was not refused, whose number is 0, and entered it; a row has none but single ticks
abbrev pub is_accepted : Report → Bool
is_accepted r = eqb (refusal_number r.refusal) 0

abbrev pub is_tick : Call → Bool
is_tick (byte_in b buffer) = false
is_tick (pin_at pin level) = false
is_tick (tick_in buffer) = true
is_tick (ticks_in n buffer) = false

abbrev pub tick_taken : Event → Bool
tick_taken e = is_tick e.call && is_accepted e.report

unfoldable pub enters_phase : ℕ → Event → Bool
enters_phase phase e = tick_taken e && entering phase e.before.device.core.run

unfoldable pub entries : ℕ → List Event → ℕ
entries phase [] = 0
entries phase (e ∷ es) = one_if (enters_phase phase e) + entries phase es

abbrev pub visits_phase : Char → ℕ → List String → ℕ → ℕ → Row
visits_phase c phase ts n times =
    record { mark = letter c; paper = times ∷ []; given = λ k. entries phase (trace at_power_up (lines ts ++ ticks_of (n + k))) ∷ [] }
