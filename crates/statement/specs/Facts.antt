-- When a state is sound, said without a test: the clauses of document 01's sentence, a fact each, in its order. That the test which the
-- calls run says just this is a theorem (proofs/Soundness.antt, sound_iff). Some clauses hold by the types of the state, and have no
-- field here: the store is 0 outside a visit, at most one of visit, timed pause and trigger wait is under way, and an alarm is pending
-- only in a stopped pump; in Basic mode there is neither a timer nor a part packet, a limit is at most 255, a part packet has a length of
-- 4 to 44, fewer bytes than that, and its check right once both check bytes are in.   (01, Calls; Numbers; Volumes; 02, 2/12)
use Rattle.std.specs.Prelude.{ℕ, ◌+◌, ◌*◌, ◌≤◌, ◌<◌, ◌≡◌, ◌⊎◌, true, List, length, get_or, Some, Option, None}
use Rattle.decimal.specs.Read.{read}
use Rattle.drive.specs.Rates.{hourly_rate}
use Rattle.drive.specs.Syringe.{step_threshold, step_target}
use Rattle.drive.specs.declared.syringe.Syringe.{Syringe}
use Rattle.words.specs.Functions.{pause_ticks}
use Rattle.words.specs.declared.answers.Alarm.{Alarm}
use Rattle.words.specs.declared.functions.Function.{Function}
use Rattle.words.specs.declared.functions.Function.TheVariants as f
use Rattle.words.specs.declared.phases.Phase.{Phase}
use Rattle.loops.specs.Loops.{no_loop, opened}
use Rattle.loops.specs.declared.Loop.{Loop}
use Rattle.dispense.specs.Rates.{thousandths}
use Rattle.dispense.specs.declared.rates.Rate.{Rate}
use Rattle.dispense.specs.declared.visits.Visit.{Visit}
use Rattle.program.specs.declared.state.Core.{Core}
use Rattle.program.specs.declared.state.Mode.TheVariants.{Stopped}
use Rattle.program.specs.declared.state.Run.{Run}
use Rattle.program.specs.declared.state.Work.{Work}
use Rattle.program.specs.declared.state.Work.TheVariants.{Entering, Visiting, Pausing, Waiting}
use Rattle.line.specs.Lines.{line_text}
use Rattle.line.specs.declared.lines.Line.{Line}
use Rattle.packet.specs.Follows.{PlaceFact}
use Rattle.link.specs.declared.Link.{Link}
use Rattle.link.specs.declared.Safety.{Safety}
use Rattle.pump.specs.Holder.{phase_count, stop_phase, here_of}
use Rattle.pump.specs.declared.device.Device.{Device}
use Rattle.pump.specs.declared.holder.Pump.{Pump}

abbrev pub Between : ℕ → ℕ → ℕ → Type 0
Between least n most = (least ≤ n) × (n ≤ most)

-- a stored number is writable if some input gives it
abbrev pub Writable : ℕ → Type 0
Writable x = (s : List ℕ) × (read s ≡ Some x)

-- a function's datum is in its range in a pump of so many phases: a phase from 1 to the last, counts 1 to 99, PAS up to 99 s or 0.1 to
-- 9.9 s, levels 0 and 1
abbrev pub Datum : ℕ → Function → Type 0
Datum phases f.Rat = Unit {0}
Datum phases f.Inc = Unit {0}
Datum phases f.Dec = Unit {0}
Datum phases f.Stp = Unit {0}
Datum phases (f.Jmp n) = Between 1 n phases
Datum phases (f.Lop n) = Between 1 n 99
Datum phases f.Lps = Unit {0}
Datum phases f.Lpe = Unit {0}
Datum phases (f.Pas n) = n ≤ 99
Datum phases (f.Tenths n) = Between 1 n 99
Datum phases (f.If n) = Between 1 n phases
Datum phases (f.Evn n) = Between 1 n phases
Datum phases f.Evr = Unit {0}
Datum phases f.Bep = Unit {0}
Datum phases (f.Out n) = n ≤ 1

pub record PhaseFacts (phases : ℕ) (p : Phase) : Type 0 where
  pub datum : Datum phases p.function
  pub rate : Writable p.rate
  pub volume : Writable p.volume

-- a character of a line is one that is neither dropped (0 to 32, 127) nor raised ('a' to 'z')
pub record Character (c : ℕ) : Type 0 where
  pub above_blank : 32 < c
  pub no_delete : c ≡ 127 → ⊥
  pub no_lower : 97 ≤ c → 122 < c

-- a line of at most 40 characters, over-long only with 40
pub record LineFacts (l : Line) : Type 0 where
  pub forty : l.len ≤ 40
  pub overlong_full : l.overlong ≡ true → 40 ≤ l.len
  pub characters : (i : ℕ) → i < length (line_text l) → Character (get_or (line_text l) i 0)

-- in Safe mode: a limit of at least a second; the timer waits or has 1 to 1,000 n ticks left; a part packet of at most 40 data, with 0 to
-- 499 quiet ticks; and no line begun   (02, 2/12)
pub record SafeFacts (v : Device) (s : Safety) : Type 0 where
  pub limited : 1 ≤ s.limit
  pub timed : (t : ℕ) → s.timer ≡ Some t → Between 1 t (1000 * s.limit)
  pub part : PlaceFact s.part
  pub no_line : v.line.len ≡ 0

-- ---- where things stand
abbrev pub core_of : Pump → Core
core_of p = p.device.core

abbrev pub link_of : Pump → Link
link_of p = p.device.link

abbrev pub run_of : Pump → Run
run_of p = p.device.core.run

-- what is under way
abbrev pub under_way : Pump → Work
under_way p = (run_of p).place.work

-- the open loops, the oldest first
abbrev pub loops_of : Pump → List Loop
loops_of p = opened (run_of p).loops

-- every field is in the range given; the current phase is at most one past the last
pub record Ranges (p : Pump) : Type 0 where
  pub diameter : Between 100 (core_of p).syringe.diameter 50_000
  pub chosen : Between 1 (core_of p).chosen (phase_count p)
  pub infused : (core_of p).ledger.totals.infused ≤ 1_000_000_000_000_000_000
  pub withdrawn : (core_of p).ledger.totals.withdrawn ≤ 1_000_000_000_000_000_000
  pub current : Between 1 (run_of p).place.current (phase_count p + 1)
  pub rate : thousandths (run_of p).rate ≤ 9_999_000
  pub trap : (n : ℕ) → (run_of p).trap ≡ Some n → Between 1 n (phase_count p)
  pub begun : (i : ℕ) → i < length (loops_of p) → (get_or (loops_of p) i no_loop).begun ≤ phase_count p
  pub line : LineFacts p.device.line
  pub link : (s : Safety) → (link_of p).safety ≡ Some s → SafeFacts p.device s

-- above 0, and at most four thresholds
abbrev pub Usable : Syringe → Option Rate → Type 0
Usable y None = ⊥
Usable y (Some r) = (0 < r.thousandths) × (hourly_rate r.thousandths r.unit ≤ 4 * step_threshold y)

pub record VisitFacts (y : Syringe) (here : Phase) (rate : Option Rate) (v : Visit) : Type 0 where
  pub store_below : v.store < step_threshold y
  pub aimed : v.target ≡ step_target y here.volume
  pub given_below : (here.volume ≡ 0 → ⊥) → v.given < v.target
  pub none_counted : here.volume ≡ 0 → v.given ≡ 0
  pub usable : Usable y rate
  pub in_rate_phase : (here.function ≡ f.Rat) ⊎ (here.function ≡ f.Inc) ⊎ (here.function ≡ f.Dec)

-- none of the three, and no trap, loop or current rate
pub record Nothing (r : Run) : Type 0 where
  pub no_work : r.place.work ≡ Entering
  pub no_trap : r.trap ≡ None
  pub no_loop : r.loops.count ≡ 0
  pub no_rate : r.rate ≡ None

pub record Sound (p : Pump) : Type 0 where
  -- every field is in its range, and stored numbers are writable
  pub ranges : Ranges p
  pub diameter_writable : Writable (core_of p).syringe.diameter
  pub phases : (i : ℕ) → i < phase_count p → PhaseFacts (phase_count p) (get_or p.phases i stop_phase)
  -- open loops are at most three, begun by different phases
  pub three_loops : (run_of p).loops.count ≤ 3
  pub different_phases :
      (i j : ℕ) → i < j → j < length (loops_of p) → (get_or (loops_of p) i no_loop).begun ≡ (get_or (loops_of p) j no_loop).begun → ⊥
  -- a visit's store, target, steps given, rate and phase
  pub visit : (v : Visit) → under_way p ≡ Visiting v → VisitFacts (core_of p).syringe (here_of p) (run_of p).rate v
  -- an open loop has at most 98 passes
  pub passes_few : (i : ℕ) → i < length (loops_of p) → (get_or (loops_of p) i no_loop).passes ≤ 98
  -- a timed pause has 1 to the full number of ticks of its PAS phase left; a trigger wait stands in PAS 0
  pub pause : (left : ℕ) → under_way p ≡ Pausing left → Between 1 left (pause_ticks (here_of p).function)
  pub wait : under_way p ≡ Waiting → (here_of p).function ≡ f.Pas 0
  -- a stopped pump has nothing under way
  pub stopped : (alarm : Option Alarm) → (run_of p).mode ≡ Stopped alarm → Nothing (run_of p)
