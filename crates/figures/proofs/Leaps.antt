-- Long runs by leaps, in Basic mode: a leap is the rest of a timed pause, or one tick. What a tally of leaps says of a pump's core holds
-- of the ticks themselves, sent to the pump as calls.
--     tallied     after any number of leaps: the state, and how often a phase was entered
--     for_ever    where they lead to a stopped pump: the same, however many more ticks go by
-- Assumes nothing.
use Prim.Native.Nat.{ℕ, zero, suc, ◌+◌, ◌≤◌}
use mathlib.Core.Path.{◌≡◌, refl, sym, ap, ap₂, ◌∙◌, subst}
use mathlib.Core.Bool.{Bool, true, false, ◌&&◌}
use mathlib.Core.List.{List, [], ◌∷◌, ◌++◌}
use native.Mathlib.Nat.{add-zero, zero-add, add_assoc, le_refl}
use native.Mathlib.Omega.{arith}
use lib.Dec.{eqb}
use lib.ListN.{length}
use Rattle.std.specs.Prelude.{Option}
use Rattle.base.proofs.Choices.{and_false}
use Rattle.words.specs.declared.answers.Alarm.{Alarm}
use Rattle.words.specs.declared.phases.Phase.{Phase}
use Rattle.program.specs.Cores.{with_run}
use Rattle.program.specs.Runs.{go_on, is_running, is_operating, is_entering}
use Rattle.program.specs.declared.state.Core.{Core}
use Rattle.program.specs.declared.state.Mode.{Mode}
use Rattle.program.specs.declared.state.Mode.TheVariants.{Stopped, Paused, Running}
use Rattle.program.specs.declared.state.Run.{Run}
use Rattle.program.specs.declared.state.Work.{Work}
use Rattle.program.specs.declared.state.Work.TheVariants.{Entering, Visiting, Pausing, Waiting}
use Rattle.tick.specs.Ticks.{tick}
use Rattle.link.specs.Link.{is_safe}
use Rattle.answer.specs.Answers.{room}
use Rattle.pump.specs.Holder.{phase_at, is_sound_pump}
use Rattle.pump.specs.declared.holder.Pump.{Pump}
use Rattle.pump.specs.declared.reports.Report.{Report}
use Rattle.statement.specs.Facts.{core_of, link_of, run_of, under_way}
use Rattle.statement.specs.Histories.{Call, after, Whole, Event, trace, Every, single_ticks}
use Rattle.statement.specs.Outcomes.{pump_with_core}
use Rattle.statement.proofs.Always.{after_whole}
use Rattle.statement.proofs.Joining.{after_both, trace_both, ticks_both}
use Rattle.condition3.specs.Sending.{blank_buffer, ticks_of}
use Rattle.condition3.proofs.Pauses.{InPause, Passing, behind_pause, pause_ends, pause_passes}
use Rattle.condition3.proofs.Stops.{Standing, basic_works, stopped_after, stopped_stands}
use Rattle.figures.specs.Rows.{is_accepted, tick_taken, entering, enters_phase, one_if, entries}

-- ---- one leap of a core, with the phases at hand, and the ticks that it stands for
abbrev pub stepped : List Phase → Core → Core
stepped ps s = (tick s (phase_at ps s.run.place.current)).core

unfoldable pub leap_work : List Phase → Core → Work → Core
leap_work ps s Entering = stepped ps s
leap_work ps s (Visiting v) = stepped ps s
leap_work ps s (Pausing left) = with_run s (go_on s.run)
leap_work ps s Waiting = stepped ps s

unfoldable pub leap_mode : List Phase → Core → Mode → Core
leap_mode ps s (Stopped alarm) = stepped ps s
leap_mode ps s Paused = stepped ps s
leap_mode ps s Running = leap_work ps s s.run.place.work

unfoldable pub leap : List Phase → Core → Core
leap ps s = leap_mode ps s s.run.mode

unfoldable pub span_work : Work → ℕ
span_work Entering = 1
span_work (Visiting v) = 1
span_work (Pausing left) = left
span_work Waiting = 1

unfoldable pub span_mode : Mode → Work → ℕ
span_mode (Stopped alarm) w = 1
span_mode Paused w = 1
span_mode Running w = span_work w

unfoldable pub span : Run → ℕ
span r = span_mode r.mode r.place.work

-- ---- entries in two parts, and events that enter nothing
pub entries_both : (phase : ℕ) (a b : List Event) → entries phase (a ++ b) ≡ entries phase a + entries phase b
unfolding entries
entries_both phase [] b = sym (zero-add _)
entries_both phase (e ∷ a) b =
    ap (λ (n : ℕ). one_if (enters_phase phase e) + n) (entries_both phase a b)
    ∙ sym (add_assoc (one_if (enters_phase phase e)) (entries phase a) (entries phase b))

pausing_none : (phase : ℕ) (r : Run) (left : ℕ) → r.place.work ≡ Pausing left → entering phase r ≡ false
unfolding entering
pausing_none phase r left e =
    ap (λ (x : Work). is_operating r && (is_entering x && eqb r.place.current phase)) e ∙ and_false (is_operating r)

stopped_none : (phase : ℕ) (r : Run) (alarm : Option Alarm) → r.mode ≡ Stopped alarm → entering phase r ≡ false
unfolding entering
stopped_none phase r alarm e = ap (λ (x : Mode). is_running x && (is_entering r.place.work && eqb r.place.current phase)) e

not_entered : (phase : ℕ) (e : Event) → entering phase (run_of e.before) ≡ false → enters_phase phase e ≡ false
unfolding enters_phase
not_entered phase e h = ap (λ (t : Bool). tick_taken e && t) h ∙ and_false (tick_taken e)

passing_none : (phase : ℕ) (e : Event) → Passing e → enters_phase phase e ≡ false
passing_none phase e h = not_entered phase e (pausing_none phase (run_of e.before) h.left h.before_pausing)

standing_none : (phase : ℕ) (e : Event) → Standing e → enters_phase phase e ≡ false
standing_none phase e h = not_entered phase e (stopped_none phase (run_of e.before) h.alarm h.before_stopped)

none_entered :
    (phase : ℕ) (P : Event → Type 0) → ((e : Event) → P e → enters_phase phase e ≡ false) →
    (es : List Event) → Every P es → entries phase es ≡ 0
unfolding entries
none_entered phase P none [] h = refl
none_entered phase P none (e ∷ es) h =
    ap₂ (λ (t : Bool) (n : ℕ). one_if t + n) (none e h.0) (none_entered phase P none es h.1) ∙ add-zero 0

-- ---- what a leap says of the ticks that it stands for
record Leaps (phase : ℕ) (p : Pump) (n : ℕ) (q : Pump) : Type 0 where
  there : after p (ticks_of n) ≡ q
  counted : entries phase (trace p (ticks_of n)) ≡ one_if (entering phase (run_of p))

roomy : room ≤ length blank_buffer
roomy = omega arith

-- in Basic mode, where a tick does its work and no more
module _ (phase : ℕ) (p : Pump) (w : Whole p) (basic : is_safe (link_of p) ≡ false) where
  one_tick_lem : Leaps phase p 1 (pump_with_core p (stepped p.phases (core_of p)))
  unfolding after trace single_ticks entries enters_phase
  one_tick_lem =
      record {
        there = ap (λ (r : Report). r.pump) (basic_works p blank_buffer w.sound roomy basic);
        counted =
            ap (λ (r : Report). one_if (is_accepted r && entering phase (run_of p)) + 0) (basic_works p blank_buffer w.sound roomy basic)
            ∙ add-zero _;
      }

  pause_leap : (left : ℕ) → (run_of p).mode ≡ Running → under_way p ≡ Pausing left → Leaps phase p left (behind_pause p)
  pause_leap left m e =
      let h : InPause p left = record { whole = w; basic = basic; running = m; pausing = e } in
      record {
        there = pause_ends blank_buffer roomy p left h;
        counted =
            none_entered phase Passing (passing_none phase) (trace p (ticks_of left)) (pause_passes blank_buffer roomy p left left h (le_refl left))
            ∙ sym (ap one_if (pausing_none phase (run_of p) left e));
      }

  leap_work_lem :
      (x : Work)
      → (run_of p).mode ≡ Running
      → under_way p ≡ x
      → Leaps phase p (span_work x) (pump_with_core p (leap_work p.phases (core_of p) x))
  unfolding span_work leap_work
  leap_work_lem Entering m e = one_tick_lem
  leap_work_lem (Visiting v) m e = one_tick_lem
  leap_work_lem (Pausing left) m e = pause_leap left m e
  leap_work_lem Waiting m e = one_tick_lem

  leap_mode_lem :
      (x : Mode) → (run_of p).mode ≡ x → Leaps phase p (span_mode x (under_way p)) (pump_with_core p (leap_mode p.phases (core_of p) x))
  unfolding span_mode leap_mode
  leap_mode_lem (Stopped alarm) e = one_tick_lem
  leap_mode_lem Paused e = one_tick_lem
  leap_mode_lem Running e = leap_work_lem (under_way p) e refl

  leap_true : Leaps phase p (span (run_of p)) (pump_with_core p (leap p.phases (core_of p)))
  unfolding span leap
  leap_true = leap_mode_lem (run_of p).mode refl

-- ---- a tally of leaps: where they lead, the ticks used, and the entries seen
pub record Tally : Type 0 where
  pub place : Core
  pub used : ℕ
  pub seen : ℕ

unfoldable pub next : ℕ → List Phase → Tally → Tally
next phase ps t =
    record { place = leap ps t.place; used = t.used + span t.place.run; seen = t.seen + one_if (entering phase t.place.run) }

unfoldable pub onwards : ℕ → List Phase → ℕ → Tally → Tally
onwards phase ps zero t = t
onwards phase ps (suc n) t = onwards phase ps n (next phase ps t)

-- so many leaps of a pump
unfoldable pub tally : ℕ → Pump → ℕ → Tally
tally phase p n = onwards phase p.phases n (record { place = core_of p; used = 0; seen = 0 })

-- named on an `unfolding` line, it opens what a tally computes with
unfoldable pub tallying : ℕ
unfolding leap_work leap_mode leap span_work span_mode span next onwards tally entering
tallying = 0

-- what a tally says of the ticks that it has used
pub record True (phase : ℕ) (p : Pump) (t : Tally) : Type 0 where
  pub there : after p (ticks_of t.used) ≡ pump_with_core p t.place
  pub counted : entries phase (trace p (ticks_of t.used)) ≡ t.seen

-- the same place, when k more ticks have gone by
abbrev pub waited : Tally → ℕ → Tally
waited t k = record { place = t.place; used = t.used + k; seen = t.seen }

-- ticks in two parts
after_ticks_lem : (p : Pump) (m n : ℕ) → after p (ticks_of (m + n)) ≡ after (after p (ticks_of m)) (ticks_of n)
after_ticks_lem p m n = ap (after p) (ticks_both blank_buffer m n) ∙ after_both p (ticks_of m) (ticks_of n)

entries_ticks :
    (phase : ℕ) (p : Pump) (m n : ℕ)
    → entries phase (trace p (ticks_of (m + n)))
    ≡ entries phase (trace p (ticks_of m)) + entries phase (trace (after p (ticks_of m)) (ticks_of n))
entries_ticks phase p m n =
    ap (λ (cs : List Call). entries phase (trace p cs)) (ticks_both blank_buffer m n)
    ∙ ap (entries phase) (trace_both p (ticks_of m) (ticks_of n))
    ∙ entries_both phase (trace p (ticks_of m)) (trace (after p (ticks_of m)) (ticks_of n))

module _ (phase : ℕ) (p : Pump) (w : Whole p) (basic : is_safe (link_of p) ≡ false) where
  whole_there : (t : Tally) → True phase p t → Whole (pump_with_core p t.place)
  whole_there t h = subst Whole h.there (after_whole p (ticks_of t.used) w)

  next_true : (t : Tally) → True phase p t → True phase p (next phase p.phases t)
  unfolding next
  next_true t h =
      let l = leap_true phase (pump_with_core p t.place) (whole_there t h) basic in
      record {
        there =
            after_ticks_lem p t.used (span t.place.run)
            ∙ ap (λ (q : Pump). after q (ticks_of (span t.place.run))) h.there
            ∙ l.there;
        counted =
            entries_ticks phase p t.used (span t.place.run)
            ∙ ap₂ (λ (a b : ℕ). a + b) h.counted
            (ap (λ (q : Pump). entries phase (trace q (ticks_of (span t.place.run)))) h.there ∙ l.counted);
      }

  onwards_true : (n : ℕ) (t : Tally) → True phase p t → True phase p (onwards phase p.phases n t)
  unfolding onwards
  onwards_true zero t h = h
  onwards_true (suc n) t h = onwards_true n (next phase p.phases t) (next_true t h)

  pub tallied : (n : ℕ) → True phase p (tally phase p n)
  unfolding tally after trace single_ticks entries
  tallied n = onwards_true n (record { place = core_of p; used = 0; seen = 0 }) (record { there = refl; counted = refl })

  -- a tally that ends in a stopped pump has seen all that there ever is
  pub for_ever :
      (t : Tally)
      → True phase p t
      → (alarm : Option Alarm)
      → t.place.run.mode ≡ Stopped alarm
      → (k : ℕ)
      → True phase p (waited t k)
  for_ever t h alarm e k =
      let q : Pump = pump_with_core p t.place in
      let sound : is_sound_pump q ≡ true = (whole_there t h).sound in
      record {
        there =
            after_ticks_lem p t.used k ∙ ap (λ (x : Pump). after x (ticks_of k)) h.there ∙ stopped_after q blank_buffer sound roomy basic alarm e k;
        counted =
            entries_ticks phase p t.used k
            ∙ ap₂ (λ (a b : ℕ). a + b) h.counted
            (ap (λ (x : Pump). entries phase (trace x (ticks_of k))) h.there
            ∙ none_entered phase Standing (standing_none phase) (trace q (ticks_of k)) (stopped_stands q blank_buffer sound roomy basic alarm e k))
            ∙ add-zero t.seen;
      }
