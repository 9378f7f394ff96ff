-- The law of the pause: of any sound pump in Basic mode and in a timed pause, and any number of ticks up to the last of it.
--     pause_goes_on   short of the last, they only count down
--     pause_ends      the last one ends it: the next phase is the current one, not entered
--     pause_passes    and each of them reports nothing: no step, no beep, no answer
-- Assumes nothing.
use Prim.Native.Nat.{ℕ, zero, suc, ◌-◌, ◌≤◌, ◌<◌}
use mathlib.Core.Path.{◌≡◌, refl, sym, ap, ◌∙◌, subst}
use mathlib.Core.Bool.{false}
use mathlib.Core.List.{List}
use native.Mathlib.Omega.{arith}
use lib.ListN.{length}
use borrow.Author.Tests.{le-leb, lt-leb}
use Rattle.program.specs.Cores.{with_run}
use Rattle.program.specs.Runs.{doing, go_on}
use Rattle.program.specs.declared.state.Mode.TheVariants.{Running}
use Rattle.program.specs.declared.state.Work.{Work}
use Rattle.program.specs.declared.state.Work.TheVariants.{Pausing}
use Rattle.tick.specs.Ticks.{work_by, tick_by, tick}
use Rattle.tick.specs.Working.{work_pause}
use Rattle.tick.specs.declared.Moved.{Moved}
use Rattle.link.specs.Link.{is_safe}
use Rattle.answer.specs.Answers.{room}
use Rattle.pump.specs.Calls.{tick_call}
use Rattle.pump.specs.Holder.{here_of}
use Rattle.pump.specs.declared.holder.Pump.{Pump}
use Rattle.pump.specs.declared.reports.Report.{Report}
use Rattle.statement.specs.Facts.{core_of, run_of, link_of, under_way}
use Rattle.statement.specs.Histories.{tick_in, after, Whole, Event, event_of, trace, Every, single_ticks}
use Rattle.statement.specs.Outcomes.{pump_with_core}
use Rattle.statement.proofs.Always.{call_whole}
use Rattle.statement.proofs.Soundness.{sound_facts}
use Rattle.condition3.proofs.Stops.{silent_tick, basic_works}
use Rattle.condition3.proofs.Ticks.{work_of}

-- a sound pump in Basic mode that runs and is in a timed pause with so many ticks left
pub record InPause (p : Pump) (left : ℕ) : Type 0 where
  pub whole : Whole p
  pub basic : is_safe (link_of p) ≡ false
  pub running : (run_of p).mode ≡ Running
  pub pausing : under_way p ≡ Pausing left

-- the same pump with another number of ticks left, and the same pump behind the pause
abbrev pub leaving : Pump → ℕ → Pump
leaving p left = pump_with_core p (with_run (core_of p) (doing (run_of p) (Pausing left)))

abbrev pub behind_pause : Pump → Pump
behind_pause p = pump_with_core p (with_run (core_of p) (go_on (run_of p)))

-- an event that is a tick in a timed pause, and reports the next state and nothing else
pub record Passing (e : Event) : Type 0 where
  pub left : ℕ
  pub before_pausing : under_way e.before ≡ Pausing left
  pub nothing : e.report ≡ silent_tick e.report.pump

-- a sound pause has a tick left
pub some_left : (p : Pump) (left : ℕ) → InPause p left → 1 ≤ left
some_left p left h = ((sound_facts p h.whole.sound).pause left h.pausing).0

-- ---- one tick
module _ (buffer : List ℕ) (roomy : room ≤ length buffer) (p : Pump) (left : ℕ) (h : InPause p left) where
  works : tick_call p buffer ≡ silent_tick (pump_with_core p (with_run (core_of p) (work_pause (run_of p) left)))
  unfolding tick
  works =
      basic_works p buffer h.whole.sound roomy h.basic
      ∙ ap (λ (m : Moved). work_of p m)
      (ap (tick_by (core_of p) (here_of p)) h.running ∙ ap (work_by (core_of p) (here_of p)) h.pausing)

  counts_down : 1 < left → tick_call p buffer ≡ silent_tick (leaving p (left - 1))
  unfolding work_pause
  counts_down k = works ∙ rw (lt-leb left 1 k) refl

  ends : left ≤ 1 → tick_call p buffer ≡ silent_tick (behind_pause p)
  unfolding work_pause
  ends k = works ∙ rw (le-leb left 1 k) refl

  on : 1 < left → InPause (leaving p (left - 1)) (left - 1)
  on k =
      record {
        whole = subst (λ (r : Report). Whole r.pump) (counts_down k) (call_whole p (tick_in buffer) h.whole);
        basic = h.basic;
        running = h.running;
        pausing = refl;
      }

  as_it_is : leaving p left ≡ p
  as_it_is = ap (λ (w : Work). pump_with_core p (with_run (core_of p) (doing (run_of p) w))) (sym h.pausing)

  passes : Passing (event_of p (tick_in buffer))
  passes =
      record {
        left = left;
        before_pausing = h.pausing;
        nothing = works ∙ sym (ap (λ (r : Report). silent_tick r.pump) works);
      }

-- ---- many
module _ (buffer : List ℕ) (roomy : room ≤ length buffer) where
  pub pause_goes_on : (p : Pump) (left n : ℕ) → InPause p left → n < left → after p (single_ticks n buffer) ≡ leaving p (left - n)
  unfolding after single_ticks
  pause_goes_on p left zero h k = sym (as_it_is buffer roomy p left h) ∙ ap (leaving p) (all left)
    where
      all : (m : ℕ) → m ≡ m - 0
      all m = omega arith
  pause_goes_on p left (suc n) h k =
      let more : 1 < left = omega arith in
      ap (λ (r : Report). after r.pump (single_ticks n buffer)) (counts_down buffer roomy p left h more)
      ∙ pause_goes_on (leaving p (left - 1)) (left - 1) n (on buffer roomy p left h more) (omega arith)
      ∙ ap (leaving p) (fewer left n)
    where
      fewer : (m i : ℕ) → m - 1 - i ≡ m - suc i
      fewer m i = omega arith

  ends_after : (p : Pump) (left n : ℕ) → InPause p left → left ≡ suc n → after p (single_ticks (suc n) buffer) ≡ behind_pause p
  unfolding after single_ticks
  ends_after p left zero h e = ap (λ (r : Report). r.pump) (ends buffer roomy p left h (omega arith))
  ends_after p left (suc n) h e =
      let more : 1 < left = omega arith in
      ap (λ (r : Report). after r.pump (single_ticks (suc n) buffer)) (counts_down buffer roomy p left h more)
      ∙ ends_after (leaving p (left - 1)) (left - 1) n (on buffer roomy p left h more) (omega arith)

  pub pause_ends : (p : Pump) (left : ℕ) → InPause p left → after p (single_ticks left buffer) ≡ behind_pause p
  pause_ends p left h = go left (some_left p left h) refl
    where
      go : (n : ℕ) → 1 ≤ n → left ≡ n → after p (single_ticks n buffer) ≡ behind_pause p
      go zero k e = absurd (omega arith)
      go (suc n) k e = ends_after p left n h e

  pub pause_passes : (p : Pump) (left n : ℕ) → InPause p left → n ≤ left → Every Passing (trace p (single_ticks n buffer))
  unfolding trace single_ticks
  pause_passes p left zero h k = tt
  pause_passes p left (suc zero) h k = (passes buffer roomy p left h, tt)
  pause_passes p left (suc (suc n)) h k =
      let more : 1 < left = omega arith in (
        passes buffer roomy p left h,
        subst (λ (r : Report). Every Passing (trace r.pump (single_ticks (suc n) buffer))) (sym (counts_down buffer roomy p left h more))
            (pause_passes (leaving p (left - 1)) (left - 1) (suc n) (on buffer roomy p left h more) (omega arith)),
      )
