-- A leap that gives no step is that many ticks one after the other: of what stands still, of none, of a timed pause.
-- Assumes nothing.
use Prim.Native.Nat.{ℕ, zero, suc, ◌+◌, ◌-◌, ◌≤◌, ◌<◌, min}
use mathlib.Core.Path.{◌≡◌, refl, sym, ap, ◌∙◌, subst}
use mathlib.Core.Bool.{true, false}
use native.Mathlib.Numerals.{add-one}
use native.Mathlib.Omega.{arith}
use borrow.Author.Tests.{le-leb, lt-leb}
use Rattle.words.specs.declared.phases.Phase.{Phase}
use Rattle.program.specs.Cores.{with_run}
use Rattle.program.specs.Runs.{doing, go_on, is_operating}
use Rattle.program.specs.declared.state.Core.{Core}
use Rattle.program.specs.declared.state.Run.{Run}
use Rattle.program.specs.declared.state.Work.{Work}
use Rattle.program.specs.declared.state.Work.TheVariants.{Pausing, Waiting}
use Rattle.tick.specs.Ticks.{silent, tick}
use Rattle.tick.specs.Working.{work_pause}
use Rattle.tick.proofs.Ticking.{ticks_off, ticks_on, ticks_pause}
use Rattle.leap.specs.Leaps.{no_tick, and_tick, next_tick, ticks, Leap}
use Rattle.leap.specs.Pauses.{leap_pause}
use Rattle.leap.specs.Reports.{silent_for}
use Rattle.leap.specs.declared.Leapt.{Leapt}

-- ---- what stands still
module _ (s : Core) (p : Phase) (still : silent s ≡ tick s p) (look : ℕ → Phase) (e : look s.run.place.current ≡ p) where
  still_ticks : (k : ℕ) → no_tick s ≡ ticks look k s
  unfolding ticks
  still_ticks zero = refl
  still_ticks (suc k) = ap (and_tick (no_tick s)) (still ∙ ap (tick s) (sym e)) ∙ ap (next_tick look) (still_ticks k)

module _ (s : Core) (p : Phase) (n : ℕ) (x : Leapt) where
  leap_still : silent s ≡ tick s p → Leap s p n (silent_for s n)
  leap_still still =
      record {
        within = omega arith;
        stays = refl;
        goes_on = refl;
        few = omega arith;
        same = λ (look : ℕ → Phase) (e : look s.run.place.current ≡ p). still_ticks s p still look e n;
      }

  pub leaps_off : is_operating s.run ≡ false → x ≡ silent_for s n → Leap s p n x
  leaps_off h q = subst (Leap s p n) (sym q) (leap_still (ticks_off s p (silent s) h refl))

  pub leaps_waiting : is_operating s.run ≡ true → s.run.place.work ≡ Waiting → x ≡ silent_for s n → Leap s p n x
  leaps_waiting h w q = subst (Leap s p n) (sym q) (leap_still (ticks_on s p (silent s) Waiting h w refl))

-- none is a leap
leap_none : (s : Core) (p : Phase) (n : ℕ) → Leap s p n (silent_for s 0)
unfolding ticks
leap_none s p n =
    record {
      within = omega arith;
      stays = refl;
      goes_on = refl;
      few = omega arith;
      same = λ (look : ℕ → Phase) (e : look s.run.place.current ≡ p). refl;
    }

pub leaps_none : (s : Core) (p : Phase) (n : ℕ) (x : Leapt) → x ≡ silent_for s 0 → Leap s p n x
leaps_none s p n x q = subst (Leap s p n) (sym q) (leap_none s p n)

-- ---- a timed pause
module _ (s : Core) (p : Phase) (left : ℕ) (runs : is_operating s.run ≡ true) (f : s.run.place.work ≡ Pausing left) where
  abbrev in_pause : ℕ → Core
  in_pause k = with_run s (doing s.run (Pausing (left - k)))

  pause_on : (k : ℕ) → k + 1 ≤ left - 1 → doing s.run (Pausing (left - (k + 1))) ≡ work_pause (in_pause k).run (left - k)
  unfolding work_pause
  pause_on k h =
      let a : ◌≡◌ {A = ℕ} (left - (k + 1)) (left - k - 1) = omega arith in
      ap (λ (x : ℕ). doing s.run (Pausing x)) a ∙ sym (rw (lt-leb (left - k) 1 (omega arith)) refl)

  pause_tick : (k : ℕ) → k + 1 ≤ left - 1 → silent (in_pause (k + 1)) ≡ tick (in_pause k) p
  pause_tick k h =
      ticks_pause (in_pause k) p (silent (in_pause (k + 1))) (left - k) _ (in_pause (k + 1)) runs refl (pause_on k h) refl refl

  pause_off : 0 < left → go_on s.run ≡ work_pause (in_pause (left - 1)).run (left - (left - 1))
  unfolding work_pause
  pause_off h = sym (rw (le-leb (left - (left - 1)) 1 (omega arith)) refl)

  pause_last : 0 < left → silent (with_run s (go_on s.run)) ≡ tick (in_pause (left - 1)) p
  pause_last h = ticks_pause (in_pause (left - 1)) p _ (left - (left - 1)) _ _ runs refl (pause_off h) refl refl

  module _ (look : ℕ → Phase) (e : look s.run.place.current ≡ p) where
    pause_ticks_lem : (k : ℕ) → k ≤ left - 1 → no_tick (in_pause k) ≡ ticks look k s
    unfolding ticks
    pause_ticks_lem zero h = ap (λ (w : Work). no_tick (with_run s (doing s.run w))) (ap Pausing (omega arith) ∙ sym f)
    pause_ticks_lem (suc k) h =
        ap (λ (x : ℕ). no_tick (in_pause x)) (sym (add-one k))
        ∙ ap (and_tick (no_tick (in_pause k))) (pause_tick k (omega arith) ∙ ap (tick (in_pause k)) (sym e))
        ∙ ap (next_tick look) (pause_ticks_lem k (omega arith))

    -- the last tick of it goes on
    pub whole_pause : 0 < left → no_tick (with_run s (go_on s.run)) ≡ ticks look left s
    unfolding ticks
    whole_pause h =
        let last : suc (left - 1) ≡ left = omega arith in
        ap (and_tick (no_tick (in_pause (left - 1)))) (pause_last h ∙ ap (tick (in_pause (left - 1))) (sym e))
        ∙ ap (next_tick look) (pause_ticks_lem (left - 1) (omega arith))
        ∙ ap (λ (k : ℕ). ticks look k s) last

  leap_paused : (n k : ℕ) → k ≡ min n (left - 1) → Leap s p n (silent_for (in_pause k) k)
  leap_paused n k h =
      record {
        within = omega arith;
        stays = refl;
        goes_on = refl;
        few = omega arith;
        same = λ (look : ℕ → Phase) (e : look s.run.place.current ≡ p). pause_ticks_lem look e k (omega arith);
      }

  pub leaps_paused :
      (n k : ℕ) (r : Run) (t : Core) (x : Leapt)
      → k ≡ min n (left - 1)
      → r ≡ leap_pause s.run left k
      → t ≡ with_run s r
      → x ≡ silent_for t k
      → Leap s p n x
  unfolding leap_pause
  leaps_paused n k r t x h e g q =
      subst (Leap s p n) (sym (q ∙ ap (λ (z : Core). silent_for z k) (g ∙ ap (with_run s) e))) (leap_paused n k h)
