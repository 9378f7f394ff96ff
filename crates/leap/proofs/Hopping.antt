-- A hop is that many ticks one after the other: none, a jump, a timed pause from its entry to its end.
-- Assumes nothing.
use Rattle.std.specs.Prelude.{None}
use Prim.Native.Nat.{ℕ, zero, suc, ◌+◌, ◌≤◌, ◌<◌}
use mathlib.Core.Path.{◌≡◌, refl, sym, ap, ◌∙◌}
use mathlib.Core.Bool.{Bool, true, false, ◌&&◌}
use native.Mathlib.Numerals.{add-one}
use native.Mathlib.Omega.{arith}
use lib.Dec.{ltb}
use borrow.Author.Tests.{ltb-true, ne_eqb}
use Rattle.base.proofs.Choices.{and_left, and_right, false_true}
use Rattle.words.specs.Functions.{is_beep, is_out, pause_ticks}
use Rattle.words.specs.declared.functions.Function.{Function}
use Rattle.words.specs.declared.functions.Function.TheVariants.{Jmp, Pas}
use Rattle.words.specs.declared.phases.Phase.{Phase}
use Rattle.program.specs.Cores.{with_run}
use Rattle.program.specs.Runs.{with_rate, doing, go_to, go_on, is_entering, is_operating}
use Rattle.program.specs.declared.state.Core.{Core}
use Rattle.program.specs.declared.state.Run.{Run}
use Rattle.program.specs.declared.state.Work.{Work}
use Rattle.program.specs.declared.state.Work.TheVariants.{Entering, Visiting, Pausing, Waiting}
use Rattle.tick.specs.Entering.{enter_pause, enter_by, enter}
use Rattle.tick.specs.Ticks.{silent, entered, work_by, tick}
use Rattle.tick.proofs.Ticking.{ticks_on}
use Rattle.leap.specs.Leaps.{no_tick, and_tick, next_tick, ticks, Hop}
use Rattle.leap.proofs.Resting.{whole_pause}

-- ---- a tick that enters a phase
module _ (s : Core) (p : Phase) where
  enters : (w : Work) → is_entering w ≡ true → entered s p ≡ work_by s p w
  enters Entering h = refl
  enters (Visiting v) h = false_true h
  enters (Pausing left) h = false_true h
  enters Waiting h = false_true h

  -- what neither beeps nor sets the output changes the program alone
  entered_quietly :
      (f : Function)
      → p.function ≡ f
      → is_beep f ≡ false
      → is_out f ≡ false
      → silent (with_run s (enter_by s.run s.pins s.syringe p f)) ≡ entered s p
  unfolding entered enter
  entered_quietly f e b o = sym (rw e (simp (b, o)))

  enters_quietly :
      (f : Function) (x : Run)
      → is_operating s.run ≡ true
      → is_entering s.run.place.work ≡ true
      → p.function ≡ f
      → is_beep f ≡ false
      → is_out f ≡ false
      → x ≡ enter_by s.run s.pins s.syringe p f
      → silent (with_run s x) ≡ tick s p
  enters_quietly f x runs at e b o q =
      ticks_on s p _ s.run.place.work runs refl
      (ap (λ (r : Run). silent (with_run s r)) q ∙ entered_quietly f e b o ∙ enters s.run.place.work at)

-- the ticks after the first
ticks_after :
    (look : ℕ → Phase) (s t : Core) → no_tick t ≡ next_tick look (no_tick s) → (k : ℕ) → ticks look k t ≡ ticks look (suc k) s
unfolding ticks
ticks_after look s t h zero = h
ticks_after look s t h (suc k) = ap (next_tick look) (ticks_after look s t h k)

-- ---- a pause that is timed, and short enough that one of the n ticks is left to enter it
timed : (t n : ℕ) → (ltb 0 t && ltb t n) ≡ true → 0 < t
timed t n h = ltb-true 0 t (and_left (ltb 0 t) (ltb t n) h)

pub fewer : (t n : ℕ) → (ltb 0 t && ltb t n) ≡ true → t < n
fewer t n h = ltb-true t n (and_right (ltb 0 t) (ltb t n) h)

-- ---- a hop from a phase that is not entered
module _ (r : Run) (f : Function) (n : ℕ) where
  -- so many ticks make x of the program and change nothing else, whatever the rest of the core is
  abbrev Makes : ℕ → Run → Type 0
  Makes k x =
      (s : Core) (look : ℕ → Phase) → (look r.place.current).function ≡ f → no_tick (with_run s x) ≡ ticks look k (with_run s r)

  hop_of : (k : ℕ) (x : Run) → k ≤ n → x.mode ≡ r.mode → Makes k x → Hop r f n (record { run = x; ticks = k })
  hop_of k x h m same =
      record {
        within = h;
        goes_on = m;
        same =
            λ (s : Core) (look : ℕ → Phase) (e : s.run ≡ r) (g : (look r.place.current).function ≡ f).
            same s look g ∙ ap (λ (y : Run). ticks look k (with_run s y)) (sym e);
      }

  pub hops_none : Hop r f n (record { run = r; ticks = 0 })
  unfolding ticks
  hops_none = hop_of 0 r (omega arith) refl (λ s look g. refl)

  module _
      (entering operating : Bool) (entering_is : entering ≡ is_entering r.place.work) (operating_is : operating ≡ is_operating r)
      (both : (entering && operating) ≡ true) where
    at : is_entering r.place.work ≡ true
    at = sym entering_is ∙ and_left entering operating both

    runs : is_operating r ≡ true
    runs = sym operating_is ∙ and_right entering operating both

    -- the tick that enters
    first_tick :
        (x : Run) (g : Function) (s : Core) (look : ℕ → Phase)
        → (look r.place.current).function ≡ g
        → is_beep g ≡ false
        → is_out g ≡ false
        → x ≡ enter_by r s.pins s.syringe (look r.place.current) g
        → no_tick (with_run s x) ≡ next_tick look (no_tick (with_run s r))
    first_tick x g s look e b o q =
        ap (and_tick (no_tick (with_run s r))) (enters_quietly (with_run s r) (look r.place.current) g x runs at e b o q)

    pub hops_jump : (k : ℕ) (x : Run) → 1 ≤ n → f ≡ Jmp k → x ≡ go_to r k → Hop r f n (record { run = x; ticks = 1 })
    unfolding ticks
    hops_jump k x h e q = hop_of 1 x h (ap (λ (y : Run). y.mode) q) (λ s look g. first_tick x (Jmp k) s look (g ∙ e) refl refl q)

    abbrev paused : ℕ → Run
    paused t = doing (with_rate r None) (Pausing t)

    enters_pause : (t : ℕ) → 0 < t → paused t ≡ enter_pause r t
    unfolding enter_pause
    enters_pause t h = sym (rw (ne_eqb t 0 (λ e. omega arith)) refl)

    -- the tick that enters it, then those of the pause under way, which stays in its phase
    makes_pause : (k t : ℕ) → f ≡ Pas k → t ≡ pause_ticks f → 0 < t → Makes (t + 1) (go_on (with_rate r None))
    makes_pause k t e d h s look g =
        let entry = enters_pause t h ∙ ap (enter_pause r) (d ∙ ap pause_ticks e) in
        whole_pause (with_run s (paused t)) (look r.place.current) t runs refl look refl h
        ∙ ticks_after look (with_run s r) (with_run s (paused t)) (first_tick (paused t) (Pas k) s look (g ∙ e) refl refl entry) t
        ∙ ap (λ (i : ℕ). ticks look i (with_run s r)) (sym (add-one t))

    pub hops_pause :
        (k t : ℕ) (y x : Run)
        → f ≡ Pas k
        → t ≡ pause_ticks f
        → (ltb 0 t && ltb t n) ≡ true
        → y ≡ with_rate r None
        → x ≡ go_on y
        → Hop r f n (record { run = x; ticks = t + 1 })
    hops_pause k t y x e d h a q =
        hop_of (t + 1) x (omega (arith, fewer t n h)) (ap (λ (z : Run). z.mode) (q ∙ ap go_on a))
        (λ s look g. ap (λ (z : Run). no_tick (with_run s z)) (q ∙ ap go_on a) ∙ makes_pause k t e d (timed t n h) s look g)
