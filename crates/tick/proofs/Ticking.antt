-- A tick by its cases: whether the program runs, the work under way, the function of the phase that is entered.
-- Assumes nothing.
use Prim.Native.Nat.{ℕ}
use mathlib.Core.Path.{◌≡◌, refl, sym, ap, ◌∙◌}
use mathlib.Core.Bool.{true, false}
use Rattle.base.proofs.Choices.{false_true}
use Rattle.drive.specs.declared.syringe.Syringe.{Syringe}
use Rattle.words.specs.Functions.{pause_ticks}
use Rattle.words.specs.declared.functions.Function.{Function}
use Rattle.words.specs.declared.phases.Phase.{Phase}
use Rattle.dispense.specs.declared.visits.Visit.{Visit}
use Rattle.program.specs.Cores.{with_run}
use Rattle.program.specs.Runs.{is_running, is_operating}
use Rattle.program.specs.declared.state.Core.{Core}
use Rattle.program.specs.declared.state.Mode.{Mode}
use Rattle.program.specs.declared.state.Mode.TheVariants.{Stopped, Paused, Running}
use Rattle.program.specs.declared.state.Pins.{Pins}
use Rattle.program.specs.declared.state.Run.{Run}
use Rattle.program.specs.declared.state.Work.{Work}
use Rattle.program.specs.declared.state.Work.TheVariants.{Visiting, Pausing}
use Rattle.tick.specs.Entering.{enter_pause, enter_by, enter}
use Rattle.tick.specs.Ticks.{silent, worked, work_by, tick_by, tick}
use Rattle.tick.specs.Working.{work_visit, work_pause}
use Rattle.tick.specs.declared.Moved.{Moved}
use Rattle.tick.specs.declared.working.Given.{Given}

module _ (r : Run) (pins : Pins) (d : Syringe) (p : Phase) (x : Run) (g : Function) (e : p.function ≡ g) where
  pub enters_by : x ≡ enter_by r pins d p g → x ≡ enter r pins d p
  unfolding enter
  enters_by q = q ∙ ap (enter_by r pins d p) (sym e)

  -- a pause's ticks are told by the phase's function
  pub enters_pause :
      (t : ℕ)
      → t ≡ pause_ticks p.function
      → x ≡ enter_pause r t
      → enter_pause r (pause_ticks g) ≡ enter_by r pins d p g
      → x ≡ enter r pins d p
  enters_pause t k q h = enters_by (q ∙ ap (enter_pause r) (k ∙ ap pause_ticks e) ∙ h)

pub ruleset entering = (enters_by, enters_pause)

-- nothing moves unless the program runs
module _ (s : Core) (p : Phase) where
  still : (m : Mode) → is_running m ≡ false → silent s ≡ tick_by s p m
  still (Stopped alarm) h = refl
  still Paused h = refl
  still Running h = false_true (sym h)

  runs : (m : Mode) → is_running m ≡ true → work_by s p s.run.place.work ≡ tick_by s p m
  runs (Stopped alarm) h = false_true h
  runs Paused h = false_true h
  runs Running h = refl

  module _ (x : Moved) where
    pub ticks_off : is_operating s.run ≡ false → x ≡ silent s → x ≡ tick s p
    unfolding tick
    ticks_off h q = q ∙ still s.run.mode h

    pub ticks_on : (w : Work) → is_operating s.run ≡ true → s.run.place.work ≡ w → x ≡ work_by s p w → x ≡ tick s p
    unfolding tick
    ticks_on w h k q = q ∙ ap (work_by s p) (sym k) ∙ runs s.run.mode h

    pub ticks_visit :
        (v : Visit) (g : Given)
        → is_operating s.run ≡ true
        → s.run.place.work ≡ Visiting v
        → g ≡ work_visit s.run s.ledger s.syringe p.direction v
        → x ≡ worked s p.direction g
        → x ≡ tick s p
    ticks_visit v g h k e q = ticks_on (Visiting v) h k (q ∙ ap (worked s p.direction) e)

    pub ticks_pause :
        (left : ℕ) (r : Run) (t : Core)
        → is_operating s.run ≡ true
        → s.run.place.work ≡ Pausing left
        → r ≡ work_pause s.run left
        → t ≡ with_run s r
        → x ≡ silent t
        → x ≡ tick s p
    ticks_pause left r t h k e f q = ticks_on (Pausing left) h k (q ∙ ap silent (f ∙ ap (with_run s) e))
