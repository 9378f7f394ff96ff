-- The program under way: RUN, STP, the foot switch and a setting leave it as it stands, or no visit is under way before and behind them,
-- or the pump is stopped behind them.
-- Assumes nothing.
use Rattle.std.specs.Prelude.{Result, Ok, Err, if◌then◌else◌, Option, Some, None, is_some}
use Rattle.std.specs.Result.{result_unwrap_or}
use Prim.Native.Nat.{ℕ}
use mathlib.Core.Path.{◌≡◌, refl, sym, ap, ◌∙◌, subst}
use mathlib.Core.Bool.{Bool, true, false, not}
use lib.ListN.{take}
use Rattle.base.proofs.Choices.{false_true}
use Rattle.words.specs.declared.answers.Alarm.{Alarm}
use Rattle.loops.specs.Loops.{opened}
use Rattle.dispense.specs.declared.rates.Rate.{Rate}
use Rattle.words.specs.declared.answers.Declined.{Declined}
use Rattle.words.specs.declared.answers.Declined.TheVariants.{NotApplicable}
use Rattle.program.specs.Control.{run_by, run_on, stop_by, stop_now}
use Rattle.program.specs.Edges.{unless_alarm, foot_switch}
use Rattle.program.specs.Runs.{pause, stop, go_on, pending_by, pending, is_moving, is_operating, is_running, is_visiting, is_waiting}
use Rattle.program.specs.declared.state.Mode.{Mode}
use Rattle.program.specs.declared.state.Mode.TheVariants.{Stopped, Paused, Running}
use Rattle.program.specs.declared.state.Place.{Place}
use Rattle.program.specs.declared.state.Run.{Run}
use Rattle.program.specs.declared.state.Work.{Work}
use Rattle.program.specs.declared.state.Work.TheVariants.{Entering, Visiting, Pausing, Waiting}
use Rattle.command.specs.Obeying.{settle_by, settle, tune_by, tune}
use Rattle.soundness.proofs.Runs.{by_test}
use Rattle.pump.specs.Holder.{here_of, phase_at}
use Rattle.pump.specs.declared.holder.Pump.{Pump}
use Rattle.statement.specs.Facts.{Nothing, core_of, run_of}
use Rattle.statement.specs.Histories.{Whole}
use Rattle.statement.proofs.Soundness.{sound_facts}
use Rattle.condition3.proofs.Quiet.{Alike, Turns, stays, rests}
use Rattle.condition3.proofs.Views.{is_stopped_in, moves_in}

pub data TurnsTo (r t : Run) : Type 0 where
  keeps : t.place ≡ r.place → t.loops ≡ r.loops → t.trap ≡ r.trap → TurnsTo r t
  idles :
      is_visiting r.place.work ≡ false
      → is_visiting t.place.work ≡ false
      → opened t.loops ≡ opened r.loops
      → is_some t.trap ≡ is_some r.trap
      → TurnsTo r t
  halts : is_stopped_in t.mode ≡ true → TurnsTo r t

-- a stopped pump has nothing under way
abbrev pub Calm : Run → Type 0
Calm r = (alarm : Option Alarm) → r.mode ≡ Stopped alarm → Nothing r

pub calm : (p : Pump) → Whole p → Calm (run_of p)
calm p w alarm e = (sound_facts p w.sound).stopped alarm e

-- a program that runs and does not move is in a trigger wait
waits : (r : Run) → r.mode ≡ Running → is_moving r ≡ false → is_visiting r.place.work ≡ false
waits r e h = go r.place.work refl
  where
    go : (w : Work) → r.place.work ≡ w → is_visiting w ≡ false
    go Entering k = refl
    go (Visiting v) k = false_true (sym h ∙ rw (e, k) refl)
    go (Pausing left) k = refl
    go Waiting k = refl

module _ (r : Run) where
  -- what does not apply leaves the program as it is
  abbrev steered : Result Run Declined → Run
  steered x = result_unwrap_or x r

  abbrev Steers : Result Run Declined → Type 0
  Steers x = TurnsTo r (steered x)

  pub turns_run : Calm r → Steers (run_on r)
  unfolding run_on
  turns_run calm = go r.mode refl
    where
      go : (m : Mode) → r.mode ≡ m → Steers (run_by r m)
      go (Stopped alarm) e =
          let n = calm alarm e in
          idles (ap is_visiting n.no_work) refl (ap (λ (k : ℕ). take k r.loops.slots) (sym n.no_loop))
          (ap (is_some {T = ℕ}) (sym n.no_trap))
      go Paused e = keeps refl refl refl
      go Running e = by_test Steers (is_moving r) (λ _. keeps refl refl refl) (λ h. idles (waits r e h) refl refl refl)

  pub turns_stop : Steers (stop_now r)
  unfolding stop_now
  turns_stop = go r.mode
    where
      go : (m : Mode) → Steers (stop_by r m)
      go (Stopped alarm) = keeps refl refl refl
      go Paused = halts refl
      go Running = by_test Steers (is_moving r) (λ _. keeps refl refl refl) (λ _. halts refl)

  pub turns_foot : Calm r → TurnsTo r (foot_switch r)
  unfolding foot_switch
  turns_foot calm = go (pending r)
    where
      go : (a : Option Alarm) → TurnsTo r (unless_alarm r a)
      go (Some alarm) = keeps refl refl refl
      go None = by_test Steers (is_moving r) (λ _. turns_stop) (λ _. turns_run calm)

  -- ---- settings
  pub turns_tune : (x : ℕ) → TurnsTo r (tune r x)
  unfolding tune
  turns_tune x = go r.rate
    where
      go : (rate : Option Rate) → TurnsTo r (tune_by r x rate)
      go None = keeps refl refl refl
      go (Some old) = keeps refl refl refl

  pub turns_settle : TurnsTo r (settle r)
  unfolding settle
  turns_settle = go r.mode
    where
      go : (m : Mode) → TurnsTo r (settle_by r m)
      go (Stopped alarm) = keeps refl refl refl
      go Paused = halts refl
      go Running = keeps refl refl refl

  -- one that does not apply while operating stops the pump, or finds it stopped
  pub settle_halts : is_operating r ≡ false → is_stopped_in (settle r).mode ≡ true
  unfolding settle
  settle_halts h = go r.mode refl
    where
      go : (m : Mode) → r.mode ≡ m → is_stopped_in (settle_by r m).mode ≡ true
      go (Stopped alarm) e = ap is_stopped_in e
      go Paused e = refl
      go Running e = false_true (sym h ∙ ap is_running e)

  -- ---- in I and W, RUN does not apply, STP and the foot switch pause, and a setting leaves the mode
  module _ (h : moves_in r.mode r.place.work ≡ true) where
    runs : r.mode ≡ Running
    runs = go r.mode refl
      where
        go : (m : Mode) → r.mode ≡ m → m ≡ Running
        go (Stopped alarm) e = false_true (sym (ap (λ (m : Mode). moves_in m r.place.work) e) ∙ h)
        go Paused e = false_true (sym (ap (λ (m : Mode). moves_in m r.place.work) e) ∙ h)
        go Running e = refl

    moving : is_moving r ≡ true
    moving = rw runs (go r.place.work (ap (λ (m : Mode). moves_in m r.place.work) (sym runs) ∙ h))
      where
        go : (w : Work) → moves_in Running w ≡ true → not (is_waiting w) ≡ true
        go Entering e = refl
        go (Visiting v) e = refl
        go (Pausing left) e = refl
        go Waiting e = e

    pub run_on_lem : is_stopped_in (result_unwrap_or (run_on r) r).mode ≡ false
    unfolding run_on
    run_on_lem =
        ap (λ (m : Mode). is_stopped_in (steered (run_by r m)).mode) runs
        ∙ ap (λ (t : Bool). is_stopped_in (steered (if t then Err NotApplicable else Ok (go_on r))).mode) moving
        ∙ ap is_stopped_in runs

    pub stop_on : is_stopped_in (result_unwrap_or (stop_now r) r).mode ≡ false
    unfolding stop_now
    stop_on =
        ap (λ (m : Mode). is_stopped_in (steered (stop_by r m)).mode) runs
        ∙ ap (λ (t : Bool). is_stopped_in (steered (if t then Ok (pause r) else Ok (stop r))).mode) moving

    pub foot_on : is_stopped_in (foot_switch r).mode ≡ false
    unfolding foot_switch
    foot_on =
        ap (λ (m : Mode). is_stopped_in (unless_alarm r (pending_by m)).mode) runs
        ∙ ap (λ (t : Bool). is_stopped_in (steered (if t then stop_now r else run_on r)).mode) moving
        ∙ stop_on

    pub settle_on : is_stopped_in (settle r).mode ≡ false
    unfolding settle
    settle_on = ap (λ (m : Mode). is_stopped_in (settle_by r m).mode) runs ∙ ap is_stopped_in runs

    pub tune_on : (x : ℕ) → is_stopped_in (tune r x).mode ≡ false
    unfolding tune
    tune_on x = go r.rate
      where
        go : (rate : Option Rate) → is_stopped_in (tune_by r x rate).mode ≡ false
        go None = ap is_stopped_in runs
        go (Some old) = ap is_stopped_in runs

-- ---- of a pump, where the phases are the same to the visit under way
pub turns_as :
    (p q : Pump)
    → (core_of q).syringe ≡ (core_of p).syringe
    → ((n : ℕ) → Alike (phase_at q.phases n) (phase_at p.phases n))
    → TurnsTo (run_of p) (run_of q)
    → is_stopped_in (run_of q).mode ≡ false
    → Turns p q
turns_as p q y a (keeps place l t) on =
    stays place l t y
    (subst (λ (x : Place). Alike (here_of q) (phase_at p.phases x.current)) place (a (run_of q).place.current))
turns_as p q y a (idles before behind l t) on = rests before behind l t
turns_as p q y a (halts h) on = false_true (sym on ∙ h)
