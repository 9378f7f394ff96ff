-- One command. CLD and *RESET alone touch a total, and are told by their reply; RUN n starts afresh, and is told by its reply; behind every
-- other the pump is stopped, or the program goes on as it was, in a phase that is the same to the visit under way.
-- Assumes nothing.
use Rattle.std.specs.Prelude.{Option, unwrap_or, Result, Ok, Err, is_ok, ⊤, if◌then◌else◌, is_some}
use Rattle.std.specs.Result.{result_unwrap_or}
use Prim.Native.Nat.{ℕ, ◌≤◌}
use mathlib.Core.Path.{◌≡◌, refl, sym, ap, ◌∙◌}
use mathlib.Core.Bool.{Bool, true, false, ◌&&◌, ◌||◌, not}
use mathlib.Core.List.{[]}
use native.Mathlib.Omega.{arith}
use lib.Dec.{eqb}
use borrow.Author.Tests.{ne_eqb, eqb-true}
use Rattle.base.proofs.Choices.{and_right, false_true}
use Rattle.drive.specs.Syringe.{is_diameter}
use Rattle.drive.specs.Directions.{reverse}
use Rattle.drive.specs.declared.directions.Direction.{Direction}
use Rattle.drive.specs.declared.directions.Direction.TheVariants.{Infuse, Withdraw}
use Rattle.drive.specs.declared.rates.RateUnit.{RateUnit}
use Rattle.words.specs.Answers.{declined}
use Rattle.words.specs.Commands.{clear_number, command_number, asks_to_clear, is_reset}
use Rattle.words.specs.Functions.{fits, is_phase, is_rate_phase}
use Rattle.words.specs.declared.answers.Declined.{Declined}
use Rattle.words.specs.declared.answers.Declined.TheVariants.{NotApplicable, OutOfRange}
use Rattle.words.specs.declared.answers.Reply.{Reply}
use Rattle.words.specs.declared.answers.Reply.TheVariants as reply
use Rattle.words.specs.declared.commands.Command.{Command}
use Rattle.words.specs.declared.commands.Command.TheVariants as c
use Rattle.words.specs.declared.functions.Function.{Function}
use Rattle.words.specs.declared.phases.Phase.{Phase}
use Rattle.loops.specs.Loops.{opened}
use Rattle.dispense.specs.Ledgers.{total_of, clear}
use Rattle.dispense.specs.declared.ledgers.Ledger.{Ledger}
use Rattle.program.specs.Control.{run_on, run_from, stop_now}
use Rattle.program.specs.Cores.{with_run, with_ledger, with_syringe, with_chosen}
use Rattle.program.specs.Runs.{start, is_operating}
use Rattle.program.specs.declared.state.Core.{Core}
use Rattle.program.specs.declared.state.Run.{Run}
use Rattle.program.specs.declared.state.Work.TheVariants.{Entering}
use Rattle.command.specs.Judging.{if_in_range, judge_idle, judge_diameter, judge_volume, judge_tuning, judge_stored}
use Rattle.command.specs.Judging.{judge_direction, judge_phase, judge_function}
use Rattle.command.specs.Obeying.{answer, steer, decide, settle, set_diameter, tune, set_rate, set_phase_to, choose, clear_total, reset, obey}
use Rattle.command.specs.Phases.{with_stored, with_volume, with_direction, with_function}
use Rattle.command.specs.Queries.{ask_rate, ask_volume, ask_phase, ask_totals}
use Rattle.command.specs.declared.obeying.Edit.{Edit}
use Rattle.command.specs.declared.obeying.Edit.TheVariants.{Keep, Write, Renew}
use Rattle.command.specs.declared.obeying.Obeyed.{Obeyed}
use Rattle.soundness.proofs.Runs.{by_test}
use Rattle.condition3.proofs.Quiet.{Alike}
use Rattle.condition3.proofs.Turning.{TurnsTo, keeps, Calm, turns_run, turns_stop, turns_tune, turns_settle, settle_halts}
use Rattle.condition3.proofs.Turning.{run_on_lem, stop_on, settle_on, tune_on}
use Rattle.condition3.proofs.Views.{is_stopped_in, moves_in, moves_on}

-- what an edit leaves of the phase in hand
abbrev pub AlikeBy : Phase → Edit → Type 0
AlikeBy p Keep = Unit {0}
AlikeBy p (Write x) = Alike x p
AlikeBy p Renew = ⊥

-- an answer that says that nothing was done
abbrev pub is_error : Reply → Bool
is_error reply.Status = false
is_error reply.Malformed = true
is_error reply.NotApplicable = true
is_error reply.OutOfRange = true
is_error reply.Garbled = true
is_error (reply.Number x) = false
is_error (reply.Rate x unit) = false
is_error (reply.Volume x unit) = false
is_error (reply.Direction d) = false
is_error (reply.Phase n) = false
is_error (reply.Limit n) = false
is_error (reply.Function g) = false
is_error (reply.Totals infused withdrawn unit) = false

module _ (s : Core) (p : Phase) (calm : Calm s.run) where
  -- ---- the total of d: the command does not ask for it; it does not apply now; or it is done
  pub data Left (d : Direction) (command : Command) (o : Obeyed) : Type 0 where
    unasked : asks_to_clear d command ≡ false → total_of o.core.ledger d ≡ total_of s.ledger d → Left d command o
    not_now : is_error o.reply ≡ true → total_of o.core.ledger d ≡ total_of s.ledger d → Left d command o
    done : asks_to_clear d command ≡ true → o.reply ≡ reply.Status → total_of o.core.ledger d ≡ 0 → Left d command o

  -- ---- the program under way
  pub record Spares (t : Core) (edit : Edit) : Type 0 where
    pub run : TurnsTo s.run t.run
    pub syringe : t.syringe ≡ s.syringe
    pub phase : AlikeBy p edit

  pub data Moves (command : Command) (o : Obeyed) : Type 0 where
    goes :
        eqb (command_number command) 16 ≡ false
        → (is_stopped_in o.core.run.mode ≡ false → Spares o.core o.edit)
        → Moves command o
    declines : is_error o.reply ≡ true → Spares o.core o.edit → Moves command o
    restarts :
        eqb (command_number command) 16 ≡ true
        → o.reply ≡ reply.Status
        → o.core.run.place.work ≡ Entering
        → opened o.core.run.loops ≡ []
        → is_some o.core.run.trap ≡ false
        → Moves command o

  -- in I or W nothing but *RESET stops the pump
  abbrev Moving : Type 0
  Moving = moves_in s.run.mode s.run.place.work ≡ true

  abbrev Runs : Core → Type 0
  Runs t = Moving → is_stopped_in t.run.mode ≡ false

  pub record Deed (command : Command) (o : Obeyed) : Type 0 where
    pub left : (d : Direction) → Left d command o
    pub moves : Moves command o
    pub pins : o.core.pins ≡ s.pins
    pub halts : Moving → is_stopped_in o.core.run.mode ≡ true → is_reset command ≡ true

  still_on : Moving → is_stopped_in s.run.mode ≡ false
  still_on h = moves_on s.run.mode s.run.place.work h

  spares_same : Spares s Keep
  spares_same = record { run = keeps refl refl refl; syringe = refl; phase = tt }

  -- ---- commands but CLD and *RESET
  low_unasked : (d : Direction) (n : ℕ) → n ≤ 18 → (eqb n (clear_number d) || eqb n 21) ≡ false
  low_unasked Infuse n h = rw (ne_eqb n 19 (λ e. omega arith), ne_eqb n 21 (λ e. omega arith)) refl
  low_unasked Withdraw n h = rw (ne_eqb n 20 (λ e. omega arith), ne_eqb n 21 (λ e. omega arith)) refl

  module _ {command : Command} (low : command_number command ≤ 18) where
    leaves : (o : Obeyed) → o.core.ledger ≡ s.ledger → o.core.pins ≡ s.pins → Runs o.core → Moves command o → Deed command o
    leaves o e pins on k =
        record {
          left = λ d. unasked (low_unasked d (command_number command) low) (ap (λ (l : Ledger). total_of l d) e);
          moves = k;
          pins = pins;
          halts = λ h halt. false_true (sym (on h) ∙ halt);
        }

    module _ (other : eqb (command_number command) 16 ≡ false) where
      answers : (r : Reply) → Deed command (answer s r)
      answers r = leaves (answer s r) refl refl still_on (goes other (λ _. spares_same))

      steers :
          (x : Result Run Declined)
          → TurnsTo s.run (result_unwrap_or x s.run)
          → Runs (with_run s (result_unwrap_or x s.run))
          → Deed command (steer s x)
      steers (Ok r) k on = leaves (steer s (Ok r)) refl refl on (goes other (λ _. record { run = k; syringe = refl; phase = tt }))
      steers (Err why) k on = answers (declined why)

      decides :
          (t : Core) (edit : Edit) (v : Result ⊤ Declined)
          → t.ledger ≡ s.ledger
          → t.pins ≡ s.pins
          → Runs t
          → (v ≡ Ok tt → is_stopped_in t.run.mode ≡ false → Spares t edit)
          → Deed command (decide s t edit v)
      decides t edit (Ok x) e pins on k = leaves _ e pins on (goes other (k refl))
      decides t edit (Err why) e pins on k = answers (declined why)

      -- a setting that does not apply while operating: behind it the pump is stopped
      stopping :
          (t : Core) (edit : Edit) (v : Result ⊤ Declined)
          → t.ledger ≡ s.ledger
          → t.pins ≡ s.pins
          → t.run ≡ settle s.run
          → (v ≡ Ok tt → is_operating s.run ≡ false)
          → Deed command (decide s t edit v)
      stopping t edit v e pins run k =
          decides t edit v e pins (λ h. ap (λ (r : Run). is_stopped_in r.mode) run ∙ settle_on s.run h)
          (λ a on. false_true (sym on ∙ ap (λ (r : Run). is_stopped_in r.mode) run ∙ settle_halts s.run (k a)))

  -- ---- what does not apply while operating is accepted only of a pump that does not operate
  idle_by : (t : Bool) (v : Result ⊤ Declined) → (if t then Err NotApplicable else v) ≡ Ok tt → t ≡ false
  idle_by true v e = false_true (ap is_ok e)
  idle_by false v e = refl

  diameter_deed : (x : ℕ) → Deed (c.SetDiameter x) (set_diameter s x)
  unfolding set_diameter judge_diameter
  diameter_deed x =
      stopping (omega arith) refl (with_syringe (with_run s (settle s.run)) (record { diameter = x })) Keep _ refl refl refl
      (idle_by (is_operating s.run) (if_in_range (is_diameter x)))

  volume_idle : (t u : Bool) → ◌≡◌ {A = Result ⊤ Declined} (if t && not u then Ok tt else Err NotApplicable) (Ok tt) → u ≡ false
  volume_idle t false e = refl
  volume_idle true true e = idle_by true (Ok tt) e
  volume_idle false true e = idle_by true (Ok tt) e

  volume_deed : (x : ℕ) → Deed (c.SetVolume x) (set_phase_to s (with_volume p x) (judge_volume (is_operating s.run) p))
  unfolding judge_volume
  volume_deed x =
      stopping (omega arith) refl (with_run s (settle s.run)) (Write (with_volume p x)) _ refl refl refl
      (volume_idle (is_rate_phase p.function) (is_operating s.run))

  function_deed :
      (g : Function) (phases : ℕ)
      → Deed (c.SetFunction g) (set_phase_to s (with_function p g) (judge_function (is_operating s.run) g phases))
  unfolding judge_function
  function_deed g phases =
      stopping (omega arith) refl (with_run s (settle s.run)) (Write (with_function p g)) _ refl refl refl
      (idle_by (is_operating s.run) (if_in_range (fits phases g)))

  -- ---- RAT
  rate_deed : (next : Function) (x : ℕ) (units : Option RateUnit) → Deed (c.SetRate x units) (set_rate s p next x units)
  unfolding set_rate
  rate_deed next x units =
      by_test (Deed (c.SetRate x units)) (is_operating s.run)
      (λ _. decides (omega arith) refl (with_run s (tune s.run x)) Keep (judge_tuning s.run s.syringe p next x units) refl refl
      (λ h. tune_on s.run h x)
      (λ _ _. record { run = turns_tune s.run x; syringe = refl; phase = tt }))
      (λ idle. stopping (omega arith) refl (with_run s (settle s.run)) (Write (with_stored p x (unwrap_or units p.unit)))
      (judge_stored s.syringe p x units) refl refl refl (λ _. idle))

  -- ---- DIR: of a visit under way only where it is continuous
  direction_deed :
      (command : Command)
      → command_number command ≤ 18
      → eqb (command_number command) 16 ≡ false
      → (way : Direction)
      → Deed command (set_phase_to s (with_direction p way) (judge_direction (is_operating s.run) p))
  unfolding judge_direction
  direction_deed command low other way = go (is_operating s.run) refl (is_rate_phase p.function && eqb p.volume 0) refl
    where
      go :
          (t : Bool)
          → is_operating s.run ≡ t
          → (u : Bool)
          → (is_rate_phase p.function && eqb p.volume 0) ≡ u
          → Deed command (set_phase_to s (with_direction p way) (if t && not u then Err NotApplicable else Ok tt))
      go true e true h =
          decides low other (with_run s (settle s.run)) (Write (with_direction p way)) (Ok tt) refl refl (settle_on s.run)
          (λ _ _.
          record {
            run = turns_settle s.run;
            syringe = refl;
            phase =
                record {
                  volume = refl;
                  direction = λ some. absurd (some (eqb-true p.volume 0 (and_right (is_rate_phase p.function) (eqb p.volume 0) h)));
                };
          })
      go true e false h = answers low other reply.NotApplicable
      go false e u h = stopping low other (with_run s (settle s.run)) (Write (with_direction p way)) (Ok tt) refl refl refl (λ _. e)

  -- ---- RUN n
  from_deed : (n phases : ℕ) → Deed (c.RunFrom n) (steer s (run_from s.run n phases))
  unfolding run_from
  from_deed n phases =
      by_test Froms (is_operating s.run) (λ _. declines_as NotApplicable refl)
      (λ _. by_test Froms (is_phase phases n)
      (λ _. leaves (omega arith) (steer s (Ok (start n))) refl refl (λ _. refl) (restarts refl refl refl refl refl))
      (λ _. declines_as OutOfRange refl))
    where
      Froms : Result Run Declined → Type 0
      Froms x = Deed (c.RunFrom n) (steer s x)

      declines_as : (why : Declined) → is_error (declined why) ≡ true → Froms (Err why)
      declines_as why e = leaves (omega arith) (steer s (Err why)) refl refl still_on (declines e spares_same)

  -- ---- CLD
  cleared :
      (d way : Direction)
      → Left d (c.Clear way) (record { core = with_ledger s (clear s.ledger way); edit = Keep; reply = reply.Status })
  cleared Infuse Infuse = done refl refl refl
  cleared Infuse Withdraw = unasked refl refl
  cleared Withdraw Infuse = unasked refl refl
  cleared Withdraw Withdraw = done refl refl refl

  clear_other : (way : Direction) → eqb (command_number (c.Clear way)) 16 ≡ false
  clear_other Infuse = refl
  clear_other Withdraw = refl

  clear_deed : (way : Direction) → Deed (c.Clear way) (clear_total s way)
  unfolding clear_total judge_idle
  clear_deed way =
      by_test (λ (v : Result ⊤ Declined). Deed (c.Clear way) (decide s (with_ledger s (clear s.ledger way)) Keep v)) (is_operating s.run)
      (λ _.
      record {
        left = λ d. not_now refl refl;
        moves = goes (clear_other way) (λ _. spares_same);
        pins = refl;
        halts = λ h halt. false_true (sym (still_on h) ∙ halt);
      })
      (λ _.
      record {
        left = λ d. cleared d way;
        moves = goes (clear_other way) (λ _. record { run = keeps refl refl refl; syringe = refl; phase = tt });
        pins = refl;
        halts = λ h halt. false_true (sym (still_on h) ∙ halt);
      })

  -- ---- *RESET
  reset_left : (d : Direction) → Left d c.Reset (reset s)
  reset_left Infuse = done refl refl refl
  reset_left Withdraw = done refl refl refl

  -- ---- any command
  pub deed : (next : Function) (phases : ℕ) (command : Command) → Deed command (obey s p next phases command)
  unfolding choose
  deed next phases c.Malformed = answers (omega arith) refl reply.Malformed
  deed next phases c.Status = answers (omega arith) refl reply.Status
  deed next phases c.AskDiameter = answers (omega arith) refl (reply.Number s.syringe.diameter)
  deed next phases (c.SetDiameter x) = diameter_deed x
  deed next phases c.AskRate = answers (omega arith) refl (ask_rate s.run p)
  deed next phases (c.SetRate x units) = rate_deed next x units
  deed next phases c.AskVolume = answers (omega arith) refl (ask_volume s.syringe p)
  deed next phases (c.SetVolume x) = volume_deed x
  deed next phases c.AskDirection = answers (omega arith) refl (reply.Direction p.direction)
  deed next phases (c.SetDirection way) = direction_deed (c.SetDirection way) (omega arith) refl way
  deed next phases c.Reverse = direction_deed c.Reverse (omega arith) refl (reverse p.direction)
  deed next phases c.AskPhase = answers (omega arith) refl (ask_phase s.run s.chosen phases)
  deed next phases (c.SetPhase n) =
      decides (omega arith) refl (with_chosen s n) Keep (judge_phase (is_operating s.run) n phases) refl refl still_on
      (λ _ _. record { run = keeps refl refl refl; syringe = refl; phase = tt })
  deed next phases c.AskFunction = answers (omega arith) refl (reply.Function p.function)
  deed next phases (c.SetFunction g) = function_deed g phases
  deed next phases c.Run = steers (omega arith) refl (run_on s.run) (turns_run s.run calm) (run_on_lem s.run)
  deed next phases (c.RunFrom n) = from_deed n phases
  deed next phases c.Stop = steers (omega arith) refl (stop_now s.run) (turns_stop s.run) (stop_on s.run)
  deed next phases c.AskDispensed = answers (omega arith) refl (ask_totals s.ledger s.syringe)
  deed next phases (c.Clear way) = clear_deed way
  deed next phases c.Reset = record { left = reset_left; moves = goes refl (λ on. false_true (sym on)); pins = refl; halts = λ _ _. refl }
