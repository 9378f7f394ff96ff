-- A command whose number is writable keeps a sound core and its phases sound.
-- Assumes nothing.
use Rattle.std.specs.Prelude.{Option, is_none, Result, Ok, Err, is_ok, ⊤, if◌then◌else◌, Some, None}
use Rattle.std.specs.Result.{result_unwrap_or}
use Prim.Native.Nat.{ℕ, ◌≤◌}
use mathlib.Core.Path.{◌≡◌, refl, sym, ap, subst, ◌∙◌}
use mathlib.Core.Bool.{Bool, true, false, ◌&&◌, not}
use native.Mathlib.Omega.{arith}
use lib.Dec.{eqb}
use borrow.Author.Tests.{eqb-true, not-true}
use Rattle.base.proofs.Choices.{and_left, and_right, false_true}
use Rattle.decimal.specs.Writable.{is_writable}
use Rattle.decimal.proofs.Grid.{writable_grid}
use Rattle.drive.specs.Rates.{is_usable}
use Rattle.drive.specs.Syringe.{is_diameter}
use Rattle.drive.specs.Directions.{reverse}
use Rattle.drive.specs.declared.directions.Direction.{Direction}
use Rattle.drive.specs.declared.rates.RateUnit.{RateUnit}
use Rattle.words.specs.Commands.{amount}
use Rattle.words.specs.Functions.{fits, is_phase, is_flow, is_ramp, is_rate_phase}
use Rattle.words.specs.Phases.{is_sound_phase}
use Rattle.words.specs.declared.answers.Declined.{Declined}
use Rattle.words.specs.declared.answers.Declined.TheVariants.{NotApplicable, OutOfRange}
use Rattle.words.specs.declared.commands.Command.{Command}
use Rattle.words.specs.declared.commands.Command.TheVariants as c
use Rattle.words.specs.declared.functions.Function.{Function}
use Rattle.words.specs.declared.phases.Phase.{Phase}
use Rattle.dispense.specs.declared.rates.Rate.{Rate}
use Rattle.program.specs.Cores.{with_run, with_chosen}
use Rattle.program.specs.Runs.{with_rate, is_visiting, is_running, is_operating}
use Rattle.program.specs.Sound.{Table, is_sound_core}
use Rattle.program.specs.Statuses.{in_hand}
use Rattle.program.specs.declared.state.Core.{Core}
use Rattle.program.specs.declared.state.Mode.{Mode}
use Rattle.program.specs.declared.state.Mode.TheVariants.{Stopped, Paused, Running}
use Rattle.program.specs.declared.state.Run.{Run}
use Rattle.program.proofs.Parts.{RunClauses, run_clauses, run_sound, CoreClauses, core_sound}
use Rattle.command.specs.Judging as judging
use Rattle.command.specs.Obeying as obeying
use Rattle.command.specs.Obeying.{decide, settle_by, settle, set_phase_to, tune_by, obey}
use Rattle.command.specs.Phases.{with_volume, with_direction, with_function}
use Rattle.command.specs.declared.obeying.Edit.{Edit}
use Rattle.command.specs.declared.obeying.Edit.TheVariants.{Keep, Write}
use Rattle.soundness.specs.Kept.{Kept, KeptRun, table_with, WellBy, Well}
use Rattle.soundness.proofs.Control.{run_on_kept, run_from_kept, stop_now_kept}
use Rattle.soundness.proofs.Cores.{clauses, run_kept, with_run_kept, given_sound, reset_sound}
use Rattle.soundness.proofs.Runs.{by_test, phase_bounds, Going, going_of, going_with, within}
use Rattle.soundness.proofs.Settings as set
use Rattle.soundness.proofs.Working.{figure_sound, rate_not_stop}

-- ---- what a judgement that accepts tells
by_then : (t : Bool) (u v : Result ⊤ Declined) → is_ok v ≡ false → (if t then u else v) ≡ Ok tt → (t ≡ true) × (u ≡ Ok tt)
by_then true u v n e = (refl, e)
by_then false u v n e = false_true (sym n ∙ ap is_ok e)

by_else : (t : Bool) (u v : Result ⊤ Declined) → is_ok u ≡ false → (if t then u else v) ≡ Ok tt → (t ≡ false) × (v ≡ Ok tt)
by_else true u v n e = false_true (sym n ∙ ap is_ok e)
by_else false u v n e = (refl, e)

-- operating is the one mode
running_of : (m : Mode) → is_running m ≡ true → m ≡ Running
running_of (Stopped alarm) e = false_true e
running_of Paused e = false_true e
running_of Running e = refl

module _ (phases : ℕ) (look : ℕ → Phase) (table : Table phases look) (s : Core) (kept : Kept phases look s) where
  abbrev hand : Phase
  hand = look (in_hand s)

  abbrev here : Phase
  here = look s.run.place.current

  parts : CoreClauses phases s here
  parts = clauses phases look s kept

  program : RunClauses phases s.run
  program = run_clauses phases s.run parts.under_way_lem

  -- ---- the phase that a command concerns
  pub in_hand_ge : 1 ≤ in_hand s
  in_hand_ge = by_test (λ (n : ℕ). 1 ≤ n) (is_operating s.run) (λ q. program.least) (λ q. parts.chosen_least)

  going : is_operating s.run ≡ true → Going phases s.run
  going e = going_of phases s.run program (running_of s.run.mode e)

  -- ---- what is declined changes nothing
  decided :
      (after : Core) (edit : Edit) (v : Result ⊤ Declined)
      → (v ≡ Ok tt → WellBy phases look s after edit)
      → Well phases look s (decide s after edit v)
  decided after edit (Ok x) f = f refl
  decided after edit (Err why) f = kept

  steered : (x : Result Run Declined) → KeptRun phases look s.syringe (result_unwrap_or x s.run) → Well phases look s (obeying.steer s x)
  steered (Ok r) k = with_run_kept phases look s kept _ k
  steered (Err why) k = kept

  -- ---- another phase in hand, not operating: VOL, FUN, the stored rate, DIR
  write_well :
      is_operating s.run ≡ false → (p : Phase) → is_sound_phase phases p ≡ true → WellBy phases look s (with_run s (settle s.run)) (Write p)
  unfolding settle
  write_well rests p sound =
      let chosen : in_hand s ≡ s.chosen = ap (λ (t : Bool). if t then s.run.place.current else s.chosen) rests in (
        sound,
        omega (arith, chosen, parts.chosen_most),
        set.settle_sound phases s here parts rests s.syringe _ parts.in_range parts.written,
      )

  -- ---- DIA
  set_diameter_well : (x : ℕ) → is_writable x ≡ true → Well phases look s (obeying.set_diameter s x)
  unfolding obeying.set_diameter judging.judge_diameter
  set_diameter_well x w =
      decided _ Keep (judging.judge_diameter (is_operating s.run) x)
      (λ e.
      let idle = by_else (is_operating s.run) (Err NotApplicable) _ refl e in
      let fit = by_then (is_diameter x) (Ok tt) (Err OutOfRange) refl idle.1 in
      set.settle_sound phases s here parts idle.0 (record { diameter = x }) _ fit.0 w)

  -- ---- RAT: the current rate alone, at one that is usable
  tune_well :
      (x : ℕ)
      → is_writable x ≡ true
      → is_operating s.run ≡ true
      → (rate : Option Rate)
      → judging.judge_rate s.syringe x rate ≡ Ok tt
      → Kept phases look (with_run s (tune_by s.run x rate))
  tune_well x w op None e = kept
  tune_well x w op (Some r) e =
      let d = s.syringe in
      let g = going op in
      let u = (by_then (is_usable d x r.unit) (Ok tt) (Err OutOfRange) refl e).0 in
      let tuned : Rate = record { unit = r.unit; thousandths = x } in
      with_run_kept phases look s kept (with_rate s.run (Some tuned)) (
        run_sound phases _
            (going_with phases s.run (Some tuned) s.run.trap s.run.loops g (writable_grid x w).bounded
            g.clauses.trap_sound g.clauses.loops_sound).clauses,
        set.work_stays d here here.direction s.run.rate (Some tuned) s.run.place.work (λ _. u) parts.work_sound,
      )

  set_rate_well : (next : Function) (x : ℕ) (units : Option RateUnit) → is_writable x ≡ true → Well phases look s (obeying.set_rate s hand next x units)
  unfolding obeying.set_rate obeying.tune judging.judge_tuning
  set_rate_well next x units w =
      let now = is_flow hand.function && is_visiting s.run.place.work && not (is_ramp next) && is_none units in
      by_test (Well phases look s) (is_operating s.run)
      (λ op.
      decided _ Keep (judging.judge_tuning s.run s.syringe hand next x units)
      (λ e. tune_well x w op s.run.rate (by_then now _ (Err NotApplicable) refl e).1))
      (λ rests.
      decided (with_run s (settle s.run)) (Write _) (judging.judge_stored s.syringe hand x units)
      (λ e. write_well rests _ (set.stored_sound phases hand (table.every (in_hand s)) x _ w)))

  -- ---- VOL
  set_volume_well :
      (x : ℕ) → is_writable x ≡ true → Well phases look s (set_phase_to s (with_volume hand x) (judging.judge_volume (is_operating s.run) hand))
  unfolding judging.judge_volume
  set_volume_well x w =
      decided (with_run s (settle s.run)) (Write _) (judging.judge_volume (is_operating s.run) hand)
      (λ e.
      let both = by_then (is_rate_phase hand.function && not (is_operating s.run)) (Ok tt) (Err NotApplicable) refl e in
      write_well (not-true (is_operating s.run) (and_right (is_rate_phase hand.function) _ both.0)) _
      (set.volume_sound phases hand (table.every (in_hand s)) x w))

  -- ---- PHN
  choose_well : (n : ℕ) → Well phases look s (obeying.choose s n phases)
  unfolding obeying.choose judging.judge_phase
  choose_well n =
      decided _ Keep (judging.judge_phase (is_operating s.run) n phases)
      (λ e.
      let idle = by_else (is_operating s.run) (Err NotApplicable) _ refl e in
      let fit = (by_then (is_phase phases n) (Ok tt) (Err OutOfRange) refl idle.1).0 in
      core_sound phases (with_chosen s n) here
      (record {
        in_range = parts.in_range;
        written = parts.written;
        chosen_least = (phase_bounds phases n fit).0;
        chosen_most = (phase_bounds phases n fit).1;
        ledger_sound = parts.ledger_sound;
        under_way_lem = parts.under_way_lem;
        work_sound = parts.work_sound;
      }))

  -- ---- FUN
  set_function_well :
      (g : Function) → Well phases look s (set_phase_to s (with_function hand g) (judging.judge_function (is_operating s.run) g phases))
  unfolding judging.judge_function
  set_function_well g =
      decided (with_run s (settle s.run)) (Write _) (judging.judge_function (is_operating s.run) g phases)
      (λ e.
      let idle = by_else (is_operating s.run) (Err NotApplicable) _ refl e in
      let fit = (by_then (fits phases g) (Ok tt) (Err OutOfRange) refl idle.1).0 in
      write_well idle.0 _ (set.function_sound phases hand (table.every (in_hand s)) g fit))

  -- ---- CLD
  clear_well : (way : Direction) → Well phases look s (obeying.clear_total s way)
  unfolding obeying.clear_total
  clear_well way =
      decided _ Keep (judging.judge_idle (is_operating s.run))
      (λ e.
      given_sound phases look s kept s.run _ here parts.under_way_lem parts.work_sound
      (figure_sound s.ledger way 0 parts.ledger_sound (omega arith)))

  -- ---- DIR, also while operating: no test of the core mentions a direction
  directed_kept : (k : ℕ) (way : Direction) → Kept phases (table_with look k (with_direction (look k) way)) s
  directed_kept k way =
      let directed = given_sound phases look s kept s.run s.ledger (with_direction here way) parts.under_way_lem
      (set.work_stays s.syringe here way s.run.rate s.run.rate s.run.place.work (λ u. u) parts.work_sound)
      parts.ledger_sound in
      by_test (λ (p : Phase). is_sound_core phases s p ≡ true) (eqb s.run.place.current k)
      (λ e. subst (λ (n : ℕ). is_sound_core phases s (with_direction (look n) way) ≡ true) (eqb-true s.run.place.current k e) directed)
      (λ e. kept)

  -- a rate phase is not past the last
  rate_within : is_operating s.run ≡ true → is_rate_phase hand.function ≡ true → in_hand s ≤ phases
  rate_within op k =
      let current : in_hand s ≡ s.run.place.current = ap (λ (t : Bool). if t then s.run.place.current else s.chosen) op in
      let rate = subst (λ (n : ℕ). is_rate_phase (look n).function ≡ true) current k in
      let most = within phases look table s.run (going op).clauses (rate_not_stop here.function rate) in
      omega (arith, current, most)

  direction_well :
      (way : Direction) → Well phases look s (set_phase_to s (with_direction hand way) (judging.judge_direction (is_operating s.run) hand))
  unfolding settle judging.judge_direction
  direction_well way =
      decided (with_run s (settle s.run)) (Write _) (judging.judge_direction (is_operating s.run) hand)
      (λ e.
      go (is_operating s.run) refl (is_rate_phase hand.function && eqb hand.volume 0) refl
      (by_else _ (Err NotApplicable) (Ok tt) refl e).0)
    where
      sound : is_sound_phase phases (with_direction hand way) ≡ true
      sound = set.direction_sound phases hand (table.every (in_hand s)) way

      go :
          (t : Bool)
          → is_operating s.run ≡ t
          → (u : Bool)
          → (is_rate_phase hand.function && eqb hand.volume 0) ≡ u
          → (t && not u) ≡ false
          → WellBy phases look s (with_run s (settle s.run)) (Write (with_direction hand way))
      go true op true k n = (
        sound,
        rate_within op (and_left (is_rate_phase hand.function) (eqb hand.volume 0) k),
        subst (λ (m : Mode). Kept phases (table_with look (in_hand s) (with_direction hand way)) (with_run s (settle_by s.run m)))
            (sym (running_of s.run.mode op)) (directed_kept (in_hand s) way),
      )
      go true op false k n = false_true (sym n)
      go false rests u k n = write_well rests _ sound

  -- ---- each command
  pub kept_obey :
      1 ≤ phases
      → (next : Function) (command : Command)
      → is_writable (amount command) ≡ true
      → Well phases look s (obey s hand next phases command)
  kept_obey h next c.Malformed w = kept
  kept_obey h next c.Status w = kept
  kept_obey h next c.AskDiameter w = kept
  kept_obey h next (c.SetDiameter x) w = set_diameter_well x w
  kept_obey h next c.AskRate w = kept
  kept_obey h next (c.SetRate x units) w = set_rate_well next x units w
  kept_obey h next c.AskVolume w = kept
  kept_obey h next (c.SetVolume x) w = set_volume_well x w
  kept_obey h next c.AskDirection w = kept
  kept_obey h next (c.SetDirection way) w = direction_well way
  kept_obey h next c.Reverse w = direction_well (reverse hand.direction)
  kept_obey h next c.AskPhase w = kept
  kept_obey h next (c.SetPhase n) w = choose_well n
  kept_obey h next c.AskFunction w = kept
  kept_obey h next (c.SetFunction g) w = set_function_well g
  kept_obey h next c.Run w = steered _ (run_on_kept phases look _ s.run (run_kept phases look s kept) table)
  kept_obey h next (c.RunFrom n) w = steered _ (run_from_kept phases look _ s.run (run_kept phases look s kept) n)
  kept_obey h next c.Stop w = steered _ (stop_now_kept phases look _ s.run (run_kept phases look s kept))
  kept_obey h next c.AskDispensed w = kept
  kept_obey h next (c.Clear way) w = clear_well way
  kept_obey h next c.Reset w = reset_sound phases h s
