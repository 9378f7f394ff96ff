-- A state at power-up is whole; a whole state with another core, line, link or phase.
-- Assumes nothing.
use Prim.Native.Nat.{ℕ, zero, suc}
use mathlib.Core.Path.{◌≡◌, refl, sym, ap, ◌∙◌, subst}
use mathlib.Core.Bool.{Bool, true, ◌||◌, not}
use mathlib.Core.List.{List}
use lib.Dec.{eqb}
use lib.ListN.{length, replicate}
use Rattle.std.specs.Prelude.{Some}
use Rattle.base.proofs.Each.{and_both}
use Rattle.decimal.specs.Writable.{is_writable}
use Rattle.words.specs.Phases.{power_up, is_sound_phase}
use Rattle.words.specs.declared.answers.Alarm.TheVariants.{TimeOut}
use Rattle.words.specs.declared.phases.Phase.{Phase}
use Rattle.program.specs.declared.state.Core.{Core}
use Rattle.program.specs.Sound.{is_sound_core}
use Rattle.program.proofs.Parts.{core_clauses, run_clauses}
use Rattle.soundness.specs.Kept.{Kept}
use Rattle.soundness.proofs.Cores.{power_up_sound, with_run_kept}
use Rattle.soundness.proofs.Runs.{stop_kept}
use Rattle.line.specs.Lines.{is_sound_line}
use Rattle.line.specs.declared.lines.Line.{Line}
use Rattle.line.proofs.Theorems.{empty_sound}
use Rattle.link.specs.Link.{is_sound_link, link_tick}
use Rattle.link.specs.declared.Link.{Link}
use Rattle.link.proofs.Soundness.{basic_sound}
use Rattle.pump.specs.Device.{is_line_apart}
use Rattle.pump.specs.Elapsing.{time_out}
use Rattle.pump.specs.Holder.{phase_count, phase_at, with_phases, fresh_phases, fresh_pump, is_sound_phases, is_sound_pump}
use Rattle.pump.specs.declared.holder.Pump.{Pump}
use Rattle.pump.proofs.Renewing.{fresh_count}
use Rattle.pump.proofs.Kept.{pump_phases, pump_core, pump_line, pump_link, pump_apart, pump_sound, core_sound}
use Rattle.statement.specs.Histories.{Model, Whole}
use Rattle.statement.specs.Facts.{link_of}
use Rattle.statement.specs.Outcomes.{pump_with_core, pump_with_line, pump_with_link}
use Rattle.statement.proofs.Links.{empty_apart, tick_safe}
use Rattle.statement.proofs.Placing.{placed_sound}

-- ---- the phases at power-up, whatever their number
module _ (phases : ℕ) where
  first_sound : is_sound_phase phases (power_up 1) ≡ true
  unfolding is_sound_phase is_writable power_up
  first_sound = refl

  other_sound : is_sound_phase phases (power_up 2) ≡ true
  unfolding is_sound_phase is_writable power_up
  other_sound = refl

  others_sound : (n : ℕ) → is_sound_phases phases (replicate n (power_up 2)) ≡ true
  unfolding is_sound_phases
  others_sound zero = refl
  others_sound (suc n) = and_both (is_sound_phase phases (power_up 2)) _ other_sound (others_sound n)

  pub fresh_phases_lem : (n : ℕ) → is_sound_phases phases (fresh_phases n) ≡ true
  unfolding fresh_phases
  fresh_phases_lem n = placed_sound phases (replicate n (power_up 2)) 0 (power_up 1) (others_sound n) first_sound

-- ---- a whole state at power-up
module _ (n : ℕ) (m : Model n) where
  fresh_model : Model (phase_count (fresh_pump n))
  fresh_model = subst Model (sym (fresh_count n)) m

  pub fresh_whole : Whole (fresh_pump n)
  fresh_whole =
      record {
        model = fresh_model;
        places = refl;
        packet_places = refl;
        sound =
            pump_sound (fresh_pump n) (fresh_phases_lem _ n) (power_up_sound _ fresh_model.some _) empty_sound basic_sound
            (empty_apart (fresh_pump n).device refl);
      }

-- ---- one part replaced
module _ (p : Pump) where
  pub core_whole : Whole p → (s : Core) → Kept (phase_count p) (phase_at p.phases) s → Whole (pump_with_core p s)
  core_whole w s k =
      record { model = w.model; places = w.places; packet_places = w.packet_places; sound = core_sound p w.sound s k }

  -- another line: any in Basic mode; in Safe mode an empty one
  pub line_whole :
      Whole p
      → (l : Line)
      → length l.bytes ≡ 40
      → is_sound_line l ≡ true
      → is_line_apart (pump_with_line p l).device ≡ true
      → Whole (pump_with_line p l)
  line_whole w l h e a =
      record {
        model = w.model;
        places = h;
        packet_places = w.packet_places;
        sound = pump_sound (pump_with_line p l) (pump_phases p w.sound) (pump_core p w.sound) e (pump_link p w.sound) a;
      }

  -- another link
  pub link_whole :
      Whole p
      → (l : Link)
      → length l.bytes ≡ 40
      → is_sound_link l ≡ true
      → is_line_apart (pump_with_link p l).device ≡ true
      → Whole (pump_with_link p l)
  link_whole w l h e a =
      record {
        model = w.model;
        places = w.places;
        packet_places = h;
        sound = pump_sound (pump_with_link p l) (pump_phases p w.sound) (pump_core p w.sound) (pump_line p w.sound) e a;
      }

  -- other phases, as many, with a core that is sound among them
  pub phases_whole :
      (ps : List Phase) (s : Core)
      → Whole p
      → length ps ≡ phase_count p
      → is_sound_phases (phase_count p) ps ≡ true
      → Kept (phase_count p) (phase_at ps) s
      → Whole (with_phases (pump_with_core p s) ps)
  phases_whole ps s w n e k =
      record {
        model = subst Model (sym n) w.model;
        places = w.places;
        packet_places = w.packet_places;
        sound =
            pump_sound (with_phases (pump_with_core p s) ps) (ap (λ c. is_sound_phases c ps) n ∙ e)
            (ap (λ c. is_sound_core c s (phase_at ps s.run.place.current)) n ∙ k)
            (pump_line p w.sound) (pump_link p w.sound) (pump_apart p w.sound);
      }

-- ---- alarm T leaves a sound core, and a tick of the link a sound pump
pub kept_time_out : (phases : ℕ) (look : ℕ → Phase) (s : Core) → Kept phases look s → Kept phases look (time_out s)
kept_time_out phases look s kept =
    let core = core_clauses phases s (look s.run.place.current) kept in
    with_run_kept phases look s kept _ (stop_kept phases look s.syringe s.run (run_clauses phases s.run core.under_way_lem) (Some TimeOut))

pub linked_sound :
    (p : Pump) (l : Link)
    → is_sound_pump p ≡ true
    → is_sound_link l ≡ true
    → is_line_apart (pump_with_link p l).device ≡ true
    → is_sound_pump (pump_with_link p l) ≡ true
linked_sound p l e h a = pump_sound (pump_with_link p l) (pump_phases p e) (pump_core p e) (pump_line p e) h a

pub tick_apart : (p : Pump) → is_sound_pump p ≡ true → is_line_apart (pump_with_link p (link_tick (link_of p))).device ≡ true
tick_apart p e = ap (λ (t : Bool). not t || eqb p.device.line.len 0) (tick_safe (link_of p)) ∙ pump_apart p e
