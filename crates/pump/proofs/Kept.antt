-- A sound pump taken apart into its phases, its core, its line and its link, and put together again; its phases as a table; whatever
-- their number.
-- Assumes nothing.
use Prim.Native.Nat.{ℕ, zero, suc, ◌+◌}
use mathlib.Core.Path.{◌≡◌, refl, ap}
use mathlib.Core.Bool.{Bool, true}
use mathlib.Core.List.{List, [], ◌∷◌}
use native.Mathlib.Omega.{arith}
use lib.ListN.{length, get_or, get_or-eq_default}
use Rattle.base.proofs.Choices.{and_left, and_right}
use Rattle.base.proofs.Each.{Each, each, all_of, and_both}
use Rattle.decimal.specs.Writable.{is_writable}
use Rattle.words.specs.Phases.{is_sound_phase}
use Rattle.words.specs.declared.phases.Phase.{Phase}
use Rattle.program.specs.Sound.{Table, is_sound_core}
use Rattle.program.specs.declared.state.Core.{Core}
use Rattle.line.specs.Lines.{is_sound_line}
use Rattle.link.specs.Link.{is_sound_link}
use Rattle.pump.specs.Device.{with_core, is_line_apart, device_tests, is_sound_device}
use Rattle.pump.specs.Holder.{phase_count, stop_phase, phase_at, here_of, with_device, is_sound_phases, is_sound_pump}
use Rattle.pump.specs.declared.holder.Pump.{Pump}

-- ---- the parts of a pump
module _ (p : Pump) where
  abbrev held : Bool
  held = is_sound_device (phase_count p) p.device (here_of p)

  module _ (e : is_sound_pump p ≡ true) where
    pub pump_phases : is_sound_phases (phase_count p) p.phases ≡ true
    unfolding is_sound_pump
    pump_phases = and_left (is_sound_phases (phase_count p) p.phases) held e

    pump_device : Each (device_tests (phase_count p) p.device (here_of p))
    unfolding is_sound_pump is_sound_device
    pump_device = each (device_tests (phase_count p) p.device (here_of p)) (and_right (is_sound_phases (phase_count p) p.phases) held e)

    pub pump_core : is_sound_core (phase_count p) p.device.core (here_of p) ≡ true
    pump_core = pump_device.0

    pub pump_line : is_sound_line p.device.line ≡ true
    pump_line = pump_device.1.0

    pub pump_link : is_sound_link p.device.link ≡ true
    pump_link = pump_device.1.1.0

    pub pump_apart : is_line_apart p.device ≡ true
    pump_apart = pump_device.1.1.1.0

  pub pump_sound :
      is_sound_phases (phase_count p) p.phases ≡ true
      → is_sound_core (phase_count p) p.device.core (here_of p) ≡ true
      → is_sound_line p.device.line ≡ true
      → is_sound_link p.device.link ≡ true
      → is_line_apart p.device ≡ true
      → is_sound_pump p ≡ true
  unfolding is_sound_pump is_sound_device
  pump_sound a b c d e = and_both _ _ a (all_of (device_tests (phase_count p) p.device (here_of p)) (b, (c, (d, (e, tt)))))

-- ---- every phase is sound
module _ (phases : ℕ) where
  stop_sound : is_sound_phase phases stop_phase ≡ true
  unfolding is_sound_phase is_writable
  stop_sound = refl

  sound_get : (ps : List Phase) (i : ℕ) → is_sound_phases phases ps ≡ true → is_sound_phase phases (get_or ps i stop_phase) ≡ true
  unfolding is_sound_phases
  sound_get [] i h = stop_sound
  sound_get (p ∷ ps) zero h = and_left (is_sound_phase phases p) (is_sound_phases phases ps) h
  sound_get (p ∷ ps) (suc i) h = sound_get ps i (and_right (is_sound_phase phases p) (is_sound_phases phases ps) h)

  sound_at : (ps : List Phase) (n : ℕ) → is_sound_phases phases ps ≡ true → is_sound_phase phases (phase_at ps n) ≡ true
  unfolding phase_at
  sound_at ps zero h = stop_sound
  sound_at ps (suc n) h = sound_get ps n h

-- ---- a table, and the phase past its last stops
past_stops : (ps : List Phase) → phase_at ps (length ps + 1) ≡ stop_phase
unfolding phase_at
past_stops ps = get_or-eq_default (stop_phase ∷ ps) stop_phase {n = length ps + 1} (omega arith)

pub table_of : (ps : List Phase) → is_sound_phases (length ps) ps ≡ true → Table (length ps) (phase_at ps)
table_of ps e =
    record { every = λ n. sound_at (length ps) ps n e; past = ap (λ (x : Phase). x.function) (past_stops ps) }

-- ---- another core
abbrev pub with_pump_core : Pump → Core → Pump
with_pump_core p s = with_device p (with_core p.device s)

module _ (p : Pump) where
  pub core_sound :
      is_sound_pump p ≡ true
      → (s : Core)
      → is_sound_core (phase_count p) s (phase_at p.phases s.run.place.current) ≡ true
      → is_sound_pump (with_pump_core p s) ≡ true
  core_sound e s k = pump_sound (with_pump_core p s) (pump_phases p e) k (pump_line p e) (pump_link p e) (pump_apart p e)

  pub table_here : is_sound_pump p ≡ true → Table (phase_count p) (phase_at p.phases)
  table_here e = table_of p.phases (pump_phases p e)
