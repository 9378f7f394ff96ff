-- The phases: the phase of a number, power-up, the edit that a command asks for, and when the whole is sound.   (01, Calls; Commands,
-- Power-up; Ticks and phases)
use Rattle.std.specs.Prelude.{ℕ, ◌-◌, Bool, true, ◌&&◌, List, [], ◌∷◌, length, get_or, set, replicate, if◌then◌else◌}
use Rattle.words.specs.Functions.{is_phase}
use Rattle.words.specs.Phases.{idle, power_up, is_sound_phase}
use Rattle.words.specs.declared.functions.Function.TheVariants as f
use Rattle.words.specs.declared.phases.Phase.{Phase}
use Rattle.command.specs.declared.obeying.Edit.{Edit}
use Rattle.command.specs.declared.obeying.Edit.TheVariants.{Keep, Write, Renew}
use Rattle.pump.specs.Device.{power_up_device, is_sound_device}
use Rattle.pump.specs.declared.device.Device.{Device}
use Rattle.pump.specs.declared.holder.Pump.{Pump}

-- how many phases a pump has: no rule names a number, each asks the state
abbrev pub phase_count : Pump → ℕ
phase_count p = length p.phases

-- and how many this model has, by the type of its state   (01, Numbers: "phases 1 to 41")
abbrev pub model_phases : ℕ
model_phases = 41

-- what stands where there is no phase: entering it stops the pump
abbrev pub stop_phase : Phase
stop_phase = idle f.Stp

-- the phase of a number, counted from 1
unfoldable pub phase_at : List Phase → ℕ → Phase
phase_at ps n = get_or (stop_phase ∷ ps) n stop_phase

-- the current phase
abbrev pub here_of : Pump → Phase
here_of p = phase_at p.phases p.device.core.run.place.current

-- ---- one part replaced
abbrev pub with_device : Pump → Device → Pump
with_device p x = record { phases = p.phases; device = x }

abbrev pub with_phases : Pump → List Phase → Pump
with_phases p x = record { phases = x; device = p.device }

unfoldable pub with_phase : Pump → ℕ → Phase → Pump
with_phase p n x = if is_phase (phase_count p) n then with_phases p (set p.phases (n - 1) x) else p

-- ---- power-up of a pump of n phases: phase 1 RAT, others STP
unfoldable pub fresh_phases : ℕ → List Phase
fresh_phases n = set (replicate n (power_up 2)) 0 (power_up 1)

abbrev pub fresh_pump : ℕ → Pump
fresh_pump n = record { phases = fresh_phases n; device = power_up_device }

-- ---- what a command asks for: nothing; another phase n; all phases as at power-up
abbrev pub edited : Pump → ℕ → Edit → Pump
edited p n Keep = p
edited p n (Write x) = with_phase p n x
edited p n Renew = with_phases p (fresh_phases (phase_count p))

-- ---- sound: every phase in a pump of n of them, and the device with its current phase
unfoldable pub is_sound_phases : ℕ → List Phase → Bool
is_sound_phases n [] = true
is_sound_phases n (p ∷ ps) = is_sound_phase n p && is_sound_phases n ps

unfoldable pub is_sound_pump : Pump → Bool
is_sound_pump p = is_sound_phases (phase_count p) p.phases && is_sound_device (phase_count p) p.device (here_of p)
