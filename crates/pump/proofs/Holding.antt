-- The pump by its parts: the whole tested, power-up, the edit that a command asks for.
-- Assumes nothing.
use Prim.Native.Nat.{ℕ}
use mathlib.Core.Path.{◌≡◌, refl, sym, ap, ◌∙◌}
use mathlib.Core.Bool.{Bool, true, false, not, ◌&&◌}
use lib.ListN.{set, replicate}
use Rattle.words.specs.Phases.{power_up}
use Rattle.words.specs.declared.phases.Phase.{Phase}
use Rattle.command.specs.declared.obeying.Edit.{Edit}
use Rattle.pump.specs.Device.{power_up_device, is_sound_device}
use Rattle.pump.specs.Holder as holder
use Rattle.pump.specs.Holder.{phase_count, here_of, fresh_pump, edited, is_sound_phases, is_sound_pump}
use Rattle.pump.specs.declared.device.Device.{Device}
use Rattle.pump.specs.declared.holder.Pump.{Pump}

and_comm : (t u : Bool) → (t && u) ≡ (u && t)
and_comm true true = refl
and_comm true false = refl
and_comm false true = refl
and_comm false false = refl

-- ---- the whole tested: the device with its current phase, and the phases
pub whole_sound :
    {count : ℕ} (p : Pump) (here : Phase) (t u : Bool)
    → phase_count p ≡ count
    → here ≡ here_of p
    → t ≡ is_sound_device count p.device here
    → u ≡ is_sound_phases count p.phases
    → (t && u) ≡ is_sound_pump p
unfolding is_sound_pump
whole_sound p here t u full e a b =
    rw (a, b, e, sym full) (and_comm (is_sound_device (phase_count p) p.device (here_of p)) (is_sound_phases (phase_count p) p.phases))

-- ---- power-up
pub fresh_as :
    (count : ℕ) (first other : Phase) (device : Device)
    → first ≡ power_up 1
    → other ≡ power_up 2
    → device ≡ power_up_device
    → record { phases = set (replicate count other) 0 first; device = device } ≡ fresh_pump count
unfolding holder.fresh_phases
fresh_as count first other device a b k = rw (a, b, k)

-- ---- the edit
pub edited_by : (p r : Pump) (n : ℕ) (edit k : Edit) → edit ≡ k → r ≡ edited p n k → r ≡ edited p n edit
edited_by p r n edit k e q = q ∙ ap (edited p n) (sym e)

-- ---- a flag turned over
pub not_false : (b : Bool) → not b ≡ false → b ≡ true
not_false true e = refl
not_false false e = sym e

pub not_true : (b : Bool) → not b ≡ true → b ≡ false
not_true true e = sym e
not_true false e = refl
