-- The phase record: the phases of a pump just switched on, and which a sound pump may hold.   (01, Commands, Power-up; Calls)
use Rattle.std.specs.Prelude.{ℕ, Bool, ◌&&◌, eqb, if◌then◌else◌}
use Rattle.decimal.specs.Writable.{is_writable}
use Rattle.drive.specs.declared.rates.RateUnit.TheVariants.{Mh}
use Rattle.drive.specs.declared.directions.Direction.TheVariants.{Infuse}
use Rattle.words.specs.Functions.{fits}
use Rattle.words.specs.declared.functions.Function.{Function}
use Rattle.words.specs.declared.functions.Function.TheVariants as f
use Rattle.words.specs.declared.phases.Phase.{Phase}

-- rate 0 MH, volume 0, INF
abbrev pub idle : Function → Phase
idle function = record { rate = 0; volume = 0; function = function; unit = Mh; direction = Infuse }

-- phase 1 RAT, others STP
unfoldable pub power_up : ℕ → Phase
power_up number = if eqb number 1 then idle f.Rat else idle f.Stp

-- the function's datum is in its range, and the stored rate and volume are writable, whatever the function
unfoldable pub is_sound_phase : ℕ → Phase → Bool
is_sound_phase phases p = is_writable p.rate && is_writable p.volume && fits phases p.function
