-- The phase in hand with one thing set.   (01, Commands)
use Rattle.std.specs.Prelude.{ℕ}
use Rattle.drive.specs.declared.rates.RateUnit.{RateUnit}
use Rattle.drive.specs.declared.directions.Direction.{Direction}
use Rattle.words.specs.declared.functions.Function.{Function}
use Rattle.words.specs.declared.phases.Phase.{Phase}

abbrev pub with_stored : Phase → ℕ → RateUnit → Phase
with_stored p x unit = record { rate = x; volume = p.volume; function = p.function; unit = unit; direction = p.direction }

abbrev pub with_volume : Phase → ℕ → Phase
with_volume p x = record { rate = p.rate; volume = x; function = p.function; unit = p.unit; direction = p.direction }

abbrev pub with_direction : Phase → Direction → Phase
with_direction p way = record { rate = p.rate; volume = p.volume; function = p.function; unit = p.unit; direction = way }

-- FUN alters the function and its data only
abbrev pub with_function : Phase → Function → Phase
with_function p g = record { rate = p.rate; volume = p.volume; function = g; unit = p.unit; direction = p.direction }
