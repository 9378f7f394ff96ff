-- A flag as a count: 1 where it is set, else 0.
-- Assumes nothing.
use Rattle.std.specs.Prelude.{if◌then◌else◌}
use Prim.Native.Nat.{◌≤◌}
use mir.Val as mir-val
use mathlib.Core.Path.{◌≡◌, refl}
use mathlib.Core.Bool.{Bool, true, false}
use native.Mathlib.Omega.{arith}

pub flag_counted : (b : Bool) → mir-val.bool_byte b ≡ (if b then 1 else 0)
flag_counted true = refl
flag_counted false = refl

pub flag_few : (b : Bool) → mir-val.bool_byte b ≤ 1
flag_few true = omega arith
flag_few false = omega arith
