-- Acts that do something, and the one that does not.
-- Assumes nothing.
use mathlib.Core.Path.{◌≡◌, refl}
use mathlib.Core.Bool.{true, false}
use Rattle.script.specs.Places.{is_deed}
use Rattle.script.specs.declared.places.Act.{Act}
use Rattle.script.specs.declared.places.Act.TheVariants.{Wait, Send, Finish, Set, Run, Complain}

-- all but the first case, by which `_` is told
pub deeds : (a : Act) → (a ≡ Wait → ⊥) → true ≡ is_deed a
deeds Wait h = absurd (h refl)
deeds (Send held b) h = refl
deeds (Finish held) h = refl
deeds (Set pin level) h = refl
deeds (Run n) h = refl
deeds Complain h = refl

pub waits : (a : Act) → is_deed a ≡ false → a ≡ Wait
waits Wait h = refl
waits (Send held b) h = cc
waits (Finish held) h = cc
waits (Set pin level) h = cc
waits (Run n) h = cc
waits Complain h = cc
