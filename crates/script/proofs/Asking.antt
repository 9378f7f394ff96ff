-- The numbers of an item, by what the code tests.
-- Assumes nothing.
use Prim.Native.Nat.{ℕ, ◌+◌, ◌*◌, ◌≤◌, ◌<◌}
use mathlib.Core.Path.{◌≡◌, sym}
use mathlib.Core.Bool.{Bool, true, ◌&&◌}
use Rattle.std.specs.Prelude.{Option, Some, None}
use native.Mathlib.Omega.{arith}
use lib.Dec.{leb}
use borrow.Author.Tests.{lt-ltb, le-ltb, le-leb, lt-leb, leb-true}
use Rattle.base.proofs.Choices.{and_left, and_right, and_false}
use Rattle.script.specs.Numbers.{most_ticks, most_byte, grown, ticks_asked, level_asked}
use Rattle.script.specs.declared.places.Act.TheVariants.{Set, Run, Complain}

pub grown_past : (n d : ℕ) → most_ticks < n → n ≡ grown n d
unfolding grown
grown_past n d h = sym (simp (lt-ltb most_ticks n h))

pub grown_by : (n d : ℕ) → n ≤ most_ticks → n * 10 + d ≡ grown n d
unfolding grown
grown_by n d h = sym (simp (le-ltb most_ticks n h))

pub ruleset growing = (grown_past, grown_by)

pub ticks_run : (n : ℕ) → 1 ≤ n → n < 10_000_001 → Run n ≡ ticks_asked n
unfolding ticks_asked
ticks_run n l h = sym (simp (le-leb 1 n l, le-leb n most_ticks (omega arith)))

pub ticks_few : (n : ℕ) → n < 1 → Complain ≡ ticks_asked n
unfolding ticks_asked
ticks_few n h = sym (simp (lt-leb 1 n h))

pub ticks_many : (n : ℕ) → 10_000_001 ≤ n → Complain ≡ ticks_asked n
unfolding ticks_asked
ticks_many n l = sym (simp (lt-leb n most_ticks (omega arith), and_false))

module _ (pin : ℕ) (o : Option ℕ) where
  module _ (level : ℕ) (e : o ≡ Some level) where
    pub level_set : pin ≤ most_byte → level ≤ most_byte → Set pin level ≡ level_asked pin o
    unfolding level_asked
    level_set p l = rw e (sym (simp (le-leb pin most_byte p, le-leb level most_byte l)))

    pub pin_large : most_byte < pin → Complain ≡ level_asked pin o
    unfolding level_asked
    pin_large p = rw e (sym (simp (lt-leb pin most_byte p)))

    pub level_large : most_byte < level → Complain ≡ level_asked pin o
    unfolding level_asked
    level_large l = rw e (sym (simp (lt-leb level most_byte l, and_false)))

  pub level_missing : o ≡ None → Complain ≡ level_asked pin o
  unfolding level_asked
  level_missing e = rw e

-- a pin and a level that pass the test, where a level was written, fit a byte each
module _ (pin : ℕ) (some : Bool) (level : ℕ) where
  module _ (e : (some && leb pin most_byte && leb level most_byte) ≡ true) where
    pub pin_byte : pin ≤ most_byte
    pin_byte = leb-true pin most_byte (and_right some (leb pin most_byte) (and_left (some && leb pin most_byte) (leb level most_byte) e))

    pub level_byte : level ≤ most_byte
    level_byte = leb-true level most_byte (and_right (some && leb pin most_byte) (leb level most_byte) e)

pub ruleset asked = (ticks_run, ticks_few, ticks_many, level_set, pin_large, level_large, level_missing)
