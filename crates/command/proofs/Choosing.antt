-- What a test made of several calls says, by what each of them returns.
-- Assumes nothing.
use Rattle.std.specs.Prelude.{Option, is_some, is_none}
use mathlib.Core.Path.{◌≡◌, sym, ap}
use mathlib.Core.Bool.{Bool, true, false, ◌&&◌, not}
use borrow.Author.Tests.{le-leb, lt-leb}
use Rattle.program.proofs.Choosing.{told, chosen, passed}

module _ (t u b v w : Bool) (p : u ≡ t) (q : v ≡ w) where
  pub told_both : (u && v) ≡ b → (t && w) ≡ b
  told_both e = rw (sym p, sym q) e

  pub told_four : (x y k l : Bool) → x ≡ y → k ≡ l → (u && v && not x && k) ≡ b → (t && w && not y && l) ≡ b
  told_four x y k l f g e = rw (sym p, sym q, sym f, sym g) e

module _ (t u b : Bool) (p : u ≡ t) (x : Bool) where
  pub told_with : (u && x) ≡ b → (t && x) ≡ b
  told_with e = rw (sym p) e

  pub told_unless : (y : Bool) → (x && not (u && y)) ≡ b → (x && not (t && y)) ≡ b
  told_unless y e = rw (sym p) e

-- `Option::is_none` promises what `is_some` is
pub told_none : {A : Type 0} (o : Option A) (b : Bool) → is_some o ≡ not b → b ≡ is_none o
told_none o true e = ap not (sym e)
told_none o false e = ap not (sym e)

pub ruleset choices = (chosen, passed, told, told_both, told_with, told_unless, told_four, told_none, le-leb, lt-leb)
