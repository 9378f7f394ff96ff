-- What a choice by a test gives, where the test is made of results of calls.
-- Assumes nothing.
use Rattle.std.specs.Prelude.{if◌then◌else◌}
use mathlib.Core.Path.{◌≡◌, refl, sym, ap, ◌∙◌}
use mathlib.Core.Bool.{Bool, true, false, not}
use borrow.Author.Tests.{le-leb, lt-leb, eq-eqb, ne_eqb}
use Rattle.base.proofs.Choices.{false_true}

-- ---- a test by the result of the call that made it
pub told : (t u b : Bool) → u ≡ t → u ≡ b → t ≡ b
told t u b p e = sym p ∙ e

-- the same of a test's contrary
pub told_not : (t u : Bool) → u ≡ t → not u ≡ true → t ≡ false
told_not true u p e = false_true (ap not (sym p) ∙ e)
told_not false u p e = refl

pub told_so : (t u : Bool) → u ≡ t → not u ≡ false → t ≡ true
told_so true u p e = refl
told_so false u p e = false_true (sym (ap not (sym p) ∙ e))

-- ---- the choice, when its test is told
module _ {A : Type 0} (t : Bool) (r x y : A) where
  pub chosen : t ≡ true → r ≡ x → r ≡ (if t then x else y)
  chosen e q = q ∙ sym (simp e)

  pub passed : t ≡ false → r ≡ y → r ≡ (if t then x else y)
  passed e q = q ∙ sym (simp e)

pub ruleset choices = (chosen, passed, told, le-leb, lt-leb, eq-eqb, ne_eqb)
