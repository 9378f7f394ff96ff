-- What is printed of a function: how long its name is, and its datum, by the tests that find it.
-- Assumes nothing.
use Rattle.std.specs.Prelude.{if◌then◌else◌}
use Prim.Native.Nat.{ℕ, ◌≤◌}
use mathlib.Core.Path.{◌≡◌, sym, ◌∙◌}
use mathlib.Core.Bool.{Bool, true, false, ◌||◌}
use mathlib.Core.List.{[], ◌∷◌}
use native.Mathlib.Omega.{arith}
use borrow.Author.Tests.{eq-eqb, ne_eqb}
use lib.Dec.{eqb}
use lib.ListN.{length}
use Rattle.decimal.specs.Print.{last_digit, print_two, print_tenths}
use Rattle.words.specs.Functions.{number, datum, takes_phase, takes_count, is_out}
use Rattle.words.specs.Spelling.{function_name, datum_text}
use Rattle.words.specs.declared.functions.Function.{Function}
use Rattle.words.proofs.Names.{name_length_is}

pub name_length : (g : Function) → length (function_name g) ≤ 3
name_length g = rw (name_length_is g) (few (eqb (number g) 10))
  where
    few : (t : Bool) → (if t then 2 else 3) ≤ 3
    few true = omega arith
    few false = omega arith

module _ (g : Function) (n d : ℕ) (a : n ≡ number g) (b : d ≡ datum g) where
  pub datum_tenths : n ≡ 9 → print_tenths d ≡ datum_text g
  datum_tenths e = rw (b) (simp (eq-eqb _ _ (rw (a) at e)))

  module _ (h : n ≡ 9 → ⊥) (t t' : Bool) (p : t ≡ takes_phase g) (q : t' ≡ takes_count g) where
    not_tenths : eqb (number g) 9 ≡ false
    not_tenths = ne_eqb _ _ (rw (a) at h)

    pub datum_two : (t || t' || eqb n 8) ≡ true → print_two d ≡ datum_text g
    datum_two e = rw (b) (simp not_tenths (simp (simp not_tenths at (rw (p, q, a) at e))))

    module _ (e : (t || t' || eqb n 8) ≡ false) (t'' : Bool) (r : t'' ≡ is_out g) where
      pub datum_level : t'' ≡ true → (last_digit d ∷ []) ≡ datum_text g
      datum_level l = rw (b) (simp (not_tenths, sym r ∙ l) (simp (simp not_tenths at (rw (p, q, a) at e))))

      pub datum_none : t'' ≡ false → [] ≡ datum_text g
      datum_none l = simp (not_tenths, sym r ∙ l) (simp (simp not_tenths at (rw (p, q, a) at e)))

pub ruleset data_shown = (datum_tenths, datum_two, datum_level, datum_none)
