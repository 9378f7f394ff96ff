-- How long a function's name is, and how large its number.
-- Assumes nothing.
use Rattle.std.specs.Prelude.{if◌then◌else◌}
use Prim.Native.Nat.{◌≤◌}
use mathlib.Core.Path.{◌≡◌, refl}
use mathlib.Core.Bool.{true}
use lib.Dec.{leb, eqb}
use lib.ListN.{length}
use borrow.Author.Tests.{leb-true}
use Rattle.words.specs.Functions.{number}
use Rattle.words.specs.Spelling.{function_name}
use Rattle.words.specs.declared.functions.Function.{Function}
use Rattle.words.specs.declared.functions.Function.TheVariants as f

pub name_length_is : (g : Function) → length (function_name g) ≡ (if eqb (number g) 10 then 2 else 3)
name_length_is f.Rat = refl
name_length_is f.Inc = refl
name_length_is f.Dec = refl
name_length_is f.Stp = refl
name_length_is (f.Jmp n) = refl
name_length_is (f.Lop n) = refl
name_length_is f.Lps = refl
name_length_is f.Lpe = refl
name_length_is (f.Pas n) = refl
name_length_is (f.Tenths n) = refl
name_length_is (f.If n) = refl
name_length_is (f.Evn n) = refl
name_length_is f.Evr = refl
name_length_is f.Bep = refl
name_length_is (f.Out n) = refl

within : (g : Function) → leb (number g) 14 ≡ true
within f.Rat = refl
within f.Inc = refl
within f.Dec = refl
within f.Stp = refl
within (f.Jmp n) = refl
within (f.Lop n) = refl
within f.Lps = refl
within f.Lpe = refl
within (f.Pas n) = refl
within (f.Tenths n) = refl
within (f.If n) = refl
within (f.Evn n) = refl
within f.Evr = refl
within f.Bep = refl
within (f.Out n) = refl

pub number_most : (g : Function) → number g ≤ 14
number_most g = leb-true (number g) 14 (within g)
