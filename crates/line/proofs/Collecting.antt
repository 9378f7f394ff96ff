-- A line under way: its kept characters as a part of its array.
-- Assumes nothing.
use Prim.Native.Nat.{ℕ, min}
use mathlib.Core.Path.{◌≡◌, refl, sym, ap, ◌∙◌}
use mathlib.Core.Bool.{Bool, true, false}
use mathlib.Core.List.{List}
use native.Mathlib.Omega.{arith}
use lib.ListN.{length, take}
use lib.Seq.{take_all}
use borrow.Author.Tests.{ltb-true, ltb-false}
use lib.Dec.{ltb}

-- what a length above 40 speaks of are the 40 places
pub take_held : (bytes : List ℕ) (len n : ℕ) → length bytes ≡ 40 → n ≡ min len 40 → take n bytes ≡ take len bytes
take_held bytes len n e p = go (ltb len 40) refl
  where
    go : (t : Bool) → ltb len 40 ≡ t → take n bytes ≡ take len bytes
    go true l = let z : n ≡ len = omega (arith, ltb-true len 40 l) in ap (λ (k : ℕ). take k bytes) z
    go false l =
        take_all n bytes (omega (arith, ltb-false len 40 l)) ∙ sym (take_all len bytes (omega (arith, ltb-false len 40 l)))
