-- The first line of an input and what stands behind it, byte by byte: every input has them, and they are those of `lines_of`.
-- Assumes nothing.
use Prim.Native.Nat.{ℕ, ◌-◌, ◌≤◌}
use mathlib.Core.Path.{◌≡◌, refl, sym, subst}
use mathlib.Core.Bool.{Bool, true, false}
use mathlib.Core.List.{List, [], ◌∷◌}
use native.Mathlib.Omega.{arith}
use lib.Dec.{eqb}
use lib.ListN.{length}
use borrow.Author.Tests.{eqb-true}
use Rattle.script.specs.Places.{carriage_return, newline}
use Rattle.script.specs.Items.{at_newline, in_front, lines_of}

-- ---- an input, its first line and the rest: the line ends with the input, at a newline, or at a return and a newline; any other
-- ---- byte is part of it
pub data Cut : List ℕ → List ℕ → List ℕ → Type 0 where
  ended : Cut [] [] []
  at_newline_lem : (r : List ℕ) → Cut (10 ∷ r) [] r
  at_both : (r : List ℕ) → Cut (13 ∷ 10 ∷ r) [] r
  at_return : (s l r : List ℕ) → at_newline s ≡ false → Cut s l r → Cut (13 ∷ s) (13 ∷ l) r
  at_other :
      (b : ℕ) (s l r : List ℕ) → eqb b newline ≡ false → eqb b carriage_return ≡ false → Cut s l r → Cut (b ∷ s) (b ∷ l) r

pub record Split (s : List ℕ) : Type 0 where
  pub line : List ℕ
  pub rest : List ℕ
  pub cut : Cut s line rest

-- ---- every input has a first line
split_return : (s : List ℕ) → Split s → Split (13 ∷ s)
split_return [] w =
    record { line = 13 ∷ w.line; rest = w.rest; cut = at_return [] w.line w.rest refl w.cut }
split_return (c ∷ s) w = go (eqb c newline) refl
  where
    go : (t : Bool) → eqb c newline ≡ t → Split (13 ∷ c ∷ s)
    go true e =
        record {
          line = [];
          rest = s;
          cut = subst (λ (x : ℕ). Cut (13 ∷ x ∷ s) [] s) (sym (eqb-true c newline e)) (at_both s);
        }
    go false e =
        record { line = 13 ∷ w.line; rest = w.rest; cut = at_return (c ∷ s) w.line w.rest e w.cut }

split_byte : (b : ℕ) (s : List ℕ) → Split s → Split (b ∷ s)
split_byte b s w = go (eqb b newline) (eqb b carriage_return) refl refl
  where
    go : (t u : Bool) → eqb b newline ≡ t → eqb b carriage_return ≡ u → Split (b ∷ s)
    go true u e f =
        record {
          line = [];
          rest = s;
          cut = subst (λ (x : ℕ). Cut (x ∷ s) [] s) (sym (eqb-true b newline e)) (at_newline_lem s);
        }
    go false true e f = subst (λ (x : ℕ). Split (x ∷ s)) (sym (eqb-true b carriage_return f)) (split_return s w)
    go false false e f =
        record { line = b ∷ w.line; rest = w.rest; cut = at_other b s w.line w.rest e f w.cut }

pub split : (s : List ℕ) → Split s
split [] = record { line = []; rest = []; cut = ended }
split (b ∷ s) = split_byte b s (split s)

-- ---- it is the first of the lines
in_front_lem : (b : ℕ) {s l r : List ℕ} → Cut s l r → in_front b (lines_of s) ≡ (b ∷ l) ∷ lines_of r
unfolding lines_of
in_front_lem b ended = refl
in_front_lem b (at_newline_lem r) = refl
in_front_lem b (at_both r) = refl
in_front_lem b (at_return s l r h d) = rw (h, in_front_lem 13 d)
in_front_lem b (at_other c s l r e f d) = rw (e, f, in_front_lem c d)

pub lines_cut : {b : ℕ} {s l r : List ℕ} → Cut (b ∷ s) l r → lines_of (b ∷ s) ≡ l ∷ lines_of r
unfolding lines_of
lines_cut (at_newline_lem r) = refl
lines_cut (at_both r) = refl
lines_cut (at_return s l r h d) = rw h (in_front_lem 13 d)
lines_cut (at_other b s l r e f d) = rw (e, f) (in_front_lem b d)

-- ---- and what stands behind it is shorter
pub rest_within : {s l r : List ℕ} → Cut s l r → length r ≤ length s - 1
rest_within ended = omega arith
rest_within (at_newline_lem r) = omega arith
rest_within (at_both r) = omega arith
rest_within (at_return s l r h d) = let z = rest_within d in omega arith
rest_within (at_other b s l r e f d) = let z = rest_within d in omega arith
