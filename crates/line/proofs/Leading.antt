-- A word at the front of a text.
-- Assumes nothing.
use Rattle.std.specs.Cmp.Lexicographic.{pointwise}
use Prim.Native.Nat.{ℕ, ◌-◌, ◌≤◌, ◌<◌}
use mathlib.Core.Path.{◌≡◌, refl, sym, ap, ◌∙◌}
use mathlib.Core.Bool.{Bool, true, false}
use mathlib.Core.List.{List, [], ◌∷◌, ◌++◌, append-nil}
use native.Mathlib.Omega.{arith}
use lib.Dec.{eqb}
use lib.ListN.{length, take, drop, length-drop, drop_of_length-le}
use lib.Seq.{take_all}
use borrow.Author.Tests.{eq-eqb, ne_eqb, eqb-true}
use Rattle.base.proofs.Choices.{and_left, and_right, false_true}
use Rattle.line.specs.Spelling.{leads, is_text}

-- what leads a text is no longer than it
pub leads_within : (word s : List ℕ) → leads word s ≡ true → length word ≤ length s
unfolding leads
leads_within [] s e = omega arith
leads_within (c ∷ word) [] e = false_true e
leads_within (c ∷ word) (b ∷ s) e =
    let h : length word ≤ length s = leads_within word s (and_right (eqb b c) (leads word s) e) in omega arith

pub too_short : (word s : List ℕ) → length s < length word → false ≡ leads word s
too_short word s h = go (leads word s) refl
  where
    go : (t : Bool) → leads word s ≡ t → false ≡ leads word s
    go true e = absurd (omega (arith, leads_within word s e))
    go false e = sym e

eqb_sym : (a b : ℕ) → eqb a b ≡ eqb b a
eqb_sym a b = go (eqb b a) refl
  where
    go : (t : Bool) → eqb b a ≡ t → eqb a b ≡ t
    go true e = eq-eqb a b (sym (eqb-true b a e))
    go false e = ne_eqb a b (λ k. false_true (sym e ∙ eq-eqb b a (sym k)))

-- what std says of a text that starts with a word, and of one that has it taken off
pub starts : (word s : List ℕ) → pointwise eqb word (take (length word) s) ≡ leads word s
unfolding leads
starts [] s = refl
starts (c ∷ word) [] = refl
starts (c ∷ word) (b ∷ s) = rw (eqb_sym c b, starts word s)

pub starts_as : (word name s : List ℕ) (t : Bool) → name ≡ word → t ≡ pointwise eqb name (take (length name) s) → t ≡ leads word s
starts_as word name s t e p = p ∙ starts name s ∙ ap (λ (w : List ℕ). leads w s) e

pub stripped : (word s : List ℕ) → pointwise eqb (take (length word) s) word ≡ leads word s
unfolding leads
stripped [] s = refl
stripped (c ∷ word) [] = refl
stripped (c ∷ word) (b ∷ s) = rw (stripped word s)

-- a word that leads a text, and what follows it, are the text
pub leads_is : (word s : List ℕ) → leads word s ≡ true → s ≡ word ++ drop (length word) s
unfolding leads
leads_is [] s e = refl
leads_is (c ∷ word) [] e = false_true e
leads_is (c ∷ word) (b ∷ s) e =
    let p : b ≡ c = eqb-true b c (and_left (eqb b c) (leads word s) e) in
    let q : s ≡ word ++ drop (length word) s = leads_is word s (and_right (eqb b c) (leads word s) e) in
    ap (λ (x : ℕ). x ∷ s) p ∙ ap (λ (t : List ℕ). c ∷ t) q

pub word_is : (word s : List ℕ) → is_text word s ≡ true → s ≡ word
unfolding is_text
word_is word s e =
    let l : length s ≡ length word = eqb-true (length s) (length word) (and_left (eqb (length s) (length word)) (leads word s) e) in
    leads_is word s (and_right (eqb (length s) (length word)) (leads word s) e)
    ∙ ap (λ (t : List ℕ). word ++ t) (drop_of_length-le s {i = length word} (omega arith))
    ∙ append-nil word

-- the whole of what stands behind a place
pub part_behind : (s : List ℕ) (w : ℕ) → take (length s - w) (drop w s) ≡ drop w s
part_behind s w = take_all (length s - w) (drop w s) (simp length-drop (omega arith))
