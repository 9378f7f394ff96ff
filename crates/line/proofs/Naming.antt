-- The commands' names by their letters; and that a name which leads a text is its name, so that no two names compete.
-- Assumes nothing.
use Rattle.std.specs.Prelude.{if◌then◌else◌, Option, Some, None}
use Prim.Native.Nat.{ℕ, ◌-◌, ◌≤◌}
use mathlib.Core.Path.{◌≡◌, refl, sym, ap, subst, ◌∙◌}
use mathlib.Core.Bool.{Bool, true, false}
use mathlib.Core.List.{List, [], ◌∷◌}
use native.Mathlib.Omega.{arith}
use lib.ListN.{length, get_or, take, drop}
use borrow.Author.Tests.{ne_eqb}
use Rattle.base.specs.Text.{letter}
use Rattle.base.proofs.Choices.{and_false}
use Rattle.line.specs.Spelling.{leads}
use Rattle.line.specs.Names.{names, name_of, named_by, name_among, letters_of, letters_led, argument_of}
use Rattle.line.specs.declared.names.Name.{Name}
use Rattle.line.specs.declared.names.Name.TheVariants.{Dia, Rat, Vol, Dir, Phn, Fun, Run, Stp, Dis, Cld, Reset}
use Rattle.line.proofs.Leading.{leads_is, leads_within, part_behind}

-- ---- the letters that the code looks at leave one name to be tried
abbrev Only : Option Name → List ℕ → Type 0
Only n s = name_of s ≡ named_by n s

pub only_vol : (t : List ℕ) → Only (Some Vol) (letter "V" ∷ t)
unfolding name_of leads
only_vol t = refl

pub only_phn : (t : List ℕ) → Only (Some Phn) (letter "P" ∷ t)
unfolding name_of leads
only_phn t = refl

pub only_fun : (t : List ℕ) → Only (Some Fun) (letter "F" ∷ t)
unfolding name_of leads
only_fun t = refl

pub only_stp : (t : List ℕ) → Only (Some Stp) (letter "S" ∷ t)
unfolding name_of leads
only_stp t = refl

pub only_cld : (t : List ℕ) → Only (Some Cld) (letter "C" ∷ t)
unfolding name_of leads
only_cld t = refl

pub only_reset : (t : List ℕ) → Only (Some Reset) (letter "*" ∷ t)
unfolding name_of leads
only_reset t = refl

pub only_rat : (t : List ℕ) → Only (Some Rat) (letter "R" ∷ letter "A" ∷ t)
unfolding name_of leads
only_rat t = refl

pub only_dia : (b : ℕ) (t : List ℕ) → Only (Some Dia) (letter "D" ∷ b ∷ letter "A" ∷ t)
unfolding name_of leads
only_dia b t = simp and_false

pub only_dir : (b : ℕ) (t : List ℕ) → Only (Some Dir) (letter "D" ∷ b ∷ letter "R" ∷ t)
unfolding name_of leads
only_dir b t = simp and_false

-- ---- and so do letters that are not those of the others
dispensed_left :
    (s : List ℕ) → get_or s 0 0 ≡ letter "D" → (get_or s 2 0 ≡ letter "A" → ⊥) → (get_or s 2 0 ≡ letter "R" → ⊥) → Only (Some Dis) s
unfolding name_of leads
dispensed_left [] e p q = refl
dispensed_left (a ∷ []) e p q = simp and_false
dispensed_left (a ∷ b ∷ []) e p q = simp and_false
dispensed_left (a ∷ b ∷ c ∷ s) e p q = simp (e, ne_eqb c (letter "A") p, ne_eqb c (letter "R") q, and_false)

run_left : (s : List ℕ) → get_or s 0 0 ≡ letter "R" → (get_or s 1 0 ≡ letter "A" → ⊥) → Only (Some Run) s
unfolding name_of leads
run_left [] e p = refl
run_left (a ∷ []) e p = simp and_false
run_left (a ∷ b ∷ s) e p = simp (e, ne_eqb b (letter "A") p)

-- a letter that begins no name
pub record NoFirst (a : ℕ) : Type 0 where
  pub d : a ≡ letter "D" → ⊥
  pub r : a ≡ letter "R" → ⊥
  pub v : a ≡ letter "V" → ⊥
  pub p : a ≡ letter "P" → ⊥
  pub f : a ≡ letter "F" → ⊥
  pub s : a ≡ letter "S" → ⊥
  pub c : a ≡ letter "C" → ⊥
  pub star : a ≡ letter "*" → ⊥

none_left : (s : List ℕ) → NoFirst (get_or s 0 0) → Only None s
unfolding name_of leads
none_left [] n = refl
none_left (a ∷ s) n =
    simp (
      ne_eqb a (letter "D") n.d,
      ne_eqb a (letter "R") n.r,
      ne_eqb a (letter "V") n.v,
      ne_eqb a (letter "P") n.p,
      ne_eqb a (letter "F") n.f,
      ne_eqb a (letter "S") n.s,
      ne_eqb a (letter "C") n.c,
      ne_eqb a (letter "*") n.star,
    )

module _ (s : List ℕ) (a : ℕ) (d : a ≡ get_or s 0 0) where
  pub only_dis : (c : ℕ) → a ≡ letter "D" → c ≡ get_or s 2 0 → (c ≡ letter "A" → ⊥) → (c ≡ letter "R" → ⊥) → Only (Some Dis) s
  only_dis c e h p q = dispensed_left s (sym d ∙ e) (λ z. p (h ∙ z)) (λ z. q (h ∙ z))

  pub only_run : (b : ℕ) → a ≡ letter "R" → b ≡ get_or s 1 0 → (b ≡ letter "A" → ⊥) → Only (Some Run) s
  only_run b e h p = run_left s (sym d ∙ e) (λ z. p (h ∙ z))

  pub only_none : NoFirst a → Only None s
  only_none n = none_left s (subst NoFirst d n)

-- ---- the name is there, or not
module _ (n : Name) (s : List ℕ) (r : Option Name) (e : r ≡ Some n) (o : Only r s) (t : Bool) (p : t ≡ leads (letters_of n) s) where
  only_this : name_of s ≡ (if leads (letters_of n) s then Some n else None)
  only_this = o ∙ ap (λ (m : Option Name). named_by m s) e

  pub named : t ≡ true → Some n ≡ name_of s
  named h = sym (only_this ∙ simp (sym p ∙ h))

  pub not_named : t ≡ false → None ≡ name_of s
  not_named h = sym (only_this ∙ simp (sym p ∙ h))

-- ---- a name that leads a text is its name
pub name_is : (n : Name) (s : List ℕ) → leads (letters_of n) s ≡ true → name_of s ≡ Some n
unfolding name_of leads
name_is Dia s e = ap name_of (leads_is (letters_of Dia) s e)
name_is Rat s e = ap name_of (leads_is (letters_of Rat) s e)
name_is Vol s e = ap name_of (leads_is (letters_of Vol) s e)
name_is Dir s e = ap name_of (leads_is (letters_of Dir) s e)
name_is Phn s e = ap name_of (leads_is (letters_of Phn) s e)
name_is Fun s e = ap name_of (leads_is (letters_of Fun) s e)
name_is Run s e = ap name_of (leads_is (letters_of Run) s e)
name_is Stp s e = ap name_of (leads_is (letters_of Stp) s e)
name_is Dis s e = ap name_of (leads_is (letters_of Dis) s e)
name_is Cld s e = ap name_of (leads_is (letters_of Cld) s e)
name_is Reset s e = ap name_of (leads_is (letters_of Reset) s e)

-- ---- a text is at least as long as its name
among_within : (ns : List Name) (s : List ℕ) → length (letters_led (name_among ns s)) ≤ length s
among_within [] s = omega arith
among_within (n ∷ ns) s = go (leads (letters_of n) s) refl (among_within ns s)
  where
    go :
        (t : Bool)
        → leads (letters_of n) s ≡ t
        → length (letters_led (name_among ns s)) ≤ length s
        → length (letters_led (if t then Some n else name_among ns s)) ≤ length s
    go true e h = leads_within (letters_of n) s e
    go false e h = h

pub letters_within : (s : List ℕ) → length (letters_led (name_of s)) ≤ length s
unfolding name_of
letters_within s = among_within names s

-- ---- what stands behind the name, or the whole text
module _ (s : List ℕ) (r : Option Name) (p : r ≡ name_of s) where
  module _ (n : Name) (e : r ≡ Some n) (name : List ℕ) (q : name ≡ letters_of n) where
    same_letters : name ≡ letters_led (name_of s)
    same_letters = q ∙ ap letters_led (sym e ∙ p)

    pub name_fits : length name ≤ length s
    name_fits = rw same_letters (letters_within s)

    pub behind_name : take (length s - length name) (drop (length name) s) ≡ argument_of s
    unfolding argument_of
    behind_name = part_behind s (length name) ∙ ap (λ (w : List ℕ). drop (length w) s) same_letters

  pub whole_text : r ≡ None → s ≡ argument_of s
  unfolding argument_of
  whole_text e = ap (λ (m : Option Name). drop (length (letters_led m)) s) (sym e ∙ p)
