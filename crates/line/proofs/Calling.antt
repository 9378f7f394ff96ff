-- The functions' names by their letters; and that a name which leads a text is the one that is called, so that no two compete.
-- Assumes nothing.
use Rattle.std.specs.Prelude.{if◌then◌else◌, Option, Some, None}
use Prim.Native.Nat.{ℕ, ◌≤◌}
use mathlib.Core.Path.{◌≡◌, refl, sym, ap, subst, ◌∙◌}
use mathlib.Core.Bool.{Bool, true, false}
use mathlib.Core.List.{List, [], ◌∷◌}
use native.Mathlib.Omega.{arith}
use lib.ListN.{length, get_or}
use borrow.Author.Tests.{ne_eqb}
use Rattle.base.specs.Text.{text, letter}
use Rattle.base.proofs.Choices.{and_false}
use Rattle.words.specs.Spelling.{function_name}
use Rattle.words.specs.declared.functions.Function.{Function}
use Rattle.words.specs.declared.functions.Function.TheVariants as f
use Rattle.line.specs.Spelling.{leads}
use Rattle.line.specs.Functions.{functions, called_in, called_by, called_among}
use Rattle.line.proofs.Leading.{leads_is, leads_within}

-- ---- the letters that the code looks at leave one function to be tried
abbrev Only : Function → List ℕ → Type 0
Only g s = called_in s ≡ called_by g (function_name g) s

pub only_inc : (t : List ℕ) → Only f.Inc (letter "I" ∷ letter "N" ∷ t)
unfolding called_in leads
only_inc t = refl

pub only_dec : (t : List ℕ) → Only f.Dec (letter "D" ∷ t)
unfolding called_in leads
only_dec t = refl

pub only_stp : (t : List ℕ) → Only f.Stp (letter "S" ∷ t)
unfolding called_in leads
only_stp t = refl

pub only_jmp : (t : List ℕ) → Only (f.Jmp 0) (letter "J" ∷ t)
unfolding called_in leads
only_jmp t = refl

pub only_lop : (b : ℕ) (t : List ℕ) → Only (f.Lop 0) (letter "L" ∷ b ∷ letter "P" ∷ t)
unfolding called_in leads
only_lop b t = simp and_false

pub only_lps : (b : ℕ) (t : List ℕ) → Only f.Lps (letter "L" ∷ b ∷ letter "S" ∷ t)
unfolding called_in leads
only_lps b t = simp and_false

pub only_pas : (t : List ℕ) → Only (f.Pas 0) (letter "P" ∷ t)
unfolding called_in leads
only_pas t = refl

pub only_evn : (b : ℕ) (t : List ℕ) → Only (f.Evn 0) (letter "E" ∷ b ∷ letter "N" ∷ t)
unfolding called_in leads
only_evn b t = simp and_false

pub only_bep : (t : List ℕ) → Only f.Bep (letter "B" ∷ t)
unfolding called_in leads
only_bep t = refl

pub only_out : (t : List ℕ) → Only (f.Out 0) (letter "O" ∷ t)
unfolding called_in leads
only_out t = refl

-- ---- and so do letters that are not those of the others
loop_left :
    (s : List ℕ) → get_or s 0 0 ≡ letter "L" → (get_or s 2 0 ≡ letter "P" → ⊥) → (get_or s 2 0 ≡ letter "S" → ⊥) → Only f.Lpe s
unfolding called_in leads
loop_left [] e p q = refl
loop_left (a ∷ []) e p q = simp and_false
loop_left (a ∷ b ∷ []) e p q = simp (e, and_false)
loop_left (a ∷ b ∷ c ∷ s) e p q = simp (e, ne_eqb c (letter "P") p, ne_eqb c (letter "S") q, and_false)

event_left : (s : List ℕ) → get_or s 0 0 ≡ letter "E" → (get_or s 2 0 ≡ letter "N" → ⊥) → Only f.Evr s
unfolding called_in leads
event_left [] e p = refl
event_left (a ∷ []) e p = simp and_false
event_left (a ∷ b ∷ []) e p = simp (e, and_false)
event_left (a ∷ b ∷ c ∷ s) e p = simp (e, ne_eqb c (letter "N") p, and_false)

if_left : (s : List ℕ) → get_or s 0 0 ≡ letter "I" → (get_or s 1 0 ≡ letter "N" → ⊥) → Only (f.If 0) s
unfolding called_in leads
if_left [] e p = refl
if_left (a ∷ []) e p = simp and_false
if_left (a ∷ b ∷ s) e p = simp (e, ne_eqb b (letter "N") p)

-- a letter that begins no function's name but RAT
pub record NoFirst (a : ℕ) : Type 0 where
  pub i : a ≡ letter "I" → ⊥
  pub d : a ≡ letter "D" → ⊥
  pub s : a ≡ letter "S" → ⊥
  pub j : a ≡ letter "J" → ⊥
  pub l : a ≡ letter "L" → ⊥
  pub p : a ≡ letter "P" → ⊥
  pub e : a ≡ letter "E" → ⊥
  pub b : a ≡ letter "B" → ⊥
  pub o : a ≡ letter "O" → ⊥

rate_left : (s : List ℕ) → NoFirst (get_or s 0 0) → Only f.Rat s
unfolding called_in leads
rate_left [] n = refl
rate_left (a ∷ s) n =
    simp (
      ne_eqb a (letter "I") n.i,
      ne_eqb a (letter "D") n.d,
      ne_eqb a (letter "S") n.s,
      ne_eqb a (letter "J") n.j,
      ne_eqb a (letter "L") n.l,
      ne_eqb a (letter "P") n.p,
      ne_eqb a (letter "E") n.e,
      ne_eqb a (letter "B") n.b,
      ne_eqb a (letter "O") n.o,
    )

module _ (s : List ℕ) (a : ℕ) (d : a ≡ get_or s 0 0) where
  pub only_lpe : (c : ℕ) → a ≡ letter "L" → c ≡ get_or s 2 0 → (c ≡ letter "P" → ⊥) → (c ≡ letter "S" → ⊥) → Only f.Lpe s
  only_lpe c e h p q = loop_left s (sym d ∙ e) (λ z. p (h ∙ z)) (λ z. q (h ∙ z))

  pub only_evr : (c : ℕ) → a ≡ letter "E" → c ≡ get_or s 2 0 → (c ≡ letter "N" → ⊥) → Only f.Evr s
  only_evr c e h p = event_left s (sym d ∙ e) (λ z. p (h ∙ z))

  pub only_if : (b : ℕ) → a ≡ letter "I" → b ≡ get_or s 1 0 → (b ≡ letter "N" → ⊥) → Only (f.If 0) s
  only_if b e h p = if_left s (sym d ∙ e) (λ z. p (h ∙ z))

  pub only_rat : NoFirst a → Only f.Rat s
  only_rat n = rate_left s (subst NoFirst d n)

-- ---- the name is there, or not
module _ (g : Function) (s : List ℕ) (o : Only g s) (t : Bool) (e : t ≡ leads (function_name g) s) where
  pub called : t ≡ true → Some g ≡ called_in s
  called h = sym (o ∙ simp (sym e ∙ h))

  pub not_called : t ≡ false → None ≡ called_in s
  not_called h = sym (o ∙ simp (sym e ∙ h))

-- ---- a function that is called is named at the front of the text
among_leads : (gs : List Function) (s : List ℕ) (g : Function) → called_among gs s ≡ Some g → leads (function_name g) s ≡ true
among_leads [] s g e = let z : ◌≡◌ {A = ℕ} 0 1 = cc in absurd (omega arith)
among_leads (h ∷ gs) s g e = go (leads (function_name h) s) refl e (among_leads gs s g)
  where
    go :
        (t : Bool)
        → leads (function_name h) s ≡ t
        → (if t then Some h else called_among gs s) ≡ Some g
        → (called_among gs s ≡ Some g → leads (function_name g) s ≡ true)
        → leads (function_name g) s ≡ true
    go true p q k = let z : h ≡ g = cc in ap (λ (x : Function). leads (function_name x) s) (sym z) ∙ p
    go false p q k = k q

pub called_within :
    (s : List ℕ) (r : Option Function) (g : Function) (name : List ℕ)
    → r ≡ called_in s
    → r ≡ Some g
    → name ≡ function_name g
    → length name ≤ length s
unfolding called_in
called_within s r g name p q e = rw e (leads_within (function_name g) s (among_leads functions s g (sym p ∙ q)))

-- ---- a name that leads a text is the one that is called
-- the function that a name alone tells: its datum is 0, and PAS has whole seconds
abbrev pub bare : Function → Function
bare f.Rat = f.Rat
bare f.Inc = f.Inc
bare f.Dec = f.Dec
bare f.Stp = f.Stp
bare (f.Jmp n) = f.Jmp 0
bare (f.Lop n) = f.Lop 0
bare f.Lps = f.Lps
bare f.Lpe = f.Lpe
bare (f.Pas n) = f.Pas 0
bare (f.Tenths n) = f.Pas 0
bare (f.If n) = f.If 0
bare (f.Evn n) = f.Evn 0
bare f.Evr = f.Evr
bare f.Bep = f.Bep
bare (f.Out n) = f.Out 0

pub called_is : (g : Function) (s : List ℕ) → leads (function_name g) s ≡ true → called_in s ≡ Some (bare g)
unfolding called_in leads
called_is f.Rat s e = ap called_in (leads_is (text "RAT") s e)
called_is f.Inc s e = ap called_in (leads_is (text "INC") s e)
called_is f.Dec s e = ap called_in (leads_is (text "DEC") s e)
called_is f.Stp s e = ap called_in (leads_is (text "STP") s e)
called_is (f.Jmp n) s e = ap called_in (leads_is (text "JMP") s e)
called_is (f.Lop n) s e = ap called_in (leads_is (text "LOP") s e)
called_is f.Lps s e = ap called_in (leads_is (text "LPS") s e)
called_is f.Lpe s e = ap called_in (leads_is (text "LPE") s e)
called_is (f.Pas n) s e = ap called_in (leads_is (text "PAS") s e)
called_is (f.Tenths n) s e = ap called_in (leads_is (text "PAS") s e)
called_is (f.If n) s e = ap called_in (leads_is (text "IF") s e)
called_is (f.Evn n) s e = ap called_in (leads_is (text "EVN") s e)
called_is f.Evr s e = ap called_in (leads_is (text "EVR") s e)
called_is f.Bep s e = ap called_in (leads_is (text "BEP") s e)
called_is (f.Out n) s e = ap called_in (leads_is (text "OUT") s e)
