-- What an argument asks for, by what was read from it.
-- Assumes nothing.
use Rattle.std.specs.Prelude.{Option, Some, None, MatchOption}
use Rattle.std.proofs.lemmas.Slice.Eq.{text_from_reads}
use Prim.Native.Nat.{ℕ, suc, ◌-◌, ◌≤◌, ◌<◌}
use mathlib.Core.Path.{◌≡◌, refl, sym, ap, ◌∙◌}
use mathlib.Core.Bool.{Bool, true, false}
use mathlib.Core.List.{List, [], ◌∷◌}
use native.Mathlib.Omega.{arith}
use lib.Dec.{ltb, eqb}
use lib.ListN.{length, get_or, take, drop, length-drop, drop_of_length-le}
use lib.Seq.{drop-cons}
use borrow.Author.Tests.{eq-eqb, ne_eqb, eqb-true, ltb-true, ltb-false}
use Rattle.base.specs.Text.{letter, text}
use Rattle.base.proofs.Choices.{and_false, false_true}
use Rattle.decimal.specs.Read.{read}
use Rattle.drive.specs.declared.rates.RateUnit.{RateUnit}
use Rattle.drive.specs.declared.rates.RateUnit.TheVariants.{Um, Mm, Uh, Mh}
use Rattle.drive.specs.declared.directions.Direction.{Direction}
use Rattle.drive.specs.declared.directions.Direction.TheVariants.{Infuse, Withdraw}
use Rattle.std.specs.Prelude.{Option, Some, None, is_some}
use Rattle.words.specs.declared.commands.Command.{Command}
use Rattle.words.specs.declared.commands.Command.TheVariants as c
use Rattle.line.specs.Spelling.{leads, is_text}
use Rattle.line.proofs.Leading.{word_is}
use Rattle.line.specs.Arguments as asked
use Rattle.line.specs.Arguments.{or_query, if_number, unless_more, units_of, units_at_end}
use Rattle.line.specs.Arguments.{amount_of, rate_asked, heading_of, direction_asked, clear_asked}
use Rattle.line.specs.declared.arguments.Heading.{Heading}
use Rattle.line.specs.declared.arguments.Heading.TheVariants as heading

-- nothing behind the name: the query
pub asks : (query : Command) (s : List ℕ) (setting : Command) → length s ≡ 0 → query ≡ or_query query s setting
asks query s setting e = sym (simp (eq-eqb (length s) 0 e))

-- something: the setting
pub sets : (query : Command) (s : List ℕ) (setting : Command) → (length s ≡ 0 → ⊥) → or_query query s setting ≡ setting
sets query s setting n = simp (ne_eqb (length s) 0 n)

module _ (query : Command) (setting : ℕ → Command) (s : List ℕ) (n : length s ≡ 0 → ⊥) where
  pub sets_number : (r u : Option ℕ) (x : ℕ) → u ≡ r → u ≡ Some x → setting x ≡ or_query query s (if_number setting r)
  sets_number r u x p e = ap (if_number setting) (sym e ∙ p) ∙ sym (sets query s (if_number setting r) n)

  pub no_number : (r u : Option ℕ) → u ≡ r → u ≡ None → c.Malformed ≡ or_query query s (if_number setting r)
  no_number r u p e = ap (if_number setting) (sym e ∙ p) ∙ sym (sets query s (if_number setting r) n)

-- the query or a setting, where a result is the setting of what was read if it is `Set` of it
module _ (query : Command) (setting : ℕ → Command) (s : List ℕ) (Set : ℕ → Type 0) (r : Option ℕ) (result : Command)
    (p : (x : ℕ) → Set x → result ≡ setting x) where
  read_set : (u : Option ℕ) → MatchOption u (result ≡ c.Malformed) Set → result ≡ if_number setting u
  read_set (Some x) k = p x k
  read_set None k = k

  pub asked_is :
      (u : Option ℕ)
      → u ≡ r
      → (length s ≡ 0 → result ≡ query)
      → ((length s ≡ 0 → ⊥) → MatchOption u (result ≡ c.Malformed) Set)
      → result ≡ or_query query s (if_number setting r)
  asked_is u e q k = go (eqb (length s) 0) refl
    where
      go : (t : Bool) → eqb (length s) 0 ≡ t → result ≡ or_query query s (if_number setting r)
      go true z = let y : length s ≡ 0 = eqb-true (length s) 0 z in q y ∙ asks query s (if_number setting r) y
      go false z =
          let n : length s ≡ 0 → ⊥ = λ y. false_true (sym z ∙ eq-eqb (length s) 0 y) in
          read_set u (k n) ∙ ap (if_number setting) e ∙ sym (sets query s (if_number setting r) n)

-- ---- units by their letters
module _ (a b : ℕ) where
  pub units_um : a ≡ letter "U" → b ≡ letter "M" → Some Um ≡ units_of (a ∷ b ∷ [])
  unfolding units_of is_text leads
  units_um p q = rw (p, q)

  pub units_uh : a ≡ letter "U" → b ≡ letter "H" → Some Uh ≡ units_of (a ∷ b ∷ [])
  unfolding units_of is_text leads
  units_uh p q = rw (p, q)

  pub units_mm : a ≡ letter "M" → b ≡ letter "M" → Some Mm ≡ units_of (a ∷ b ∷ [])
  unfolding units_of is_text leads
  units_mm p q = rw (p, q)

  pub units_mh : a ≡ letter "M" → b ≡ letter "H" → Some Mh ≡ units_of (a ∷ b ∷ [])
  unfolding units_of is_text leads
  units_mh p q = rw (p, q)

  pub no_time : (b ≡ letter "M" → ⊥) → (b ≡ letter "H" → ⊥) → None ≡ units_of (a ∷ b ∷ [])
  unfolding units_of is_text leads
  no_time p q = sym (simp (ne_eqb b (letter "M") p, ne_eqb b (letter "H") q, and_false))

  pub no_volume : (a ≡ letter "U" → ⊥) → (a ≡ letter "M" → ⊥) → None ≡ units_of (a ∷ b ∷ [])
  unfolding units_of is_text leads
  no_volume p q = sym (simp (ne_eqb a (letter "U") p, ne_eqb a (letter "M") q))

pub ruleset units = (units_um, units_uh, units_mm, units_mh, no_time, no_volume)

none_of : (r : Option RateUnit) → is_some r ≡ false → r ≡ None
none_of None e = refl
none_of (Some u) e = false_true (sym e)

one_letter : (s : List ℕ) → length s < 2 → units_of s ≡ None
unfolding units_of is_text
one_letter [] h = refl
one_letter (a ∷ []) h = refl
one_letter (a ∷ b ∷ s) h = absurd (omega arith)

module _ (s : List ℕ) where
  pub too_few : length s < 2 → None ≡ units_at_end s
  unfolding units_at_end
  too_few h = sym (one_letter (drop (length s - 2) s) (simp length-drop (omega arith)))

  two_letters : 2 ≤ length s → drop (length s - 2) s ≡ get_or s (length s - 2) 0 ∷ get_or s (length s - 1) 0 ∷ []
  two_letters h =
      let k : suc (length s - 2) ≡ length s - 1 = omega arith in
      let l : suc (length s - 1) ≡ length s = omega arith in
      drop-cons s (length s - 2) 0 (omega arith)
      ∙ ap (λ (n : ℕ). get_or s (length s - 2) 0 ∷ drop n s) k
      ∙ ap (λ (t : List ℕ). get_or s (length s - 2) 0 ∷ t) (drop-cons s (length s - 1) 0 (omega arith))
      ∙ ap (λ (n : ℕ). get_or s (length s - 2) 0 ∷ get_or s (length s - 1) 0 ∷ drop n s) l
      ∙ ap (λ (t : List ℕ). get_or s (length s - 2) 0 ∷ get_or s (length s - 1) 0 ∷ t) (drop_of_length-le s {i = length s} (omega arith))

  pub last_two :
      (r : Option RateUnit) → 2 ≤ length s → r ≡ units_of (get_or s (length s - 2) 0 ∷ get_or s (length s - 1) 0 ∷ []) → r ≡ units_at_end s
  unfolding units_at_end
  last_two r h e = e ∙ ap units_of (sym (two_letters h))

  module _ (r : Option RateUnit) (p : r ≡ units_at_end s) where
    pub no_units : is_some r ≡ false → s ≡ amount_of s
    unfolding amount_of
    no_units q = ap (λ (u : Option RateUnit). asked.without_units u s) (sym (none_of r q) ∙ p)

    -- units take two letters
    pub units_within : is_some r ≡ true → 2 ≤ length s
    units_within q = go (ltb (length s) 2) refl
      where
        go : (t : Bool) → ltb (length s) 2 ≡ t → 2 ≤ length s
        go true e = false_true (sym (ap is_some (p ∙ sym (too_few (ltb-true (length s) 2 e)))) ∙ q)
        go false e = ltb-false (length s) 2 e

    pub some_units : is_some r ≡ true → take (length s - 2) s ≡ amount_of s
    unfolding amount_of
    some_units q = by r q ∙ ap (λ (u : Option RateUnit). asked.without_units u s) p
      where
        by : (u : Option RateUnit) → is_some u ≡ true → take (length s - 2) s ≡ asked.without_units u s
        by None e = false_true e
        by (Some u) e = refl

-- ---- RAT
module _ (s amount : List ℕ) (units : Option RateUnit) (r : Option ℕ)
    (n : length s ≡ 0 → ⊥) (p : units ≡ units_at_end s) (q : amount ≡ amount_of s) (e : r ≡ read amount) where
  pub sets_rate : (x : ℕ) → r ≡ Some x → c.SetRate x units ≡ rate_asked s
  unfolding rate_asked
  sets_rate x k =
      ap (c.SetRate x) p
      ∙ sets_number c.AskRate (λ x. c.SetRate x (units_at_end s)) s n (read (amount_of s)) r x (e ∙ ap read q) k

  pub no_rate : r ≡ None → c.Malformed ≡ rate_asked s
  unfolding rate_asked
  no_rate k = no_number c.AskRate (λ x. c.SetRate x (units_at_end s)) s n (read (amount_of s)) r (e ∙ ap read q) k

-- ---- INF, WDR and REV
-- a text of three letters that is a word, and one that is not
module _ (a b d : ℕ) (s : List ℕ) where
  abbrev Word : Type 0
  Word = (length s ≡ 3) × (get_or s 0 0 ≡ a) × (get_or s 1 0 ≡ b) × (get_or s 2 0 ≡ d)

  pub no_word : (Word → ⊥) → is_text (a ∷ b ∷ d ∷ []) s ≡ false
  no_word n = go (is_text (a ∷ b ∷ d ∷ []) s) refl
    where
      go : (t : Bool) → is_text (a ∷ b ∷ d ∷ []) s ≡ t → t ≡ false
      go true e =
          let w : s ≡ a ∷ b ∷ d ∷ [] = word_is (a ∷ b ∷ d ∷ []) s e in
          absurd
          (n
          (ap length w, ap (λ (t : List ℕ). get_or t 0 0) w, ap (λ (t : List ℕ). get_or t 1 0) w, ap (λ (t : List ℕ). get_or t 2 0) w))
      go false e = refl

abbrev Inf : List ℕ → Type 0
Inf s = Word (letter "I") (letter "N") (letter "F") s

abbrev Wdr : List ℕ → Type 0
Wdr s = Word (letter "W") (letter "D") (letter "R") s

abbrev Rev : List ℕ → Type 0
Rev s = Word (letter "R") (letter "E") (letter "V") s

module _ (s : List ℕ) where
  pub infuse : Inf s → Some (heading.To Infuse) ≡ heading_of s
  unfolding heading_of is_text leads
  infuse w = sym (ap heading_of (text_from_reads s (text "INF") w.0 (w.1, (w.2, (w.3, tt)))))

  pub withdraw : Wdr s → Some (heading.To Withdraw) ≡ heading_of s
  unfolding heading_of is_text leads
  withdraw w = sym (ap heading_of (text_from_reads s (text "WDR") w.0 (w.1, (w.2, (w.3, tt)))))

  pub reverse : Rev s → Some heading.Reverse ≡ heading_of s
  unfolding heading_of is_text leads
  reverse w = sym (ap heading_of (text_from_reads s (text "REV") w.0 (w.1, (w.2, (w.3, tt)))))

  pub no_heading : (Inf s → ⊥) → (Wdr s → ⊥) → (Rev s → ⊥) → None ≡ heading_of s
  unfolding heading_of
  no_heading i w r = sym (simp (no_word _ _ _ s i, no_word _ _ _ s w, no_word _ _ _ s r))

-- ---- DIR and CLD
module _ (s : List ℕ) (u : Option Heading) (p : u ≡ heading_of s) where
  module _ (n : length s ≡ 0 → ⊥) where
    pub direction_is : direction_asked s ≡ asked.direction_by u
    unfolding direction_asked
    direction_is = sets c.AskDirection s (asked.direction_by (heading_of s)) n ∙ ap asked.direction_by (sym p)

    pub sets_direction : (h : Heading) (d : Direction) → u ≡ Some h → h ≡ heading.To d → c.SetDirection d ≡ direction_asked s
    sets_direction h d e f = sym (direction_is ∙ ap asked.direction_by (e ∙ ap Some f))

    pub reverses : (h : Heading) → u ≡ Some h → h ≡ heading.Reverse → c.Reverse ≡ direction_asked s
    reverses h e f = sym (direction_is ∙ ap asked.direction_by (e ∙ ap Some f))

    pub no_direction : u ≡ None → c.Malformed ≡ direction_asked s
    no_direction e = sym (direction_is ∙ ap asked.direction_by e)

  clear_is : clear_asked s ≡ asked.clear_by u
  unfolding clear_asked
  clear_is = ap asked.clear_by (sym p)

  pub clears : (h : Heading) (d : Direction) → u ≡ Some h → h ≡ heading.To d → c.Clear d ≡ clear_asked s
  clears h d e f = sym (clear_is ∙ ap asked.clear_by (e ∙ ap Some f))

  pub clears_no_reverse : (h : Heading) → u ≡ Some h → h ≡ heading.Reverse → c.Malformed ≡ clear_asked s
  clears_no_reverse h e f = sym (clear_is ∙ ap asked.clear_by (e ∙ ap Some f))

  pub clears_nothing : u ≡ None → c.Malformed ≡ clear_asked s
  clears_nothing e = sym (clear_is ∙ ap asked.clear_by e)

pub ruleset directions = (sets_direction, reverses, no_direction)

pub ruleset clearings = (clears, clears_no_reverse, clears_nothing)

-- ---- a command that takes no argument, a function that takes no datum
pub takes_none : (s : List ℕ) (command : Command) → length s ≡ 0 → command ≡ unless_more s command
unfolding unless_more
takes_none s command e = sym (simp (eq-eqb (length s) 0 e))

pub one_too_many : (s : List ℕ) (command : Command) → (length s ≡ 0 → ⊥) → c.Malformed ≡ unless_more s command
unfolding unless_more
one_too_many s command o = sym (simp (ne_eqb (length s) 0 o))
