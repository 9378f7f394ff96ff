-- What a line of digits and blanks asks for, byte by byte, is what its parts say.
-- Assumes nothing.
use Rattle.std.specs.Prelude.{if◌then◌else◌, Option, Some, None, unwrap_or}
use Prim.Native.Nat.{ℕ, ◌+◌, ◌*◌, ◌-◌}
use mathlib.Core.Path.{◌≡◌, refl, ap, ◌∙◌}
use mathlib.Core.Bool.{Bool, true, false, ◌&&◌}
use mathlib.Core.List.{List, [], ◌∷◌}
use native.Mathlib.Omega.{arith}
use lib.Dec.{eqb, leb}
use borrow.Author.Tests.{leb-true, ne_eqb}
use Rattle.base.specs.Text.{letter}
use Rattle.base.proofs.Choices.{and_left}
use Rattle.decimal.specs.Read.{is_digit}
use Rattle.script.specs.Items.{only_digits, is_number, value_from, value_of, up_to_blank, past_blank}
use Rattle.script.specs.Numbers.{most_ticks, most_byte, ticks_asked, level_asked}
use Rattle.script.specs.declared.places.Act.{Act}
use Rattle.script.specs.declared.places.Act.TheVariants.{Set, Run, Complain}

-- ---- what the rest of a line asks for: in the number of a `T`, in a pin's level, in a pin, by plain numbers
unfoldable pub ticks_act : ℕ → List ℕ → Act
ticks_act n [] = ticks_asked n
ticks_act n (b ∷ l) = if is_digit b then ticks_act (n * 10 + (b - 48)) l else Complain

unfoldable pub level_act : ℕ → Option ℕ → List ℕ → Act
level_act pin n [] = level_asked pin n
level_act pin n (b ∷ l) = if is_digit b then level_act pin (Some (unwrap_or n 0 * 10 + (b - 48))) l else Complain

-- a blank ends a pin that has a digit
abbrev pub blank_act : Option ℕ → List ℕ → Act
blank_act None l = Complain
blank_act (Some pin) l = level_act pin None l

unfoldable pub pin_act : Option ℕ → List ℕ → Act
pin_act n [] = Complain
pin_act n (b ∷ l) =
    if is_digit b
    then pin_act (Some (unwrap_or n 0 * 10 + (b - 48))) l
    else if eqb b (letter " ") then blank_act n l else Complain

-- ---- behind a `T` and behind an `E`: one blank
abbrev pub tick_act : List ℕ → Act
tick_act [] = Complain
tick_act (b ∷ l) = if eqb b (letter " ") then ticks_act 0 l else Complain

abbrev pub edge_act : List ℕ → Act
edge_act [] = Complain
edge_act (b ∷ l) = if eqb b (letter " ") then pin_act None l else Complain

-- ---- choices within choices
both : (t u : Bool) (x y : Act) → (if t then (if u then x else y) else y) ≡ (if t && u then x else y)
both true u x y = refl
both false u x y = refl

both_two : (t u v : Bool) (x y : Act) → (if t then (if u && v then x else y) else y) ≡ (if t && u && v then x else y)
both_two true u v x y = refl
both_two false u v x y = refl

both_three :
    (t u v w : Bool) (x y : Act) → (if t then (if u && v && w then x else y) else y) ≡ (if t && u && v && w then x else y)
both_three true u v w x y = refl
both_three false u v w x y = refl

-- ---- `T n`
ticks_digits : (n : ℕ) (l : List ℕ) → ticks_act n l ≡ (if only_digits l then ticks_asked (value_from n l) else Complain)
unfolding ticks_act
ticks_digits n [] = refl
ticks_digits n (b ∷ l) =
    ap (λ (a : Act). if is_digit b then a else Complain) (ticks_digits (n * 10 + (b - 48)) l)
    ∙ both (is_digit b) (only_digits l) (ticks_asked (value_from n (b ∷ l))) Complain

abbrev pub ticks_test : List ℕ → Bool
ticks_test l = is_number l && leb 1 (value_of l) && leb (value_of l) most_ticks

pub ticks_parts : (l : List ℕ) → ticks_act 0 l ≡ (if ticks_test l then Run (value_of l) else Complain)
unfolding ticks_act ticks_asked
ticks_parts [] = refl
ticks_parts (b ∷ l) =
    ticks_digits 0 (b ∷ l)
    ∙ both_two (is_number (b ∷ l)) (leb 1 (value_of (b ∷ l))) (leb (value_of (b ∷ l)) most_ticks) (Run (value_of (b ∷ l))) Complain

-- ---- a level
abbrev set_act : ℕ → ℕ → Act
set_act pin n = if leb pin most_byte && leb n most_byte then Set pin n else Complain

level_digits :
    (pin n : ℕ) (l : List ℕ) → level_act pin (Some n) l ≡ (if only_digits l then set_act pin (value_from n l) else Complain)
unfolding level_act level_asked
level_digits pin n [] = refl
level_digits pin n (b ∷ l) =
    ap (λ (a : Act). if is_digit b then a else Complain) (level_digits pin (n * 10 + (b - 48)) l)
    ∙ both (is_digit b) (only_digits l) (set_act pin (value_from n (b ∷ l))) Complain

level_number :
    (pin : ℕ) (l : List ℕ) → level_act pin None l ≡ (if is_number l then set_act pin (value_of l) else Complain)
unfolding level_act level_asked
level_number pin [] = refl
level_number pin (b ∷ l) =
    ap (λ (a : Act). if is_digit b then a else Complain) (level_digits pin (0 * 10 + (b - 48)) l)
    ∙ both (is_digit b) (only_digits l) (set_act pin (value_of (b ∷ l))) Complain

-- ---- a pin and its level
digit_no_blank : (b : ℕ) → is_digit b ≡ true → eqb b (letter " ") ≡ false
unfolding is_digit
digit_no_blank b e =
    let h = leb-true 48 b (and_left (leb 48 b) (leb b 57) e) in ne_eqb b 32 (λ (z : b ≡ 32). absurd (omega arith))

pin_digits :
    (n : ℕ) (s : List ℕ)
    → pin_act (Some n) s
    ≡ (if only_digits (up_to_blank s) then level_act (value_from n (up_to_blank s)) None (past_blank s) else Complain)
unfolding pin_act level_act level_asked
pin_digits n [] = refl
pin_digits n (b ∷ s) = go (is_digit b) (eqb b (letter " ")) refl refl (pin_digits (n * 10 + (b - 48)) s)
  where
    go :
        (t u : Bool)
        → is_digit b ≡ t
        → eqb b (letter " ") ≡ u
        → pin_act (Some (n * 10 + (b - 48))) s
        ≡ (if only_digits (up_to_blank s)
        then level_act (value_from (n * 10 + (b - 48)) (up_to_blank s)) None (past_blank s)
        else Complain)
        → pin_act (Some n) (b ∷ s)
        ≡ (if only_digits (up_to_blank (b ∷ s))
        then level_act (value_from n (up_to_blank (b ∷ s))) None (past_blank (b ∷ s))
        else Complain)
    go true u e f ih = rw (e, digit_no_blank b e) (rw e ih)
    go false true e f ih = rw (e, f)
    go false false e f ih = rw (f, e)

pin_number :
    (s : List ℕ)
    → pin_act None s ≡ (if is_number (up_to_blank s) then level_act (value_of (up_to_blank s)) None (past_blank s) else Complain)
unfolding pin_act
pin_number [] = refl
pin_number (b ∷ s) = go (is_digit b) (eqb b (letter " ")) refl refl
  where
    go :
        (t u : Bool)
        → is_digit b ≡ t
        → eqb b (letter " ") ≡ u
        → pin_act None (b ∷ s)
        ≡ (if is_number (up_to_blank (b ∷ s))
        then level_act (value_of (up_to_blank (b ∷ s))) None (past_blank (b ∷ s))
        else Complain)
    go true u e f = rw (e, digit_no_blank b e) (rw e (pin_digits (0 * 10 + (b - 48)) s))
    go false true e f = rw (e, f)
    go false false e f = rw (f, e)

abbrev pub level_test : List ℕ → List ℕ → Bool
level_test pin high = is_number pin && is_number high && leb (value_of pin) most_byte && leb (value_of high) most_byte

pub level_parts :
    (s : List ℕ)
    → pin_act None s
    ≡ (if level_test (up_to_blank s) (past_blank s) then Set (value_of (up_to_blank s)) (value_of (past_blank s)) else Complain)
level_parts s =
    let pin = up_to_blank s in
    let high = past_blank s in
    let set : Act = Set (value_of pin) (value_of high) in
    pin_number s
    ∙ ap (λ (a : Act). if is_number pin then a else Complain) (level_number (value_of pin) high)
    ∙ ap
    (λ (a : Act). if is_number pin then a else Complain)
    (both_two (is_number high) (leb (value_of pin) most_byte) (leb (value_of high) most_byte) set Complain)
    ∙ both_three (is_number pin) (is_number high) (leb (value_of pin) most_byte) (leb (value_of high) most_byte) set Complain
