-- What is printed reads back: a rate with its unit, a direction, a function with its datum.   (01, Line and answer; Numbers)
--     rate_back         a writable number with a unit behind it sets that rate in that unit
--     direction_back    a direction's name sets that direction
--     function_back     a function's name, and its datum as answers print it, set that function
-- Assumes nothing.
use Rattle.std.specs.Prelude.{if◌then◌else◌, Option}
use Prim.Native.Nat.{ℕ, ◌-◌, ◌≤◌}
use mathlib.Core.Path.{◌≡◌, refl, ap, ◌∙◌}
use mathlib.Core.Bool.{Bool, true, false, ◌&&◌}
use mathlib.Core.List.{List, [], ◌∷◌, ◌++◌}
use native.Mathlib.Nat.{mod-eq_of_lt}
use native.Mathlib.Omega.{arith}
use lib.Dec.{leb, eqb}
use lib.ListN.{length, take, drop, length-append}
use lib.Seq.{take_at, drop-append_seam}
use borrow.Author.Tests.{leb-true}
use Rattle.base.proofs.Choices.{and_right}
use Rattle.decimal.specs.Read.{read}
use Rattle.decimal.specs.Short.{read_one, read_two, read_tenths}
use Rattle.decimal.specs.Print.{last_digit, print, print_two, print_tenths}
use Rattle.decimal.specs.Writable.{is_writable}
use Rattle.decimal.proofs.Bytes.{bytes}
use Rattle.decimal.proofs.Theorems.{round_trip, two_digits_read, tenths_read}
use Rattle.drive.specs.declared.rates.RateUnit.{RateUnit}
use Rattle.drive.specs.declared.rates.RateUnit.TheVariants.{Um, Mm, Uh, Mh}
use Rattle.drive.specs.declared.directions.Direction.{Direction}
use Rattle.drive.specs.declared.directions.Direction.TheVariants.{Infuse, Withdraw}
use Rattle.words.specs.Functions.{number, fits}
use Rattle.words.specs.Spelling.{function_name, datum_text, rate_letters, direction_letters}
use Rattle.std.specs.Prelude.{Option, Some}
use Rattle.words.specs.declared.commands.Command.TheVariants as c
use Rattle.words.specs.declared.functions.Function.{Function}
use Rattle.words.specs.declared.functions.Function.TheVariants as f
use Rattle.words.proofs.Names.{name_length_is}
use Rattle.line.specs.Spelling.{leads, is_text}
use Rattle.line.specs.Arguments.{if_number, unless_more, units_of, units_at_end, without_units, amount_of}
use Rattle.line.specs.Arguments.{rate_asked, heading_of, direction_asked}
use Rattle.line.specs.Functions.{called_in, pause_by, pause_asked, with_datum, function_by, function_asked}
use Rattle.line.proofs.Asking.{sets}
use Rattle.line.proofs.Behind.{by_called}

-- ---- rates
unit_length : (u : RateUnit) → length (rate_letters u) ≡ 2
unit_length Um = refl
unit_length Mm = refl
unit_length Uh = refl
unit_length Mh = refl

unit_back : (u : RateUnit) → units_of (rate_letters u) ≡ Some u
unfolding units_of is_text leads
unit_back Um = refl
unit_back Mm = refl
unit_back Uh = refl
unit_back Mh = refl

module _ (number : List ℕ) (u : RateUnit) where
  abbrev sent : List ℕ
  sent = number ++ rate_letters u

  before_units : length sent - 2 ≡ length number
  before_units = omega (arith, length-append number (rate_letters u), unit_length u)

  units_back : units_at_end sent ≡ Some u
  unfolding units_at_end
  units_back =
      ap (λ (n : ℕ). units_of (drop n sent)) before_units
      ∙ ap units_of (drop-append_seam number (rate_letters u))
      ∙ unit_back u

  amount_back : amount_of sent ≡ number
  unfolding amount_of
  amount_back =
      ap (λ (v : Option RateUnit). without_units v sent) units_back
      ∙ ap (λ (n : ℕ). take n sent) before_units
      ∙ take_at number (rate_letters u) (length number) refl

  some_length : length sent ≡ 0 → ⊥
  some_length e = omega (arith, length-append number (rate_letters u), unit_length u)

pub rate_back : (x : ℕ) (u : RateUnit) → is_writable x ≡ true → rate_asked (print x ++ rate_letters u) ≡ c.SetRate x (Some u)
unfolding rate_asked
rate_back x u w =
    let s = print x ++ rate_letters u in
    sets c.AskRate s (if_number (λ y. c.SetRate y (units_at_end s)) (read (amount_of s))) (some_length (print x) u)
    ∙ ap (if_number (λ y. c.SetRate y (units_at_end s))) (ap read (amount_back (print x) u) ∙ round_trip x w)
    ∙ ap (c.SetRate x) (units_back (print x) u)

-- ---- directions
pub direction_back : (d : Direction) → direction_asked (direction_letters d) ≡ c.SetDirection d
unfolding direction_asked heading_of is_text leads
direction_back Infuse = refl
direction_back Withdraw = refl

-- ---- functions
-- whatever stands behind a function's name is taken for its datum
by_name : (g : Function) (t : List ℕ) → function_by (called_in (function_name g ++ t)) (function_name g ++ t) ≡ with_datum g t
unfolding called_in leads
by_name f.Rat t = refl
by_name f.Inc t = refl
by_name f.Dec t = refl
by_name f.Stp t = refl
by_name (f.Jmp n) t = refl
by_name (f.Lop n) t = refl
by_name f.Lps t = refl
by_name f.Lpe t = refl
by_name (f.Pas n) t = refl
by_name (f.Tenths n) t = refl
by_name (f.If n) t = refl
by_name (f.Evn n) t = refl
by_name f.Evr t = refl
by_name f.Bep t = refl
by_name (f.Out n) t = refl

name_length : (g : Function) → 2 ≤ length (function_name g)
name_length g = rw (name_length_is g) (go (eqb (number g) 10))
  where
    go : (t : Bool) → 2 ≤ (if t then 2 else 3)
    go true = omega arith
    go false = omega arith

behind_name : (g : Function) (t : List ℕ) → function_asked (function_name g ++ t) ≡ with_datum g t
behind_name g t =
    let s = function_name g ++ t in
    by_called s (λ e. omega (arith, length-append (function_name g) t, name_length g)) (called_in s) refl ∙ by_name g t

at_most : (t : Bool) (n most : ℕ) → (t && leb n most) ≡ true → n ≤ most
at_most t n most e = leb-true n most (and_right t (leb n most) e)

two_back : (g : ℕ → Function) (n : ℕ) → n ≤ 99 → if_number (λ k. c.SetFunction (g k)) (read_two (print_two n)) ≡ c.SetFunction (g n)
two_back g n h = ap (if_number (λ k. c.SetFunction (g k))) (two_digits_read n (omega arith))

seconds_back : (n : ℕ) → n ≤ 99 → pause_asked (print_two n) ≡ c.SetFunction (f.Pas n)
unfolding pause_asked
seconds_back n h = ap (λ (r : Option ℕ). pause_by r (read_tenths (print_two n))) (two_digits_read n (omega arith))

-- three characters are no whole seconds
tenths_back : (n : ℕ) → n ≤ 99 → pause_asked (print_tenths n) ≡ c.SetFunction (f.Tenths n)
unfolding pause_asked read_two print_tenths
tenths_back n h = ap (if_number (λ k. c.SetFunction (f.Tenths k))) (tenths_read n (omega arith))

level_back : (n : ℕ) → n ≤ 1 → if_number (λ k. c.SetFunction (f.Out k)) (read_one (last_digit n ∷ [])) ≡ c.SetFunction (f.Out n)
unfolding read_one
level_back n h = simp bytes (ap (λ (k : ℕ). c.SetFunction (f.Out k)) (mod-eq_of_lt {n = n} {m = 10} (omega arith)))

datum_back : (g : Function) → fits 99 g ≡ true → with_datum g (datum_text g) ≡ c.SetFunction g
unfolding unless_more
datum_back f.Rat e = refl
datum_back f.Inc e = refl
datum_back f.Dec e = refl
datum_back f.Stp e = refl
datum_back (f.Jmp n) e = two_back f.Jmp n (at_most (leb 1 n) n 99 e)
datum_back (f.Lop n) e = two_back f.Lop n (at_most (leb 1 n) n 99 e)
datum_back f.Lps e = refl
datum_back f.Lpe e = refl
datum_back (f.Pas n) e = seconds_back n (leb-true n 99 e)
datum_back (f.Tenths n) e = tenths_back n (at_most (leb 1 n) n 99 e)
datum_back (f.If n) e = two_back f.If n (at_most (leb 1 n) n 99 e)
datum_back (f.Evn n) e = two_back f.Evn n (at_most (leb 1 n) n 99 e)
datum_back f.Evr e = refl
datum_back f.Bep e = refl
datum_back (f.Out n) e = level_back n (leb-true n 1 e)

pub function_back : (g : Function) → fits 99 g ≡ true → function_asked (function_name g ++ datum_text g) ≡ c.SetFunction g
function_back g e = behind_name g (datum_text g) ∙ datum_back g e
