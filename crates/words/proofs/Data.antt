-- The quick tests of a function's datum, and of a phase, say no more than the rule; the tests of a phase.
-- Assumes nothing.
use Rattle.std.specs.Prelude.{if◌then◌else◌}
use Prim.Native.Nat.{ℕ, ◌/◌, ◌≤◌}
use mathlib.Core.Path.{◌≡◌, refl, sym, ◌∙◌}
use mathlib.Core.Bool.{Bool, true, false, ◌&&◌}
use native.Mathlib.Omega.{arith}
use lib.Dec.{leb, eqb}
use lib.Bits.{bit_and, bit_or, or_comm, or_add_and, and_le_r}
use borrow.Author.Tests.{eqb-true}
use Rattle.base.proofs.Choices.{and_left, and_right, false_true}
use Rattle.decimal.specs.Writable.{is_writable}
use Rattle.decimal.proofs.Grid.{writable_ones}
use Rattle.words.specs.Phases.{is_sound_phase}
use Rattle.words.specs.declared.phases.Phase.{Phase}
use Rattle.words.specs.Functions.{number, datum, is_out, takes_datum, fits}
use Rattle.words.specs.declared.functions.Function.{Function}
use Rattle.words.specs.declared.functions.Function.TheVariants as f

-- ---- a datum from 1 to the last phase, and at most 99, fits whatever takes one, but OUT
abbrev in_all : ℕ → ℕ → Bool
in_all phases n = leb 1 n && leb n phases && leb n 99

module _ (phases n : ℕ) (e : in_all phases n ≡ true) where
  phase_fits : true ≡ (leb 1 n && leb n phases)
  phase_fits = sym (and_left (leb 1 n && leb n phases) (leb n 99) e)

  seconds_fit : true ≡ leb n 99
  seconds_fit = sym (and_right (leb 1 n && leb n phases) (leb n 99) e)

  count_fits : true ≡ (leb 1 n && leb n 99)
  count_fits = sym (simp (and_left (leb 1 n) (leb n phases) (sym phase_fits), sym seconds_fit))

-- what the quick test looks at: the datum, 1 where there is none, 0 for OUT
abbrev looked : Function → ℕ
looked g = if is_out g then 0 else if takes_datum g then datum g else 1

looked_fits : (phases : ℕ) (g : Function) → in_all phases (looked g) ≡ true → true ≡ fits phases g
looked_fits phases f.Rat e = refl
looked_fits phases f.Inc e = refl
looked_fits phases f.Dec e = refl
looked_fits phases f.Stp e = refl
looked_fits phases (f.Jmp n) e = phase_fits phases n e
looked_fits phases (f.Lop n) e = count_fits phases n e
looked_fits phases f.Lps e = refl
looked_fits phases f.Lpe e = refl
looked_fits phases (f.Pas n) e = seconds_fit phases n e
looked_fits phases (f.Tenths n) e = count_fits phases n e
looked_fits phases (f.If n) e = phase_fits phases n e
looked_fits phases (f.Evn n) e = phase_fits phases n e
looked_fits phases f.Evr e = refl
looked_fits phases f.Bep e = refl
looked_fits phases (f.Out n) e = false_true e

pub quick_fits : (phases : ℕ) (g : Function) (n : ℕ) → n ≡ looked g → in_all phases n ≡ true → true ≡ fits phases g
quick_fits phases g n a e = looked_fits phases g (rw (a) at e)

-- ---- a plain phase: where nothing is left of its numbers and of its function's number, it is sound
within_or : (a b : ℕ) → a ≤ bit_or a b
within_or a b = let l = or_add_and a b in let m = and_le_r a b in omega arith

none_left : (a b : ℕ) → bit_or a b ≡ 0 → (a ≡ 0) × (b ≡ 0)
none_left a b e = let m = within_or a b in let z : a ≡ 0 = omega arith in (z, rw (z) at e)

small_numbers : (x y : ℕ) → bit_or x y / 8192 ≡ 0 → (x ≤ 8_191) × (y ≤ 8_191)
small_numbers x y e =
    let l = within_or x y in
    let r = rw (or_comm y x) at (within_or y x) in
    (omega arith, omega arith)

first_four_fit : (phases : ℕ) (g : Function) → bit_and (number g) 252 ≡ 0 → fits phases g ≡ true
first_four_fit phases f.Rat e = refl
first_four_fit phases f.Inc e = refl
first_four_fit phases f.Dec e = refl
first_four_fit phases f.Stp e = refl
first_four_fit phases (f.Jmp n) e = absurd (omega arith)
first_four_fit phases (f.Lop n) e = absurd (omega arith)
first_four_fit phases f.Lps e = refl
first_four_fit phases f.Lpe e = refl
first_four_fit phases (f.Pas n) e = absurd (omega arith)
first_four_fit phases (f.Tenths n) e = absurd (omega arith)
first_four_fit phases (f.If n) e = absurd (omega arith)
first_four_fit phases (f.Evn n) e = absurd (omega arith)
first_four_fit phases f.Evr e = refl
first_four_fit phases f.Bep e = refl
first_four_fit phases (f.Out n) e = absurd (omega arith)

pub plain_sound :
    (p : Phase) (n : ℕ)
    → n ≡ number p.function
    → eqb (bit_or (bit_or p.rate p.volume / 8192) (bit_and n 252)) 0 ≡ true
    → (phases : ℕ) → is_sound_phase phases p ≡ true
unfolding is_sound_phase
plain_sound p n a e phases =
    let none = none_left (bit_or p.rate p.volume / 8192) (bit_and n 252) (eqb-true _ _ e) in
    let small = small_numbers p.rate p.volume none.0 in
    simp (
      sym (writable_ones p.rate (omega (arith, small.0))),
      sym (writable_ones p.volume (omega (arith, small.1))),
      first_four_fit phases p.function (rw (a) at none.1),
    )

-- ---- a phase's two tests, one after the other, where both numbers are tested in one (`decimal::are_writable`)
module _ (phases : ℕ) (p : Phase) (numbers : Bool) (a : numbers ≡ (is_writable p.rate && is_writable p.volume)) where
  pub numbers_unwritable : numbers ≡ false → false ≡ is_sound_phase phases p
  unfolding is_sound_phase
  numbers_unwritable e = sym (simp (sym a ∙ e))

  pub function_decides : (datum : Bool) → numbers ≡ true → datum ≡ fits phases p.function → datum ≡ is_sound_phase phases p
  unfolding is_sound_phase
  function_decides datum e d = d ∙ sym (simp (sym a ∙ e))

-- ---- a phase's three tests, one after the other
module _ (phases : ℕ) (p : Phase) where
  module _ (rate : Bool) (a : rate ≡ is_writable p.rate) where
    pub rate_unwritable : rate ≡ false → false ≡ is_sound_phase phases p
    unfolding is_sound_phase
    rate_unwritable e = sym (simp (sym a ∙ e))

    module _ (e : rate ≡ true) (volume : Bool) (b : volume ≡ is_writable p.volume) where
      pub volume_unwritable : volume ≡ false → false ≡ is_sound_phase phases p
      unfolding is_sound_phase
      volume_unwritable h = sym (simp (sym a ∙ e, sym b ∙ h))

      pub datum_decides : (datum : Bool) → volume ≡ true → datum ≡ fits phases p.function → datum ≡ is_sound_phase phases p
      unfolding is_sound_phase
      datum_decides datum h d = d ∙ sym (simp (sym a ∙ e, sym b ∙ h))

pub ruleset phase_tests = (rate_unwritable, volume_unwritable, datum_decides)
