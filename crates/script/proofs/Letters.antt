-- A byte at each place of a line, by what the code tests.
-- Assumes nothing.
use Prim.Native.Nat.{ℕ, ◌-◌}
use mathlib.Core.Path.{◌≡◌, sym, ◌∙◌}
use mathlib.Core.Bool.{true, false}
use native.Mathlib.Omega.{arith}
use borrow.Author.Tests.{eq-eqb, ne_eqb}
use Rattle.std.specs.Prelude.{Option, Some, None, unwrap_or}
use Rattle.decimal.specs.Read.{is_digit}
use Rattle.decimal.proofs.Bytes.{digit_yes, digit_low, digit_high}
use Rattle.script.specs.Numbers.{grown}
use Rattle.script.specs.Places.{kind, behind_tick, in_ticks, behind_edge, pin_ended, in_pin, in_level}
use Rattle.script.specs.declared.places.Spot.{Spot}
use Rattle.script.specs.declared.places.Spot.TheVariants.{Text, Tick, Ticks, Edge, Pin, Level, Bad}

module _ (b : ℕ) where
  -- ---- the first byte of a line
  pub kind_text : b ≡ 62 → Text false ≡ kind b
  unfolding kind
  kind_text e = sym (simp (eq-eqb b 62 e))

  pub kind_tick : b ≡ 84 → Tick ≡ kind b
  unfolding kind
  kind_tick e = rw e

  pub kind_edge : b ≡ 69 → Edge ≡ kind b
  unfolding kind
  kind_edge e = rw e

  pub kind_none : (b ≡ 62 → ⊥) → (b ≡ 84 → ⊥) → (b ≡ 69 → ⊥) → Bad ≡ kind b
  unfolding kind
  kind_none p t e = sym (simp (ne_eqb b 62 p, ne_eqb b 84 t, ne_eqb b 69 e))

  -- ---- a blank behind the letter
  pub tick_blank : b ≡ 32 → Ticks 0 ≡ behind_tick b
  unfolding behind_tick
  tick_blank e = sym (simp (eq-eqb b 32 e))

  pub tick_other : (b ≡ 32 → ⊥) → Bad ≡ behind_tick b
  unfolding behind_tick
  tick_other n = sym (simp (ne_eqb b 32 n))

  pub edge_blank : b ≡ 32 → Pin None ≡ behind_edge b
  unfolding behind_edge
  edge_blank e = sym (simp (eq-eqb b 32 e))

  pub edge_other : (b ≡ 32 → ⊥) → Bad ≡ behind_edge b
  unfolding behind_edge
  edge_other n = sym (simp (ne_eqb b 32 n))

  -- ---- digits
  module _ (n : ℕ) where
    pub ticks_digit : (m : ℕ) → is_digit b ≡ true → m ≡ grown n (b - 48) → Ticks m ≡ in_ticks n b
    unfolding in_ticks
    ticks_digit m d e = rw e (sym (simp d))

    pub ticks_other : is_digit b ≡ false → Bad ≡ in_ticks n b
    unfolding in_ticks
    ticks_other d = sym (simp d)

  module _ (n : Option ℕ) where
    module _ (k : ℕ) (z : k ≡ unwrap_or n 0) where
      pub level_digit : (pin m : ℕ) → is_digit b ≡ true → m ≡ grown k (b - 48) → Level pin (Some m) ≡ in_level pin n b
      unfolding in_level
      level_digit pin m d e = rw (e, z) (sym (simp d))

      pub pin_digit : (m : ℕ) → is_digit b ≡ true → m ≡ grown k (b - 48) → Pin (Some m) ≡ in_pin n b
      unfolding in_pin
      pin_digit m d e = rw (e, z) (sym (simp d))

    pub level_other : (pin : ℕ) → is_digit b ≡ false → Bad ≡ in_level pin n b
    unfolding in_level
    level_other pin d = sym (simp d)

    pub pin_space : (r : Spot) → b ≡ 32 → r ≡ pin_ended n → r ≡ in_pin n b
    unfolding in_pin
    pin_space r e h = h ∙ sym (simp (digit_low b (omega arith), eq-eqb b 32 e))

    pub pin_other : is_digit b ≡ false → (b ≡ 32 → ⊥) → Bad ≡ in_pin n b
    unfolding in_pin
    pin_other d e = sym (simp (d, ne_eqb b 32 e))

-- ---- a blank behind a pin
module _ (n : Option ℕ) where
  pub pin_there : (pin : ℕ) → n ≡ Some pin → Level pin None ≡ pin_ended n
  unfolding pin_ended
  pin_there pin e = rw e

  pub pin_missing : n ≡ None → Bad ≡ pin_ended n
  unfolding pin_ended
  pin_missing e = rw e

pub ruleset bytes = (
  kind_text,
  kind_tick,
  kind_edge,
  kind_none,
  tick_blank,
  tick_other,
  edge_blank,
  edge_other,
  ticks_digit,
  ticks_other,
  level_digit,
  level_other,
  pin_digit,
  pin_space,
  pin_other,
  pin_there,
  pin_missing,
  digit_yes,
  digit_low,
  digit_high,
)
