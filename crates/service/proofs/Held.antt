-- The bytes of a `B` or `P` line that are held until it is whole: one more of two digits, and one more of a text.
-- Assumes nothing.
use Prim.Native.Nat.{ℕ, ◌+◌, ◌*◌, ◌≤◌, ◌<◌}
use mathlib.Core.Path.{◌≡◌, sym}
use Rattle.std.specs.Prelude.{Option, Some, None}
use mathlib.Core.Bool.{false}
use mathlib.Core.List.{List}
use lib.ListN.{length, set}
use borrow.Author.Tests.{le-leb, lt-leb, le-ltb, lt-ltb}
use Rattle.base.proofs.Choices.{and_false}
use Rattle.script.specs.declared.places.Spot.TheVariants as spot
use Rattle.service.specs.Reading.{digit_value, is_whole, whole_place, whole_held, is_kept, text_end, kept_place, kept_held}
use Rattle.service.specs.declared.places.Place.TheVariants.{Line, Bytes, Text}

-- ---- two digits and a place for their byte
module _ (n high : ℕ) (held : List ℕ) (b : ℕ) where
  module _ (low : ℕ) (v : Some low ≡ digit_value b) (h : high < 16) (f : n < length held) where
    pub whole_place_lem : Bytes (n + 1) ≡ whole_place n high b held
    unfolding whole_place is_whole
    whole_place_lem = rw (sym v) (sym (simp (lt-ltb high 16 h, lt-ltb n (length held) f)))

    pub whole_held_lem : set held n (high * 16 + low) ≡ whole_held n high b held
    unfolding whole_held is_whole
    whole_held_lem = rw (sym v) (sym (simp (lt-ltb high 16 h, lt-ltb n (length held) f)))

  -- no second digit, no first, no room
  pub no_low : (o : Option ℕ) → o ≡ digit_value b → o ≡ None → is_whole n high b held ≡ false
  unfolding is_whole
  no_low o v e = rw (sym v, e)

  pub no_high : 16 ≤ high → is_whole n high b held ≡ false
  unfolding is_whole
  no_high h = simp (le-ltb high 16 h, and_false)

  pub no_room : length held ≤ n → is_whole n high b held ≡ false
  unfolding is_whole
  no_room h = simp (le-ltb n (length held) h, and_false)

module _ (n high : ℕ) (held : List ℕ) (b : ℕ) (e : is_whole n high b held ≡ false) where
  pub broken_place : Line spot.Bad ≡ whole_place n high b held
  unfolding whole_place
  broken_place = sym (simp e)

  pub broken_held : held ≡ whole_held n high b held
  unfolding whole_held
  broken_held = sym (simp e)

pub ruleset broken = (no_low, no_high, no_room, broken_place, broken_held)

-- ---- a byte of a text and a place for it
module _ (n : ℕ) (held : List ℕ) (b : ℕ) where
  module _ (short : n ≤ 40) (free : n < length held) where
    pub kept_place_lem : (x : ℕ) → x ≡ text_end n b → Text (n + 1) x ≡ kept_place n b held
    unfolding kept_place is_kept
    kept_place_lem x v = rw v (sym (simp (le-leb n 40 short, lt-ltb n (length held) free)))

    pub kept_held_lem : set held n b ≡ kept_held n b held
    unfolding kept_held is_kept
    kept_held_lem = sym (simp (le-leb n 40 short, lt-ltb n (length held) free))

  pub no_more : 40 < n → is_kept n held ≡ false
  unfolding is_kept
  no_more h = simp (lt-leb n 40 h)

  pub no_space : length held ≤ n → is_kept n held ≡ false
  unfolding is_kept
  no_space h = simp (le-ltb n (length held) h, and_false)

  module _ (e : is_kept n held ≡ false) where
    pub lost_place : Line spot.Bad ≡ kept_place n b held
    unfolding kept_place
    lost_place = sym (simp e)

    pub lost_held : held ≡ kept_held n b held
    unfolding kept_held
    lost_held = sym (simp e)

pub ruleset keeping = (kept_place_lem, kept_held_lem, no_more, no_space, lost_place, lost_held)
