-- One byte more of a line, by the place that was matched and what was called for it.
-- Assumes nothing.
use Prim.Native.Nat.{ℕ}
use mathlib.Core.Path.{◌≡◌, sym}
use borrow.Author.Tests.{eq-eqb, ne_eqb}
use Rattle.script.specs.Places.{behind_tick, line_end, returned, returned_act, next, act_on, after_spot}
use Rattle.script.specs.declared.places.Act.{Act}
use Rattle.script.specs.declared.places.Spot.{Spot}
use Rattle.script.specs.declared.places.Spot.TheVariants.{Start, Tick}

module _ (p : Spot) (b : ℕ) where
  -- ---- any other byte
  pub next_tick_lem : (r : Spot) → p ≡ Tick → r ≡ behind_tick b → r ≡ next p b
  next_tick_lem r e h = rw e h

  -- ---- one byte more
  pub after_newline : (a : Act) → b ≡ 10 → a ≡ line_end p → record { place = Start; act = a } ≡ after_spot p b
  unfolding after_spot
  after_newline a e h = rw h (sym (simp (eq-eqb b 10 e)))

  pub after_return :
      (q : Spot) (a : Act) → b ≡ 13 → q ≡ returned p → a ≡ returned_act p → record { place = q; act = a } ≡ after_spot p b
  unfolding after_spot
  after_return q a e h k = rw (e, h, k)

  pub after_other :
      (q : Spot) (a : Act)
      → (b ≡ 10 → ⊥)
      → (b ≡ 13 → ⊥)
      → q ≡ next p b
      → a ≡ act_on p b
      → record { place = q; act = a } ≡ after_spot p b
  unfolding after_spot
  after_other q a m n h k = rw (h, k) (sym (simp (ne_eqb b 10 m, ne_eqb b 13 n)))

pub ruleset standing = (after_newline, after_return, after_other)
