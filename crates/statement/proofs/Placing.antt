-- The phases of a pump as a table, and another phase put in its place: what stands at each number, and that every phase is sound.
-- Assumes nothing.
use Rattle.std.specs.Prelude.{if◌then◌else◌}
use Prim.Native.Nat.{ℕ, zero, suc, ◌-◌, ◌≤◌}
use mathlib.Core.Path.{◌≡◌, refl, ap, ◌∙◌}
use mathlib.Core.Bool.{Bool, true, false}
use mathlib.Core.List.{List, [], ◌∷◌}
use native.Mathlib.Omega.{arith}
use lib.Dec.{eqb}
use lib.ListN.{length, get_or, set}
use lib.Seq.{get_or-set_same, get_or-set_other}
use borrow.Author.Tests.{eqb-true, eqb-false}
use Rattle.base.proofs.Choices.{and_left, and_right}
use Rattle.base.proofs.Each.{and_both}
use Rattle.words.specs.Phases.{is_sound_phase}
use Rattle.words.specs.declared.phases.Phase.{Phase}
use Rattle.soundness.specs.Kept.{table_with}
use Rattle.pump.specs.Holder.{stop_phase, phase_at, is_sound_phases}

-- ---- another phase at a number
pub placed_at :
    (ps : List Phase) (n m : ℕ) (x : Phase)
    → 1 ≤ n
    → n ≤ length ps
    → phase_at (set ps (n - 1) x) m ≡ table_with (phase_at ps) n x m
unfolding phase_at
placed_at ps zero m x least most = absurd (omega arith)
placed_at ps (suc k) m x least most = let e : suc k - 1 ≡ k = omega arith in rw e (go (eqb m (suc k)) refl)
  where
    all : List Phase
    all = stop_phase ∷ ps

    go : (t : Bool) → eqb m (suc k) ≡ t → get_or (set all (suc k) x) m stop_phase ≡ (if t then x else get_or all m stop_phase)
    go true e =
        ap (λ n. get_or (set all (suc k) x) n stop_phase) (eqb-true m (suc k) e) ∙ get_or-set_same all (suc k) x stop_phase (omega arith)
    go false e = get_or-set_other all (suc k) m x stop_phase (eqb-false m (suc k) e)

-- ---- every phase is sound
module _ (phases : ℕ) where
  pub placed_sound :
      (ps : List Phase) (k : ℕ) (x : Phase)
      → is_sound_phases phases ps ≡ true
      → is_sound_phase phases x ≡ true
      → is_sound_phases phases (set ps k x) ≡ true
  unfolding is_sound_phases
  placed_sound [] k x h e = h
  placed_sound (p ∷ ps) zero x h e =
      and_both (is_sound_phase phases x) (is_sound_phases phases ps) e (and_right (is_sound_phase phases p) (is_sound_phases phases ps) h)
  placed_sound (p ∷ ps) (suc k) x h e =
      and_both (is_sound_phase phases p) (is_sound_phases phases (set ps k x)) (and_left (is_sound_phase phases p) (is_sound_phases phases ps) h)
      (placed_sound ps k x (and_right (is_sound_phase phases p) (is_sound_phases phases ps) h) e)
