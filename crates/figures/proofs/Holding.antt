-- The marked figures, a to l, hold: every row, however many more ticks go by.
-- Assumes nothing.
use Prim.Native.Nat.{ℕ}
use mathlib.Core.Path.{◌≡◌, refl, ap}
use mathlib.Core.List.{List, [], ◌∷◌, map}
use Rattle.base.specs.Text.{text}
use Rattle.statement.specs.Histories.{Every}
use Rattle.condition3.proofs.Opening.{opened}
use Rattle.figures.specs.Figures.{figures}
use Rattle.figures.specs.Rows.{Row, Agrees, answer_text}
use Rattle.figures.proofs.Doses.{less_than_a_step, a_thousand_times, none_fits, one_fits, fifty_fit}
use Rattle.figures.proofs.Entries.{pause_entered}

-- one row and then the others
infixr 5 ◌then◌
abbrev ◌then◌ : {A B : Type 0} → A → B → A × B
a then b = (a, b)

abbrev alone : ℕ → List ℕ
alone n = n ∷ []

pub figures_hold : Every Agrees figures
unfolding figures opened answer_text
figures_hold =
    -- a, b, c
    (λ k. refl)
    then (λ k. refl)
    then (λ k. refl)
    -- d, d, e, e
    then (λ k. refl)
    then (λ k. refl)
    then (λ k. refl)
    then (λ k. refl)
    -- f, f, f, f
    then (λ k. refl)
    then (λ k. refl)
    then less_than_a_step
    then a_thousand_times
    -- g, g
    then (λ k. refl)
    then (λ k. refl)
    -- h, h, i
    then none_fits
    then one_fits
    then fifty_fit
    -- j, j, k
    then (λ k. refl)
    then (λ k. refl)
    then (λ k. refl)
    -- l
    then (λ k. ap alone (pause_entered k))
    then tt

-- no letter is left out
pub all_letters : map (λ (r : Row). r.mark) figures ≡ text "abcddeeffffgghhijjkl"
unfolding figures
all_letters = refl
