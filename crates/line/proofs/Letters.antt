-- What one or two letters of a text tell: where a question f has the same answer as a narrower one, g, for every text that has these
-- letters.
-- Assumes nothing.
use Prim.Native.Nat.{ℕ, ◌<◌}
use mathlib.Core.Path.{◌≡◌, sym, ap, ◌∙◌}
use mathlib.Core.List.{List, [], ◌∷◌}
use native.Mathlib.Omega.{arith}
use lib.ListN.{get_or}

-- a text whose first letter, first two letters, or first and third letter are known
first_is : (s : List ℕ) (x : ℕ) → 0 < x → get_or s 0 0 ≡ x → (t : List ℕ) × (s ≡ x ∷ t)
first_is [] x p e = absurd (omega arith)
first_is (a ∷ s) x p e = (s, ap (λ (n : ℕ). n ∷ s) e)

second_is : (s : List ℕ) (x y : ℕ) → 0 < y → get_or s 0 0 ≡ x → get_or s 1 0 ≡ y → (t : List ℕ) × (s ≡ x ∷ y ∷ t)
second_is [] x y p e f = absurd (omega arith)
second_is (a ∷ []) x y p e f = absurd (omega arith)
second_is (a ∷ b ∷ s) x y p e f = (s, ap (λ (n : ℕ). n ∷ b ∷ s) e ∙ ap (λ (n : ℕ). x ∷ n ∷ s) f)

third_is :
    (s : List ℕ) (x z : ℕ) → 0 < z → get_or s 0 0 ≡ x → get_or s 2 0 ≡ z → (b : ℕ) × ((t : List ℕ) × (s ≡ x ∷ b ∷ z ∷ t))
third_is [] x z p e f = absurd (omega arith)
third_is (a ∷ []) x z p e f = absurd (omega arith)
third_is (a ∷ b ∷ []) x z p e f = absurd (omega arith)
third_is (a ∷ b ∷ c ∷ s) x z p e f = (b, (s, ap (λ (n : ℕ). n ∷ b ∷ c ∷ s) e ∙ ap (λ (n : ℕ). x ∷ b ∷ n ∷ s) f))

module _ {A : Type 0} (f g : List ℕ → A) where
  pub by_first :
      (x : ℕ) → 0 < x → ((t : List ℕ) → f (x ∷ t) ≡ g (x ∷ t)) → (s : List ℕ) (a : ℕ) → a ≡ get_or s 0 0 → a ≡ x → f s ≡ g s
  by_first x p same s a d e = let k = first_is s x p (sym d ∙ e) in ap f k.1 ∙ same k.0 ∙ ap g (sym k.1)

  pub by_second :
      (x y : ℕ)
      → 0 < y
      → ((t : List ℕ) → f (x ∷ y ∷ t) ≡ g (x ∷ y ∷ t))
      → (s : List ℕ) (a b : ℕ)
      → a ≡ get_or s 0 0
      → a ≡ x
      → b ≡ get_or s 1 0
      → b ≡ y
      → f s ≡ g s
  by_second x y p same s a b d e h i =
      let k = second_is s x y p (sym d ∙ e) (sym h ∙ i) in ap f k.1 ∙ same k.0 ∙ ap g (sym k.1)

  pub by_third :
      (x z : ℕ)
      → 0 < z
      → ((b : ℕ) (t : List ℕ) → f (x ∷ b ∷ z ∷ t) ≡ g (x ∷ b ∷ z ∷ t))
      → (s : List ℕ) (a c : ℕ)
      → a ≡ get_or s 0 0
      → a ≡ x
      → c ≡ get_or s 2 0
      → c ≡ z
      → f s ≡ g s
  by_third x z p same s a c d e h i =
      let k = third_is s x z p (sym d ∙ e) (sym h ∙ i) in ap f k.1.1 ∙ same k.0 k.1.0 ∙ ap g (sym k.1.1)
