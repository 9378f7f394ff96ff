-- A word at the front of a text, and a text that is a word.   (01, Line and answer: "the name is what leads the line")
use Rattle.std.specs.Prelude.{ℕ, Bool, true, false, ◌&&◌, List, [], ◌∷◌, eqb, length}

unfoldable pub leads : List ℕ → List ℕ → Bool
leads [] s = true
leads (c ∷ word) [] = false
leads (c ∷ word) (b ∷ s) = eqb b c && leads word s

unfoldable pub is_text : List ℕ → List ℕ → Bool
is_text word s = eqb (length s) (length word) && leads word s
