-- The address in front of a text.   (01, Line and answer)
use Rattle.std.specs.Prelude.{ℕ, List, [], ◌∷◌, take, drop, if◌then◌else◌}
use Rattle.decimal.specs.Read.{is_digit, number_from}

-- up to two leading digits
unfoldable pub address_width : List ℕ → ℕ
address_width [] = 0
address_width (a ∷ []) = if is_digit a then 1 else 0
address_width (a ∷ b ∷ s) = if is_digit a then if is_digit b then 2 else 1 else 0

-- the number that they make; with none it is 0, ours
unfoldable pub address_of : List ℕ → ℕ
address_of s = number_from 0 (take (address_width s) s)

-- the text without them
unfoldable pub unaddressed : List ℕ → List ℕ
unaddressed s = drop (address_width s) s
