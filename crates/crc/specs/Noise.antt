-- What noise does to bytes on their way.   (02, 2/12)
use Rattle.std.specs.Prelude.{ℕ, ◌+◌, ◌≤◌, ◌<◌, ◌≡◌, Bool, true, false, length}
use Rattle.std.specs.Bool.{xor}
use mathlib.Core.List.{List, [], ◌∷◌, ◌++◌, zip_with}
use Rattle.crc.specs.Xor.{◌⊕◌}
use Rattle.crc.specs.Check.{bits}

-- the bytes s with the noise t added: each bit that is set in the noise is turned
unfoldable pub damaged : List ℕ → List ℕ → List ℕ
damaged s t = zip_with ◌⊕◌ s t

-- the same of bits: set where the two lists differ
unfoldable pub turned : List Bool → List Bool → List Bool
turned u v = zip_with xor u v

-- two lists of bits that differ nowhere but in one run of at most n neighbouring bits
pub record InRun (n : ℕ) (x y : List Bool) : Type 0 where
  pub start : List Bool
  pub sent : List Bool
  pub received : List Bool
  pub rest : List Bool
  pub of_sent : x ≡ start ++ sent ++ rest
  pub of_received : y ≡ start ++ received ++ rest
  pub as_long : length received ≡ length sent
  pub short : length sent ≤ n

-- how many bits of a list are set
unfoldable pub ones : List Bool → ℕ
ones [] = 0
ones (true ∷ u) = 1 + ones u
ones (false ∷ u) = ones u

-- how many bits of two lists of bytes differ
unfoldable pub apart : List ℕ → List ℕ → ℕ
apart s t = ones (turned (bits s) (bits t))

-- every number of a list is a byte
unfoldable pub Bytes : List ℕ → Type 0
Bytes [] = Unit {0}
Bytes (b ∷ s) = (b < 256) × Bytes s
