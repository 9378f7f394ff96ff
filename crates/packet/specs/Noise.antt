-- Damage to a packet behind its length that the check finds.   (02, 2/12: "for long, noisy cables")
use Rattle.std.specs.Prelude.{ℕ, ◌%◌, ◌≤◌, ◌≡◌, ◌⊎◌, List, ◌++◌, length}
use Rattle.crc.specs.Check.{bits}
use Rattle.crc.specs.Noise.{InRun, apart}

-- two lists of bytes that differ nowhere but in two neighbouring bytes
pub record InPair (s t : List ℕ) : Type 0 where
  pub start : List ℕ
  pub sent : List ℕ
  pub received : List ℕ
  pub rest : List ℕ
  pub of_sent : s ≡ start ++ sent ++ rest
  pub of_received : t ≡ start ++ received ++ rest
  pub as_long : length sent ≡ length received
  pub short : length sent ≤ 2

-- damage to one byte or to two neighbouring ones, a run of up to sixteen bits, up to three bits anywhere, or any odd number of bits
abbrev pub Noise : List ℕ → List ℕ → Type 0
Noise s t = InPair s t ⊎ (InRun 16 (bits s) (bits t) ⊎ ((apart s t ≤ 3) ⊎ (apart s t % 2 ≡ 1)))
