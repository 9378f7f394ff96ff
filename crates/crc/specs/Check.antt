-- The check of a packet: the 16-bit CCITT one, polynomial 0x1021, from 0, the most significant bit first.   (02, 2/12)
use Rattle.std.specs.Prelude.{ℕ, zero, suc, ◌*◌, ◌/◌, ◌%◌, ◌^◌, Bool, List, [], ◌∷◌, ◌++◌, eqb, if◌then◌else◌}
use Rattle.std.specs.Bool.{xor}
use Rattle.crc.specs.Xor.{◌⊕◌}

-- x^16 + x^12 + x^5 + 1, without its first term
abbrev pub polynomial : ℕ
polynomial = 0x1021

-- the bit of n that is worth 2 ^ i
unfoldable pub bit : ℕ → ℕ → Bool
bit n i = eqb (n / 2 ^ i % 2) 1

-- One bit d of the data: the register moves up by one place, and where the bit that leaves it differs from d the polynomial is added.
unfoldable pub shifted : ℕ → Bool → ℕ
shifted r d = if xor (bit r 15) d then (r * 2 % 65536) ⊕ polynomial else r * 2 % 65536

-- the register r after a run of bits
unfoldable pub after : ℕ → List Bool → ℕ
after r [] = r
after r (d ∷ ds) = after (shifted r d) ds

-- the bits of a byte, and of a list of bytes, as they are sent: the most significant first
unfoldable pub bits_of : ℕ → List Bool
bits_of b = bit b 7 ∷ bit b 6 ∷ bit b 5 ∷ bit b 4 ∷ bit b 3 ∷ bit b 2 ∷ bit b 1 ∷ bit b 0 ∷ []

unfoldable pub bits : List ℕ → List Bool
bits [] = []
bits (b ∷ s) = bits_of b ++ bits s

-- the check of the data s
unfoldable pub check_of : List ℕ → ℕ
check_of s = after 0 (bits s)

-- n values of f, from that at i
unfoldable pub values : (ℕ → ℕ) → ℕ → ℕ → List ℕ
values f zero i = []
values f (suc n) i = f i ∷ values f n (suc i)

-- what the 256 bytes leave in an empty register
unfoldable pub remainders : List ℕ
remainders = values (λ (b : ℕ). after 0 (bits_of b)) 256 0
