-- Bytes in hexadecimal, one behind the other, as a line of them is written.
-- Assumes nothing.
use Prim.Native.Nat.{ℕ, ◌+◌, ◌-◌, ◌*◌, ◌/◌, ◌%◌, ◌≤◌, ◌<◌}
use mathlib.Core.Path.{◌≡◌, refl, sym, ap, ◌∙◌}
use mathlib.Core.List.{List, [], ◌∷◌, ◌++◌, append_assoc, append-nil}
use native.Mathlib.Numerals.{add-one}
use native.Mathlib.Omega.{arith}
use lib.ListN.{length, take, get_or, length-take}
use lib.Seq.{take-suc, take_all}
use borrow.Author.Tests.{lt-ltb, le-ltb}
use Rattle.service.specs.Printing.{hex_digit, hex_byte, hex_bytes, hex_line}

-- ---- a digit
pub digit_low : (d : ℕ) → d < 10 → 48 + d ≡ hex_digit d
unfolding hex_digit
digit_low d h = sym (simp (lt-ltb d 10 h))

pub digit_high : (d : ℕ) → 10 ≤ d → 97 + (d - 10) ≡ hex_digit d
unfolding hex_digit
digit_high d h = sym (simp (le-ltb d 10 h))

pub ruleset digits = (digit_low, digit_high)

-- ---- several
bytes_append : (s t : List ℕ) → hex_bytes (s ++ t) ≡ hex_bytes s ++ hex_bytes t
unfolding hex_bytes
bytes_append [] t = refl
bytes_append (b ∷ s) t = ap (λ (u : List ℕ). hex_byte b ++ u) (bytes_append s t) ∙ sym (append_assoc (hex_byte b) (hex_bytes s) (hex_bytes t))

byte_alone : (b : ℕ) → hex_bytes (b ∷ []) ≡ hex_byte b
unfolding hex_bytes
byte_alone b = append-nil (hex_byte b)

pub bytes_length : (s : List ℕ) → length (hex_bytes s) ≡ 2 * length s
unfolding hex_bytes hex_byte
bytes_length [] = refl
bytes_length (b ∷ s) = omega (arith, bytes_length s)

-- ---- a line of which the first i bytes are spelt
pub record Spelt (s line : List ℕ) (i : ℕ) : Type 0 where
  pub within : i ≤ length s
  pub spells : line ≡ hex_bytes (take i s)

pub spelt_none : (s : List ℕ) → Spelt s [] 0
unfolding hex_bytes
spelt_none s = record { within = omega arith; spells = refl }

module _ {s line : List ℕ} {i : ℕ} (p : Spelt s line i) where
  pub spelt_length : length line ≡ 2 * i
  spelt_length =
      let t : length (take i s) ≡ i = length-take i s ∙ omega arith in
      omega (arith, ap length p.spells, bytes_length (take i s))

  pub spelt_more :
      (high low : ℕ) → i < length s → high ≡ hex_digit (get_or s i 0 / 16) → low ≡ hex_digit (get_or s i 0 % 16)
      → Spelt s ((line ++ high ∷ []) ++ low ∷ []) (i + 1)
  unfolding hex_byte
  spelt_more high low h a b =
      let byte = get_or s i 0 in
      record {
        within = omega arith;
        spells =
            append_assoc line (high ∷ []) (low ∷ [])
            ∙ rw (p.spells, a, b)
            (sym
            (ap hex_bytes (rw add-one (take-suc s i 0 h))
            ∙ bytes_append (take i s) (byte ∷ [])
            ∙ ap (λ (u : List ℕ). hex_bytes (take i s) ++ u) (byte_alone byte)));
      }

  pub spelt_all : length s ≤ i → line ++ 10 ∷ [] ≡ hex_line s
  unfolding hex_line
  spelt_all h = rw (p.spells, take_all i s h)
