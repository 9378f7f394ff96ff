-- What the service program reads of a `B` line, bytes in hexadecimal, two digits each, in either case, and of a `P` line, the bytes of a
-- text.   (docs/DECISIONS.md, 37 to 39)
use Rattle.std.specs.Prelude.{ℕ, ◌+◌, ◌-◌, ◌*◌, Bool, ◌&&◌, List, eqb, leb, ltb, length, set, if◌then◌else◌}
use Rattle.std.specs.Prelude.{Option, Some, None, is_some, unwrap_or}
use Rattle.base.specs.Text.{letter}
use Rattle.script.specs.Places.{carriage_return}
use Rattle.script.specs.declared.places.Spot.TheVariants as spot
use Rattle.service.specs.declared.places.Place.{Place}
use Rattle.service.specs.declared.places.Place.TheVariants.{Line, Bytes, Text}

-- a letter from one up to another
unfoldable pub spans : ℕ → ℕ → ℕ → Bool
spans first last b = leb first b && leb b last

-- the value of a digit
unfoldable pub digit_value : ℕ → Option ℕ
digit_value b =
    if spans (letter "0") (letter "9") b
    then Some (b - letter "0")
    else if spans (letter "a") (letter "f") b
    then Some (b - letter "a" + 10)
    else if spans (letter "A") (letter "F") b then Some (b - letter "A" + 10) else None

-- ---- the second digit of a byte, behind n bytes that are held: the byte is whole where both are digits and there is room for it
unfoldable pub is_whole : ℕ → ℕ → ℕ → List ℕ → Bool
is_whole n high b held = is_some (digit_value b) && ltb high 16 && ltb n (length held)

unfoldable pub whole_place : ℕ → ℕ → ℕ → List ℕ → Place
whole_place n high b held = if is_whole n high b held then Bytes (n + 1) else Line spot.Bad

unfoldable pub whole_held : ℕ → ℕ → ℕ → List ℕ → List ℕ
whole_held n high b held = if is_whole n high b held then set held n (high * 16 + unwrap_or (digit_value b) 0) else held

-- ---- a byte of a text, behind n bytes that are held: there is room for the 40 data of a packet, and a return behind them
unfoldable pub is_kept : ℕ → List ℕ → Bool
is_kept n held = leb n 40 && ltb n (length held)

-- where the text ends if the line does: a return that stands last belongs to the line's end
unfoldable pub text_end : ℕ → ℕ → ℕ
text_end n b = if eqb b carriage_return then n else n + 1

unfoldable pub kept_place : ℕ → ℕ → List ℕ → Place
kept_place n b held = if is_kept n held then Text (n + 1) (text_end n b) else Line spot.Bad

unfoldable pub kept_held : ℕ → ℕ → List ℕ → List ℕ
kept_held n b held = if is_kept n held then set held n b else held
