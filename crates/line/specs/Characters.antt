-- What one byte does to a line, and which characters a line can hold.   (01, Line and answer)
use Rattle.std.specs.Prelude.{ℕ, ◌-◌, Bool, ◌&&◌, ◌||◌, not, leb, eqb, if◌then◌else◌}
use Rattle.line.specs.declared.arriving.Arrival.{Arrival}
use Rattle.line.specs.declared.arriving.Arrival.TheVariants.{End, Dropped, Kept}

-- carriage return
unfoldable pub is_return : ℕ → Bool
is_return b = eqb b 13

-- 0 to 32 and 127
unfoldable pub is_dropped : ℕ → Bool
is_dropped b = leb b 32 || eqb b 127

-- 'a' to 'z'
unfoldable pub is_lower : ℕ → Bool
is_lower b = leb 97 b && leb b 122

-- lower case letters become upper case
unfoldable pub raised : ℕ → ℕ
raised b = if is_lower b then b - 32 else b

-- the return ends the line, though it lies among the bytes that are dropped
unfoldable pub arrival_of : ℕ → Arrival
arrival_of b = if is_return b then End else if is_dropped b then Dropped else Kept (raised b)

-- a character that a line can hold is one that no rule drops or raises   (01, Calls: fields in their range)
unfoldable pub can_stand : ℕ → Bool
can_stand c = not (is_dropped c) && not (is_lower c)
