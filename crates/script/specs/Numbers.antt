-- The numbers of an item, as their digits come, and what they ask for.   (01, Marked figures: the bench program; docs/DECISIONS.md, 30)
use Rattle.std.specs.Prelude.{ℕ, ◌+◌, ◌*◌, ◌&&◌, leb, ltb, if◌then◌else◌, Option, Some, None}
use Rattle.script.specs.declared.places.Act.{Act}
use Rattle.script.specs.declared.places.Act.TheVariants.{Set, Run, Complain}

-- `T n` (1 to 10,000,000)
abbrev pub most_ticks : ℕ
most_ticks = 10_000_000

-- a pin and a level are handed to the call as a byte each
abbrev pub most_byte : ℕ
most_byte = 255

-- one digit more; a number that is too large for every item stays too large
unfoldable pub grown : ℕ → ℕ → ℕ
grown n d = if ltb most_ticks n then n else n * 10 + d

-- `T n`: 1 to 10,000,000 ticks are run; 0, no digit at all and any number too large is `!`
unfoldable pub ticks_asked : ℕ → Act
ticks_asked n = if leb 1 n && leb n most_ticks then Run n else Complain

-- `E pin level`: both were written, and each fits the call; any number too large is `!`
unfoldable pub level_asked : ℕ → Option ℕ → Act
level_asked pin None = Complain
level_asked pin (Some level) = if leb pin most_byte && leb level most_byte then Set pin level else Complain
