-- How C sees a result of the number crate: one number, or bytes in the buffer that it lends.
use Rattle.std.specs.Prelude.{ℕ, Bool, List, ◌++◌, leb, length, drop, if◌then◌else◌, Option, Some, None}

-- a number of thousandths, or 2^32 for none
unfoldable pub reading_as : Option ℕ → ℕ
reading_as (Some x) = x
reading_as None = 4_294_967_296

-- a short datum, or 256 for none
unfoldable pub short_as : Option ℕ → ℕ
short_as (Some n) = n
short_as None = 256

-- a test
unfoldable pub test_as : Bool → ℕ
test_as b = if b then 1 else 0

-- how many bytes of text are written into a buffer: all, or none where it is too short
unfoldable pub count_of : List ℕ → List ℕ → ℕ
count_of text buffer = if leb (length text) (length buffer) then length text else 0

-- the buffer behind that: text at its start, or as it was
unfoldable pub buffer_of : List ℕ → List ℕ → List ℕ
buffer_of text buffer = if leb (length text) (length buffer) then text ++ drop (length text) buffer else buffer
