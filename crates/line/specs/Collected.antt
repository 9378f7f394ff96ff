-- A line that is collected byte by byte, and what it should then hold, said of the bytes alone.   (01, Line and answer)
use Rattle.std.specs.Prelude.{ℕ, ◌≡◌, ◌||◌, List, [], ◌∷◌, ltb, length, take, if◌then◌else◌}
use Rattle.line.specs.Characters.{is_return, is_dropped, raised}
use Rattle.line.specs.Lines.{after_byte, line_text}
use Rattle.line.specs.declared.lines.Line.{Line}

-- a line after some bytes more
unfoldable pub collect : Line → List ℕ → Line
collect l [] = l
collect l (b ∷ bs) = collect (after_byte l b).line bs

-- the characters among some bytes: what is not dropped, in upper case
unfoldable pub characters : List ℕ → List ℕ
characters [] = []
characters (b ∷ bs) = if is_return b || is_dropped b then characters bs else raised b ∷ characters bs

-- a line holds the first 40 of some characters, and is over-long exactly where there are more
pub record Holds (l : Line) (cs : List ℕ) : Type 0 where
  pub kept : line_text l ≡ take 40 cs
  pub more : l.overlong ≡ ltb 40 (length cs)
