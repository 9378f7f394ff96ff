-- What is printed, a line at a time.   (01, Marked figures: the bench program)
use Rattle.std.specs.Prelude.{ℕ, zero, suc, ◌+◌, ◌/◌, ◌%◌, ◌-◌, List, [], ◌∷◌, ◌++◌, ltb, take, drop, if◌then◌else◌}
use Rattle.base.specs.Text.{text}
use Rattle.player.specs.declared.joining.Lines.{Lines}

-- what lines in the code's array say: the bytes up to the end of the text
unfoldable pub lines_text : Lines → List ℕ
lines_text l = take l.end l.bytes

-- `!`
abbrev pub complaint_line : List ℕ
complaint_line = 33 ∷ 10 ∷ []

-- what lies between STX and ETX of an answer of n bytes: all but its first byte and its last
unfoldable pub unframed : ℕ → List ℕ → List ℕ
unframed n answer = take (n - 2) (drop 1 answer)

-- a count in decimal digits, without zeros in front: the last digit stands behind those of the tenth part
unfoldable pub decimal_by : ℕ → ℕ → List ℕ
decimal_by zero n = []
decimal_by (suc places) n = if ltb n 10 then (48 + n) ∷ [] else decimal_by places (n / 10) ++ ((48 + n % 10) ∷ [])

-- twenty places hold every count of 64 bits
unfoldable pub decimal : ℕ → List ℕ
decimal n = decimal_by 20 n

-- T, ticks, I, steps infused, W, steps withdrawn
unfoldable pub counts_line : ℕ → ℕ → ℕ → List ℕ
counts_line n infused withdrawn =
    (text "T " ++ decimal n) ++ (text " I " ++ decimal infused) ++ (text " W " ++ decimal withdrawn) ++ (10 ∷ [])
