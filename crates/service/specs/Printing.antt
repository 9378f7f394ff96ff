-- What the service program prints of ticks, of bytes and of packets, a line at a time.   (docs/DECISIONS.md, 37 to 39)
use Rattle.std.specs.Prelude.{ℕ, ◌+◌, ◌-◌, ◌/◌, ◌%◌, Bool, List, [], ◌∷◌, ◌++◌, eqb, ltb, length, if◌then◌else◌}
use Rattle.base.specs.Text.{letter, text}
use Rattle.script.specs.Places.{newline}
use Rattle.player.specs.Printing.{complaint_line, decimal}
use Rattle.player.specs.declared.elapsing.Elapsed.{Elapsed}

-- ---- `T n`: ticks, steps infused, steps withdrawn, beeps, and the level of the output behind them
unfoldable pub effects_line : ℕ → ℕ → ℕ → ℕ → ℕ → List ℕ
effects_line n infused withdrawn beeps level =
    (text "T " ++ decimal n)
    ++ (text " I " ++ decimal infused)
    ++ (text " W " ++ decimal withdrawn)
    ++ (text " B " ++ decimal beeps)
    ++ (text " O " ++ decimal level)
    ++ (newline ∷ [])

-- refused ticks print `!`
unfoldable pub ticks_line : ℕ → Elapsed → List ℕ
ticks_line n e =
    if e.refused
    then complaint_line
    else effects_line n e.infused e.withdrawn e.beeps (if e.output then 1 else 0)

-- ---- the answer to a byte, and a packet that ticks sent, in hexadecimal: two lower-case digits a byte   (02, 2/12)
unfoldable pub hex_digit : ℕ → ℕ
hex_digit d = if ltb d 10 then letter "0" + d else letter "a" + (d - 10)

unfoldable pub hex_byte : ℕ → List ℕ
hex_byte b = hex_digit (b / 16) ∷ hex_digit (b % 16) ∷ []

unfoldable pub hex_bytes : List ℕ → List ℕ
hex_bytes [] = []
hex_bytes (b ∷ s) = hex_byte b ++ hex_bytes s

unfoldable pub hex_line : List ℕ → List ℕ
hex_line answer = hex_bytes answer ++ (newline ∷ [])

-- a refused call prints `!`, one without an answer nothing; so do ticks that sent no packet
unfoldable pub byte_line : Bool → List ℕ → List ℕ
byte_line refused answer = if refused then complaint_line else if eqb (length answer) 0 then [] else hex_line answer
