-- What an argument asks for. No argument is a query; a number, a phase or a direction is a setting; anything else is malformed.
-- A number may be out of range here: that is judged later.   (01, Commands)
use Rattle.std.specs.Prelude.{ℕ, ◌-◌, List, [], ◌∷◌, eqb, length, take, drop, if◌then◌else◌, Option, Some, None}
use Rattle.base.specs.Text.{text}
use Rattle.decimal.specs.Read.{read}
use Rattle.decimal.specs.Short.{read_two}
use Rattle.drive.specs.declared.rates.RateUnit.{RateUnit}
use Rattle.drive.specs.declared.rates.RateUnit.TheVariants.{Um, Mm, Uh, Mh}
use Rattle.drive.specs.declared.directions.Direction.TheVariants.{Infuse, Withdraw}
use Rattle.words.specs.Spelling.{rate_letters, direction_letters}
use Rattle.words.specs.declared.commands.Command.{Command}
use Rattle.words.specs.declared.commands.Command.TheVariants as c
use Rattle.line.specs.Spelling.{is_text}
use Rattle.line.specs.declared.arguments.Heading.{Heading}
use Rattle.line.specs.declared.arguments.Heading.TheVariants as heading

-- a query where nothing stands behind the name
abbrev pub or_query : Command → List ℕ → Command → Command
or_query query s setting = if eqb (length s) 0 then query else setting

-- a setting, if the text reads as a number
abbrev pub if_number : (ℕ → Command) → Option ℕ → Command
if_number setting (Some x) = setting x
if_number setting None = c.Malformed

-- DIA number
unfoldable pub diameter_asked : List ℕ → Command
diameter_asked s = or_query c.AskDiameter s (if_number c.SetDiameter (read s))

-- VOL number
unfoldable pub volume_asked : List ℕ → Command
volume_asked s = or_query c.AskVolume s (if_number c.SetVolume (read s))

-- the unit, among some, whose name a text is
abbrev pub units_among : List RateUnit → List ℕ → Option RateUnit
units_among [] s = None
units_among (u ∷ us) s = if is_text (rate_letters u) s then Some u else units_among us s

unfoldable pub units_of : List ℕ → Option RateUnit
units_of s = units_among (Um ∷ Mm ∷ Uh ∷ Mh ∷ []) s

-- the units that the last two letters of a text are; with none the phase's own stay
unfoldable pub units_at_end : List ℕ → Option RateUnit
units_at_end s = units_of (drop (length s - 2) s)

-- the text without them
abbrev pub without_units : Option RateUnit → List ℕ → List ℕ
without_units None s = s
without_units (Some u) s = take (length s - 2) s

unfoldable pub amount_of : List ℕ → List ℕ
amount_of s = without_units (units_at_end s) s

-- RAT number, with or without UM, MM, UH or MH
unfoldable pub rate_asked : List ℕ → Command
rate_asked s = or_query c.AskRate s (if_number (λ x. c.SetRate x (units_at_end s)) (read (amount_of s)))

-- INF, WDR or REV, and no more
unfoldable pub heading_of : List ℕ → Option Heading
heading_of s =
    if is_text (direction_letters Infuse) s
    then Some (heading.To Infuse)
    else if is_text (direction_letters Withdraw) s
    then Some (heading.To Withdraw)
    else if is_text (text "REV") s
    then Some heading.Reverse
    else None

-- DIR INF, DIR WDR, DIR REV
abbrev pub direction_by : Option Heading → Command
direction_by (Some (heading.To d)) = c.SetDirection d
direction_by (Some heading.Reverse) = c.Reverse
direction_by None = c.Malformed

unfoldable pub direction_asked : List ℕ → Command
direction_asked s = or_query c.AskDirection s (direction_by (heading_of s))

-- CLD INF, CLD WDR; CLD with no argument is malformed
abbrev pub clear_by : Option Heading → Command
clear_by (Some (heading.To d)) = c.Clear d
clear_by (Some heading.Reverse) = c.Malformed
clear_by None = c.Malformed

unfoldable pub clear_asked : List ℕ → Command
clear_asked s = clear_by (heading_of s)

-- PHN n
unfoldable pub phase_asked : List ℕ → Command
phase_asked s = or_query c.AskPhase s (if_number c.SetPhase (read_two s))

-- RUN, RUN n
unfoldable pub run_asked : List ℕ → Command
run_asked s = or_query c.Run s (if_number c.RunFrom (read_two s))

-- a command with no argument, a function with no datum: whatever stands there is malformed
unfoldable pub unless_more : List ℕ → Command → Command
unless_more s command = if eqb (length s) 0 then command else c.Malformed
