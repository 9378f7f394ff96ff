-- What a text asks for, and whose address it bears. SAF is asked of the link that the text came by, everything else of the pump.
-- (02, 2/12)
use Rattle.std.specs.Prelude.{ℕ, List, eqb, length, drop, if◌then◌else◌, Option, Some, None}
use Rattle.base.specs.Text.{text}
use Rattle.decimal.specs.Short.{read_three}
use Rattle.words.specs.declared.commands.Command.TheVariants.{Malformed}
use Rattle.words.specs.declared.commands.Request.{Request}
use Rattle.words.specs.declared.commands.Request.TheVariants.{AskLimit, SetLimit, Pump}
use Rattle.words.specs.declared.commands.Asked.{Asked}
use Rattle.line.specs.Addresses.{address_of, unaddressed}
use Rattle.line.specs.Spelling.{leads}
use Rattle.line.specs.Commands.{command_of}
use Rattle.line.specs.Lines.{line_text, address_in}
use Rattle.line.specs.declared.lines.Line.{Line}

-- one to three digits are the limit in seconds, in range or not; anything else is malformed
abbrev pub limit_by : Option ℕ → Request
limit_by (Some n) = SetLimit n
limit_by None = Pump Malformed

-- SAF, SAF n   (02, 2/12: "`SAF n` (one to three digits ..) sets a time limit in seconds .. Query: three digits")
unfoldable pub limit_asked : List ℕ → Request
limit_asked s = if eqb (length s) 0 then AskLimit else limit_by (read_three s)

-- what the text behind the address asks for
unfoldable pub request_of : List ℕ → Request
request_of s = if leads (text "SAF") s then limit_asked (drop 3 s) else Pump (command_of s)

-- a packet's data, in which nothing was dropped or raised to upper case   (02, 2/12)
unfoldable pub asked_of : List ℕ → Asked
asked_of s = record { address = address_of s; request = request_of (unaddressed s) }

-- a line; an over-long one is malformed   (01, Line and answer)
unfoldable pub asked_in : Line → Asked
asked_in l =
    record { address = address_in l; request = if l.overlong then Pump Malformed else request_of (unaddressed (line_text l)) }
