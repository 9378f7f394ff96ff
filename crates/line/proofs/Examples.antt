-- What a few texts ask for, as the document has it, computed from the definitions.   (02, 2/12)
-- Assumes nothing.
use Prim.Native.String.{String}
use mathlib.Core.Path.{refl}
use mathlib.Core.List.{List, [], ◌∷◌}
use Rattle.base.specs.Rows.{Gives}
use Rattle.base.specs.Text.{text}
use Rattle.decimal.specs.Read.{is_digit, number_from}
use Rattle.decimal.specs.Short.{all_digits, read_three}
use Rattle.words.specs.declared.commands.Command.TheVariants as c
use Rattle.words.specs.declared.commands.Request.TheVariants.{AskLimit, SetLimit, Pump}
use Rattle.words.specs.declared.commands.Asked.{Asked}
use Rattle.line.specs.Addresses.{address_width, address_of, unaddressed}
use Rattle.line.specs.Spelling.{leads}
use Rattle.line.specs.Names.{name_of, argument_of}
use Rattle.line.specs.Arguments.{unless_more}
use Rattle.line.specs.Commands.{command_of}
use Rattle.line.specs.Requests.{limit_asked, request_of, asked_of}

-- 256 to 999 are judged later; a blank or a small letter in a packet is a character like others
abbrev asked : List (String × Asked)
asked =
    ("SAF", record { address = 0; request = AskLimit })
    ∷ ("SAF0", record { address = 0; request = SetLimit 0 })
    ∷ ("00SAF005", record { address = 0; request = SetLimit 5 })
    ∷ ("7SAF255", record { address = 7; request = SetLimit 255 })
    ∷ ("99SAF999", record { address = 99; request = SetLimit 999 })
    ∷ ("SAF0005", record { address = 0; request = Pump c.Malformed })
    ∷ ("SAF5.", record { address = 0; request = Pump c.Malformed })
    ∷ ("SAF 5", record { address = 0; request = Pump c.Malformed })
    ∷ ("saf5", record { address = 0; request = Pump c.Malformed })
    ∷ ("SA", record { address = 0; request = Pump c.Malformed })
    ∷ ("12STP", record { address = 12; request = Pump c.Stop })
    ∷ ("*RESET", record { address = 0; request = Pump c.Reset })
    ∷ ("", record { address = 0; request = Pump c.Status })
    ∷ []

asked_rows : Gives (λ s. asked_of (text s)) asked
unfolding is_digit number_from all_digits read_three address_width address_of unaddressed leads name_of argument_of unless_more command_of
    limit_asked request_of asked_of
asked_rows = refl
