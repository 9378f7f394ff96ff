-- The commands, a number for each and its data, and the questions about a command, by its number.   (01, Commands)
use Rattle.std.specs.Prelude.{ℕ, Bool, ◌||◌, eqb}
use Rattle.drive.specs.declared.directions.Direction.{Direction}
use Rattle.drive.specs.declared.directions.Direction.TheVariants.{Infuse, Withdraw}
use Rattle.words.specs.Functions.{datum}
use Rattle.words.specs.declared.commands.Command.{Command}
use Rattle.words.specs.declared.commands.Command.TheVariants as c

-- CLD of each direction has a number of its own
abbrev pub clear_number : Direction → ℕ
clear_number Infuse = 19
clear_number Withdraw = 20

abbrev pub command_number : Command → ℕ
command_number c.Malformed = 0
command_number c.Status = 1
command_number c.AskDiameter = 2
command_number (c.SetDiameter x) = 3
command_number c.AskRate = 4
command_number (c.SetRate x units) = 5
command_number c.AskVolume = 6
command_number (c.SetVolume x) = 7
command_number c.AskDirection = 8
command_number (c.SetDirection d) = 9
command_number c.Reverse = 10
command_number c.AskPhase = 11
command_number (c.SetPhase n) = 12
command_number c.AskFunction = 13
command_number (c.SetFunction g) = 14
command_number c.Run = 15
command_number (c.RunFrom n) = 16
command_number c.Stop = 17
command_number c.AskDispensed = 18
command_number (c.Clear d) = clear_number d
command_number c.Reset = 21

-- the number that a command brings, in thousandths; 0 where it brings none
abbrev pub amount : Command → ℕ
amount c.Malformed = 0
amount c.Status = 0
amount c.AskDiameter = 0
amount (c.SetDiameter x) = x
amount c.AskRate = 0
amount (c.SetRate x units) = x
amount c.AskVolume = 0
amount (c.SetVolume x) = x
amount c.AskDirection = 0
amount (c.SetDirection d) = 0
amount c.Reverse = 0
amount c.AskPhase = 0
amount (c.SetPhase n) = 0
amount c.AskFunction = 0
amount (c.SetFunction g) = 0
amount c.Run = 0
amount (c.RunFrom n) = 0
amount c.Stop = 0
amount c.AskDispensed = 0
amount (c.Clear d) = 0
amount c.Reset = 0

-- the short datum that it brings: a phase, or a function's datum; 0 where it brings none
abbrev pub short_datum : Command → ℕ
short_datum c.Malformed = 0
short_datum c.Status = 0
short_datum c.AskDiameter = 0
short_datum (c.SetDiameter x) = 0
short_datum c.AskRate = 0
short_datum (c.SetRate x units) = 0
short_datum c.AskVolume = 0
short_datum (c.SetVolume x) = 0
short_datum c.AskDirection = 0
short_datum (c.SetDirection d) = 0
short_datum c.Reverse = 0
short_datum c.AskPhase = 0
short_datum (c.SetPhase n) = n
short_datum c.AskFunction = 0
short_datum (c.SetFunction g) = datum g
short_datum c.Run = 0
short_datum (c.RunFrom n) = n
short_datum c.Stop = 0
short_datum c.AskDispensed = 0
short_datum (c.Clear d) = 0
short_datum c.Reset = 0

-- *RESET
abbrev pub is_reset : Command → Bool
is_reset command = eqb (command_number command) 21

-- CLD of that direction asks to clear its total, *RESET to clear both, and nothing else does
abbrev pub asks_to_clear : Direction → Command → Bool
asks_to_clear d command = eqb (command_number command) (clear_number d) || is_reset command
