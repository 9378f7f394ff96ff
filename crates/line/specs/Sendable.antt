-- What a command that some line asks for can hold: its numbers can be written, its short data have at most two digits. Whoever
-- obeys a command may rely on it (proofs/Theorems.antt, asked_sendable).   (01, Numbers; Commands)
use Rattle.std.specs.Prelude.{◌≤◌, ◌≡◌, true}
use Rattle.decimal.specs.Writable.{is_writable}
use Rattle.words.specs.Commands.{amount, short_datum}
use Rattle.words.specs.declared.commands.Command.{Command}

pub record Sendable (command : Command) : Type 0 where
  pub number_writable : is_writable (amount command) ≡ true
  pub datum_short : short_datum command ≤ 99
