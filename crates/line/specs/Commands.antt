-- The command that a text asks for.   (01, Line and answer; Commands)
use Rattle.std.specs.Prelude.{ℕ, List, eqb, length, if◌then◌else◌, Option, Some, None}
use Rattle.line.specs.Names.{name_of, argument_of}
use Rattle.line.specs.Arguments.{diameter_asked, rate_asked, volume_asked, direction_asked, phase_asked, run_asked, clear_asked, unless_more}
use Rattle.line.specs.Functions.{function_asked}
use Rattle.line.specs.declared.names.Name.{Name}
use Rattle.line.specs.declared.names.Name.TheVariants as n
use Rattle.words.specs.declared.commands.Command.{Command}
use Rattle.words.specs.declared.commands.Command.TheVariants as c

-- what each name's argument asks for
abbrev pub asked_by : Name → List ℕ → Command
asked_by n.Dia s = diameter_asked s
asked_by n.Rat s = rate_asked s
asked_by n.Vol s = volume_asked s
asked_by n.Dir s = direction_asked s
asked_by n.Phn s = phase_asked s
asked_by n.Fun s = function_asked s
asked_by n.Run s = run_asked s
asked_by n.Stp s = unless_more s c.Stop
asked_by n.Dis s = unless_more s c.AskDispensed
asked_by n.Cld s = clear_asked s
asked_by n.Reset s = unless_more s c.Reset

-- a name, or none, which is malformed
abbrev pub asked_of_name : Option Name → List ℕ → Command
asked_of_name (Some n) s = asked_by n s
asked_of_name None s = c.Malformed

-- the empty command asks for the status alone
unfoldable pub command_of : List ℕ → Command
command_of s = if eqb (length s) 0 then c.Status else asked_of_name (name_of s) (argument_of s)
