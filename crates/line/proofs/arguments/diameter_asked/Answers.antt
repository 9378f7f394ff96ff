-- `diameter_asked` meets its contract: nothing is the query, what reads is the setting.
-- Assumes nothing.
use Rattle.std.proofs.Common.{rules}
use Rattle.line.proofs.Asking.{asked_is}
use Rattle.line.specs.Arguments.{diameter_asked}
use Rattle.words.specs.declared.commands.Command.TheVariants as command
use Rattle.line.proofs.arguments.diameter_asked.Goals as goal

pub returns : goal.returns
unfolding diameter_asked
returns c =
    asked_is command.AskDiameter command.SetDiameter _ _ _ _ (λ x k. search rules) _ c.read.ensures c.asked.ensures.query c.asked.ensures.setting
