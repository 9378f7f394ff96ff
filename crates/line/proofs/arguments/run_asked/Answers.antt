-- `run_asked` meets its contract: nothing is the query, what reads is the setting.
-- Assumes nothing.
use Rattle.std.proofs.Common.{rules}
use Rattle.line.proofs.Asking.{asked_is}
use Rattle.line.specs.Arguments.{run_asked}
use Rattle.words.specs.declared.commands.Command.TheVariants as command
use Rattle.line.proofs.arguments.run_asked.Goals as goal

pub returns : goal.returns
unfolding run_asked
returns c =
    asked_is command.Run command.RunFrom _ _ _ _ (λ x k. search rules) _ c.read_two.ensures c.asked.ensures.query c.asked.ensures.setting
