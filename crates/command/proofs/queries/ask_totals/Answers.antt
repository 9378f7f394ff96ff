-- `ask_totals` meets its contract.
-- Assumes nothing.
use Rattle.command.proofs.Asking.{thousandth_positive, infused_fits, withdrawn_fits, shows_totals, totals_too_long}
use Rattle.command.proofs.queries.ask_totals.Goals as goal

pub returns-then-infused-withdrawn : goal.returns-then-infused-withdrawn
returns-then-infused-withdrawn c = search shows_totals

pub returns : goal.returns
returns c = search totals_too_long
