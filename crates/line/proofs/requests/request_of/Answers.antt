-- `request_of` meets its contract: what SAF leads is asked of the link, all else of the pump.
-- Assumes nothing.
use Rattle.line.proofs.Requesting.{of_link, of_pump}
use Rattle.line.proofs.requests.request_of.Goals as goal

pub returns-in-Some : goal.returns-in-Some
returns-in-Some c = of_link _ _ _ c.in-Some.ensures.cases.0 c.in-Some.ensures.cases.1 c.limit_asked.ensures

pub returns-in-None : goal.returns-in-None
returns-in-None c = of_pump _ _ c.in-None.ensures.cases c.command_of.ensures
