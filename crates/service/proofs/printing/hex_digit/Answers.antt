-- `hex_digit` meets its contract: digits, then letters.
-- Assumes nothing.
use Rattle.service.proofs.Hexadecimal.{digits}
use Rattle.service.proofs.printing.hex_digit.Goals as goal

pub returns-then-d-lt10 : goal.returns-then-d-lt10
returns-then-d-lt10 c = search digits

pub returns : goal.returns
returns c = search digits
