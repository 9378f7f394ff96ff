-- `address_width` meets its contract: the first two letters tell the width.
-- Assumes nothing.
use Rattle.std.proofs.Common.{rules}
use Rattle.line.proofs.Addressing.{widths}
use Rattle.line.proofs.addresses.address_width.Goals as goal

pub returns-in-48-to-57 : goal.returns-in-48-to-57
returns-in-48-to-57 c = search (rules, widths)

pub returns-in-48-to-57-2 : goal.returns-in-48-to-57-2
returns-in-48-to-57-2 c = search (rules, widths)

pub returns-in-48-to-57-2-2 : goal.returns-in-48-to-57-2-2
returns-in-48-to-57-2-2 c = search (rules, widths)

pub returns-in-48-to-57-2-3 : goal.returns-in-48-to-57-2-3
returns-in-48-to-57-2-3 c = search (rules, widths)

pub returns-in_default : goal.returns-in_default
returns-in_default c = search (rules, widths)

pub returns-in_default-2 : goal.returns-in_default-2
returns-in_default-2 c = search (rules, widths)

pub returns-in_default-3 : goal.returns-in_default-3
returns-in_default-3 c = search (rules, widths)

pub returns-in_default-4 : goal.returns-in_default-4
returns-in_default-4 c = search (rules, widths)

pub returns-in_default-5 : goal.returns-in_default-5
returns-in_default-5 c = search (rules, widths)
