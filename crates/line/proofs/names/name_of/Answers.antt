-- `name_of` meets its contract: the only name that can lead the text is its name, if its letters are there.
-- Assumes nothing.
use Rattle.line.proofs.Leading.{starts_as}
use Rattle.line.proofs.Naming.{named, not_named}
use Rattle.line.proofs.names.name_of.Goals as goal

pub returns-then-starts_with : goal.returns-then-starts_with
returns-then-starts_with c =
    named _ _ _ c.in_ok-name.was c.only_name.ensures _ (starts_as _ _ _ _ c.letters.ensures c.starts_with.ensures.value) c.if-starts_with.true

pub returns-else-starts_with : goal.returns-else-starts_with
returns-else-starts_with c =
    not_named _ _ _ c.in_ok-name.was c.only_name.ensures _ (starts_as _ _ _ _ c.letters.ensures c.starts_with.ensures.value) c.if-starts_with.false
