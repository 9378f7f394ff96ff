-- `called_in` meets its contract: the only function that can be called is called, if its name is there.
-- Assumes nothing.
use Rattle.line.proofs.Leading.{starts_as}
use Rattle.line.proofs.Calling.{called, not_called}
use Rattle.line.proofs.functions.called_in.Goals as goal

pub returns-then-starts_with : goal.returns-then-starts_with
returns-then-starts_with c =
    called _ _ c.only_function-f.ensures _ (starts_as _ _ _ _ c.name.ensures c.starts_with.ensures.value) c.if-starts_with.true

pub returns-else-starts_with : goal.returns-else-starts_with
returns-else-starts_with c =
    not_called _ _ c.only_function-f.ensures _ (starts_as _ _ _ _ c.name.ensures c.starts_with.ensures.value) c.if-starts_with.false
