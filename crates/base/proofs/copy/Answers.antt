use Rattle.std.proofs.Common.{rules}
use Rattle.base.proofs.Writing.{copy_none, copy_more, copy_all, copy_room}
use Rattle.base.proofs.copy.Goals as goal

pub loop-b-init : goal.loop-b-init
loop-b-init c = search (copy_none, rules)

pub put-i-requires : goal.put-i-requires
put-i-requires c = search copy_room

pub loop-b-preserved : goal.loop-b-preserved
loop-b-preserved c = search (copy_more, rules)

pub returns : goal.returns
returns c = search copy_all
