-- `send` meets its contract: five runs, one behind the other.
-- Assumes nothing.
use native.Mathlib.Omega.{arith}
use Rattle.packet.proofs.Framing.{two_bytes, framed}
use Rattle.packet.proofs.sender.send.Goals as goal

pub put-requires : goal.put-requires
put-requires c = omega (arith, two_bytes c.args.text.now)

pub returns : goal.returns
returns c = framed _ c.put-a.ensures c.put-b.ensures c.copy-c.ensures c.put_check-d.ensures c.put.ensures
