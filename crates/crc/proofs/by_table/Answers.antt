-- `crc::by_table` meets its contract: eight bits at once, by the remainder of one byte.
-- Assumes nothing.
use Prim.Native.Nat.{◌/◌, ◌%◌}
use mathlib.Core.Path.{◌≡◌}
use native.Mathlib.Omega.{arith}
use Rattle.crc.specs.Xor.{◌⊕◌}
use Rattle.crc.proofs.Bytewise.{by_remainders}
use Rattle.crc.proofs.by_table.Goals as goal

pub returns : goal.returns
unfolding ◌⊕◌
returns c =
    let high : c.args.crc / 256 % 256 ≡ c.args.crc / 256 = omega arith in
    rw (c.to_be_bytes.ensures, high) (by_remainders c.args.table.now c.args.crc c.args.b c.requires (omega arith) (omega arith))
