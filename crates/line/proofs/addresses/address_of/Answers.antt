-- `address_of` meets its contract: one or two digits read as the number that they make.
-- Assumes nothing.
use Rattle.line.proofs.Addressing.{address_read, width_within}
use native.Mathlib.Omega.{arith}
use lib.ListN.{length-take}
use Rattle.line.proofs.addresses.address_of.Goals as goal

pub slice_bounds-read_two-end : goal.slice_bounds-read_two-end
slice_bounds-read_two-end c = simp length-take (omega (arith, width_within c.args.s.now, c.address_width.ensures))

pub returns : goal.returns
returns c = search address_read
