-- `unaddressed` meets its contract: the part behind the address digits.
-- Assumes nothing.
use Rattle.line.proofs.Leading.{part_behind}
use Rattle.line.proofs.Addressing.{width_within}
use Rattle.line.specs.Addresses.{address_width, unaddressed}
use Rattle.line.proofs.addresses.unaddressed.Goals as goal

pub slice_bounds-result-count : goal.slice_bounds-result-count
slice_bounds-result-count c = rw c.address_width.ensures (width_within c.args.s.now)

pub slice_bounds-result-start : goal.slice_bounds-result-start
slice_bounds-result-start c = rw c.address_width.ensures (width_within c.args.s.now)

pub returns : goal.returns
unfolding unaddressed
returns c = rw c.address_width.ensures (let s = c.args.s.now in part_behind s (address_width s))
