-- `counts` meets its contract: three counts with their letters.
-- Assumes nothing.
use Rattle.player.proofs.Prints.{counted_line}
use Rattle.player.proofs.printing.counts.Goals as goal

pub returns : goal.returns
returns c =
    rw (
      c.joined.ensures,
      c.as_slice-3.ensures.value,
      c.as_slice-4.ensures.value,
      c.joined-first.ensures,
      c.as_slice.ensures.value,
      c.as_slice-2.ensures.value,
      c.labelled-ticks.ensures,
      c.labelled-steps.ensures,
      c.labelled-back.ensures,
    )
    (counted_line c.args.n c.args.infused c.args.withdrawn)
