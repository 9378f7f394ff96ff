-- `Lines::joined` meets its contract: one run of bytes from the first place on, and the other behind it.
-- Assumes nothing.
use mathlib.Core.Path.{sym, ap, ◌∙◌}
use native.Mathlib.Nat.{zero-add}
use lib.ListN.{take}
use lib.Seq.{take_at}
use Rattle.base.proofs.Writing.{wrote_then, wrote_first}
use Rattle.player.specs.Printing.{lines_text}
use Rattle.player.proofs.joining.Lines.joined.Goals as goal

pub returns : goal.returns
unfolding lines_text
returns c =
    let both = wrote_then c.copy-middle.ensures c.copy-end.ensures in
    ap (take c.copy-end.result) (wrote_first both) ∙ take_at _ _ _ (sym (both.ends ∙ zero-add _))
