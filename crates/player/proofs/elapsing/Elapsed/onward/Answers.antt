-- `Elapsed::onward` meets its contract: a call does no more ticks than are left.
-- Assumes nothing.
use mathlib.Core.Path.{ap, ◌∙◌}
use Prim.Native.Nat.{ℕ}
use Rattle.pump.specs.Calls.{ticks_call}
use Rattle.player.specs.Elapsing.{zeros}
use Rattle.player.proofs.Going.{done_few}
use Rattle.player.proofs.elapsing.Elapsed.onward.Goals as goal

pub further-requires : goal.further-requires
further-requires c =
    let asked = c.portion.ensures in (
      c.requires,
      rw (c.ticks-report.ensures.0, asked) (done_few c.args.self.pump c.args.self.left),
    )

pub returns : goal.returns
returns c =
    let asked = c.portion.ensures in
    let called = c.ticks-report.ensures.0 ∙ ap (λ (x : ℕ). ticks_call c.args.self.pump x zeros) asked in
    rw called at c.further.ensures
