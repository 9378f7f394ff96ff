-- `Bench::feed` meets its contract: after some turns the bench and the buffer are those of as many bytes.
-- Assumes nothing.
use mathlib.Core.Path.{◌≡◌}
use Rattle.player.proofs.Playing.{Feeding}
use Rattle.player.proofs.feeding.Bench.feed.Given as goal

abbrev pub invariant-loop-b : goal.invariant-loop-b
invariant-loop-b l =
    (l.taken ≡ l.b-index)
    × Feeding
    (record { rig = l.initial.rig; place = l.initial.place })
    l.s
    l.initial.out
    l.out
    (record { rig = l.rig; place = l.place })
    l.b-index
    l.end
