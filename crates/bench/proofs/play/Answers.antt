-- `play` meets its contract: what is taken at each turn is played and written, and at least a byte is taken.
-- Assumes nothing.
use Rattle.std.proofs.Common.{arith}
use Rattle.bench.proofs.Inputs.{written_length, plays_none, plays_fits, plays_less, plays_more, plays_all, told_all}
use Rattle.bench.proofs.play.Goals as goal

pub loop-from-init : goal.loop-from-init
loop-from-init g c = plays_none _ _ _ _ (omega arith) (omega arith)

pub slice_bounds-write_all-end : goal.slice_bounds-write_all-end
slice_bounds-write_all-end g c = written_length c.feed-fed.ensures.wrote

pub overflow_add-from : goal.overflow_add-from
overflow_add-from g c = omega (arith, plays_fits c.loop-from.invariant c.feed-fed.ensures)

pub loop-from-smaller : goal.loop-from-smaller
loop-from-smaller g c = plays_less c.loop-from.invariant c.feed-fed.ensures c.loop-from-test.true

pub loop-from-preserved : goal.loop-from-preserved
loop-from-preserved g c = plays_more c.loop-from.invariant c.feed-fed.ensures _ c.in_ok-write_all.ensures.bytes

pub returns-clause-bench : goal.returns-clause-bench
returns-clause-bench g c = plays_all c.loop-from.invariant c.loop-from-test.false

pub returns-clause-output : goal.returns-clause-output
returns-clause-output g c = told_all c.loop-from.invariant c.loop-from-test.false
