-- `run` meets its contract: each read is played and what it has to say is written, and behind the last one the end of the input.
-- Assumes nothing.
use Rattle.std.proofs.Common.{arith}
use Rattle.bench.proofs.Known.{on_ok}
use Rattle.bench.proofs.Reading.{Over, ran_none, ran_more, ran_last, ran_out, over_all}
use Rattle.bench.proofs.run.Goals as goal
use Rattle.bench.proofs.run.Goals.{else-loop-test, then-loop-test+in_ok-served+then-served}

pub loop-init : goal.loop-init
loop-init g c = ran_none _ _ _ c.new-bench.ensures

pub loop-preserved : goal.loop-preserved
loop-preserved g c = ran_more c.loop.invariant c.in_ok-served.ensures c.if-served.false

pub returns : goal.returns
returns g c =
    let over :
    Over 18_446_744_073_709_551_615 (g.R.Read.remaining c.args.input.now) (g.R.Read.remaining c.loop-test.input)
    (g.W.Write.contents c.args.output.now) (g.W.Write.contents c.loop-test.output) c.loop-test.bench =
    elim c.loop-test.branch [
      | else-loop-test w ↦
          rw (w.input-is, w.output-is, w.bench-is) (ran_out c.loop.invariant _ (omega (arith, w.loop-test.false)))
      | then-loop-test+in_ok-served+then-served w ↦
          rw (w.input-is, w.output-is, w.bench-is) (ran_last c.loop.invariant w.in_ok-served.ensures _ w.if-served.true)
    ] in
    on_ok c.close.result _ _ (over_all _ over) c.close.ensures
