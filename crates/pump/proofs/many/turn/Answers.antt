-- `turn` meets its contract.
-- Assumes nothing.
use native.Mathlib.Omega.{arith}
use Rattle.base.proofs.Flags.{flag_counted, flag_few}
use Rattle.pump.proofs.Turning.{turn_ready, turn_current, hops, leapt_ready, strides}
use Rattle.pump.proofs.many.turn.Goals as goal

pub hop-hopped-requires : goal.hop-hopped-requires
hop-hopped-requires c = (turn_current _ _ c.requires, c.requires.some)

pub returns-then-hopped-gt0 : goal.returns-then-hopped-gt0
returns-then-hopped-gt0 c = hops _ _ c.requires _ c.hop-hopped.ensures c.if-hopped-gt0.true

pub tick-moved-requires : goal.tick-moved-requires
tick-moved-requires c = leapt_ready _ _ c.requires _ c.leap-leapt.ensures

pub returns : goal.returns
returns c =
    let l = c.leap-leapt in
    let m = c.tick-moved in
    strides _ _ c.requires _ l.ensures m.result m.ensures (omega arith) (omega arith) _ (flag_counted m.result.beep)
    (flag_few m.result.beep)
