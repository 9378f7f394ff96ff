-- `leap` meets its contract.
-- Assumes nothing.
use mathlib.Core.Path.{sym, ◌∙◌}
use native.Mathlib.Omega.{arith}
use Rattle.tick.proofs.Readiness.{ready_visit}
use Rattle.leap.proofs.Leaping.{leaps_visiting}
use Rattle.leap.proofs.Resting.{leaps_off, leaps_none, leaps_waiting, leaps_paused}
use Rattle.leap.proofs.leap.Goals as goal

pub returns-then-not-is_operating : goal.returns-then-not-is_operating
returns-then-not-is_operating c =
    let a = c.args in
    leaps_off a.core a.here a.n _ (sym c.is_operating.ensures ∙ c.if-not-is_operating.true)
    c.silent_for.ensures

pub reach-ticks-requires : goal.reach-ticks-requires
reach-ticks-requires c = (ready_visit c.args.core c.args.here c.requires.0 _ c.in-Visiting.is, c.requires.1)

-- none is proposed
pub returns-then-ticks-eq0 : goal.returns-then-ticks-eq0
returns-then-ticks-eq0 c =
    let a = c.args in
    leaps_none a.core a.here a.n _ c.silent_for-then-ticks-eq0.ensures

pub leap_visit-strode-requires : goal.leap_visit-strode-requires
leap_visit-strode-requires c = (ready_visit c.args.core c.args.here c.requires.0 _ c.in-Visiting.is, omega arith)

pub returns-in-Entering : goal.returns-in-Entering
returns-in-Entering c =
    let a = c.args in
    leaps_none a.core a.here a.n _ c.silent_for-in-Entering.ensures

pub returns-else-ticks-eq0 : goal.returns-else-ticks-eq0
returns-else-ticks-eq0 c =
    let a = c.args in
    leaps_visiting a.core a.here _ a.n _ _ _ (sym c.is_operating.ensures ∙ c.if-not-is_operating.false) c.in-Visiting.is
    (ready_visit a.core a.here c.requires.0 _ c.in-Visiting.is) c.reach-ticks.ensures
    c.leap_visit-strode.ensures c.worked_for.ensures

pub returns-in-Pausing : goal.returns-in-Pausing
returns-in-Pausing c =
    let a = c.args in
    leaps_paused a.core a.here _ (sym c.is_operating.ensures ∙ c.if-not-is_operating.false) c.in-Pausing.is a.n _ _ _ _
    c.before_last-ticks.ensures c.leap_pause.ensures c.with_run.ensures c.silent_for-in-Pausing.ensures

pub returns-in-Waiting : goal.returns-in-Waiting
returns-in-Waiting c =
    let a = c.args in
    leaps_waiting a.core a.here a.n _ (sym c.is_operating.ensures ∙ c.if-not-is_operating.false) c.in-Waiting.is
    c.silent_for-in-Waiting.ensures
