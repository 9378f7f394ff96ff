-- `tick` meets its contract.
-- Assumes nothing.
use mathlib.Core.Path.{◌≡◌, sym, ◌∙◌}
use mathlib.Core.Bool.{true}
use Rattle.program.specs.Runs.{is_operating}
use Rattle.tick.proofs.Readiness.{ready_current, ready_entering, ready_visit}
use Rattle.tick.proofs.Ticking.{ticks_off, ticks_on, ticks_visit, ticks_pause}
use Rattle.tick.proofs.tick.Goals as goal

pub returns-then-not-is_operating : goal.returns-then-not-is_operating
returns-then-not-is_operating c =
    let a = c.args in
    ticks_off a.core a.here _ (sym c.is_operating.ensures ∙ c.if-not-is_operating.true)
    c.silent.ensures

pub entered-requires : goal.entered-requires
entered-requires c = search ready_entering

pub work_visit-requires : goal.work_visit-requires
work_visit-requires c = search ready_visit

pub work_pause-requires : goal.work_pause-requires
work_pause-requires c = search ready_current

pub returns-in-Entering : goal.returns-in-Entering
returns-in-Entering c =
    let a = c.args in
    -- past the test the program runs
    let runs : is_operating a.core.run ≡ true = sym c.is_operating.ensures ∙ c.if-not-is_operating.false in
    ticks_on a.core a.here _ _ runs c.in-Entering.is c.entered.ensures

pub returns-in-Visiting : goal.returns-in-Visiting
returns-in-Visiting c =
    let a = c.args in
    -- past the test the program runs
    let runs : is_operating a.core.run ≡ true = sym c.is_operating.ensures ∙ c.if-not-is_operating.false in
    ticks_visit a.core a.here _ _ _ runs c.in-Visiting.is c.work_visit.ensures c.worked.ensures

pub returns-in-Pausing : goal.returns-in-Pausing
returns-in-Pausing c =
    let a = c.args in
    -- past the test the program runs
    let runs : is_operating a.core.run ≡ true = sym c.is_operating.ensures ∙ c.if-not-is_operating.false in
    ticks_pause a.core a.here _ _ _ _ runs c.in-Pausing.is
    c.work_pause.ensures c.with_run.ensures c.silent-in-Pausing.ensures

pub returns-in-Waiting : goal.returns-in-Waiting
returns-in-Waiting c =
    let a = c.args in
    -- past the test the program runs
    let runs : is_operating a.core.run ≡ true = sym c.is_operating.ensures ∙ c.if-not-is_operating.false in
    ticks_on a.core a.here _ _ runs c.in-Waiting.is c.silent-in-Waiting.ensures
