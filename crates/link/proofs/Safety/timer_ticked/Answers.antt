-- `Safety::timer_ticked` meets its contract: the timer runs, or has come to its end.
-- Assumes nothing.
use mathlib.Core.Path.{sym, ap, ◌∙◌}
use Rattle.link.specs.Link.{timer_ticks, is_sound_timer}
use Rattle.link.proofs.Timers.{timer_waits, timer_runs, timer_ends, some_left}
use Rattle.link.proofs.Safety.timer_ticked.Goals as goal

pub returns-then-n-t : goal.returns-then-n-t
returns-then-n-t c =
    let start = c.args in
    sym (ap (timer_ticks start.n) c.in_ok-t.was ∙ timer_runs start.n _ c.if-n-t.true)

pub returns-else-n-t : goal.returns-else-n-t
returns-else-n-t c =
    let limit = c.args.self.limit in
    let told = c.in_ok-t.was in
    sym (ap (timer_ticks c.args.n) told
    ∙ timer_ends c.args.n _ (some_left limit _ (ap (is_sound_timer limit) (sym told) ∙ c.requires)) c.if-n-t.false)

pub returns-in_err-t : goal.returns-in_err-t
returns-in_err-t c =
    let start = c.args in
    c.from_residual.ensures ∙ sym (ap (timer_ticks start.n) c.in_err-t.was ∙ timer_waits start.n)
