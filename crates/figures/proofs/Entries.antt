-- Figure l: the program is entered by bytes, run, and ticked by calls; 4,370 leaps of it end in a stopped pump.
--     pause_entered   after 1,442,930 ticks and any k more, phase 3 was entered 1,440 times
--     pause_stopped   and the pump is stopped
--     pause_running   a tick earlier it runs
-- Assumes nothing.
use Rattle.std.specs.Prelude.{None}
use Prim.Native.Nat.{ℕ, ◌+◌}
use mathlib.Core.Path.{◌≡◌, refl, sym, ap, ap₂, ◌∙◌}
use mathlib.Core.Bool.{false}
use mathlib.Core.List.{◌++◌}
use native.Mathlib.Nat.{zero-add}
use Rattle.std.specs.Prelude.{None}
use Rattle.program.specs.declared.state.Mode.TheVariants.{Stopped, Running}
use Rattle.link.specs.Link.{is_safe}
use Rattle.pump.specs.Holder.{model_phases}
use Rattle.pump.specs.declared.holder.Pump.{Pump}
use Rattle.statement.specs.Facts.{link_of, run_of}
use Rattle.statement.specs.Histories.{after, Whole, trace}
use Rattle.statement.proofs.Always.{model, whole_after}
use Rattle.condition3.specs.Sending.{lines, ticks_of}
use Rattle.statement.proofs.Joining.{after_both, trace_both}
use Rattle.condition3.proofs.Opening.{opened}
use Rattle.figures.specs.Figures.{nested}
use Rattle.figures.specs.Rows.{at_power_up, enters_phase, entries}
use Rattle.figures.proofs.Doses.{basic_mode}
use Rattle.figures.proofs.Leaps.{Tally, True, waited, tally, tallying, tallied, for_ever, entries_both}

-- what the lines leave: the five functions in their phases, and the program started
ready : Pump
ready = after at_power_up (lines nested)

-- no byte enters a phase
none_yet : entries 3 (trace at_power_up (lines nested)) ≡ 0
unfolding opened nested entries enters_phase
none_yet = refl

ready_whole : Whole ready
unfolding ready
ready_whole = whole_after model_phases model (lines nested)

in_basic : (link_of ready).safety ≡ None
unfolding opened nested ready
in_basic = refl

ready_basic : is_safe (link_of ready) ≡ false
ready_basic = basic_mode (link_of ready) in_basic

-- 1 + 24 x (1 + 60 x 3 + 1) + 1 leaps
last : Tally
last = tally 3 ready 4_370

stops : last.place.run.mode ≡ Stopped None
unfolding opened nested ready tallying last
stops = refl

takes : last.used ≡ 1_442_930
unfolding opened nested ready tallying last
takes = refl

sees : last.seen ≡ 1_440
unfolding opened nested ready tallying last
sees = refl

ever : (k : ℕ) → True 3 ready (waited last k)
unfolding last
ever k = for_ever 3 ready ready_whole ready_basic (tally 3 ready 4_370) (tallied 3 ready ready_whole ready_basic 4_370) None stops k

pub pause_entered : (k : ℕ) → entries 3 (trace at_power_up (lines nested ++ ticks_of (1_442_930 + k))) ≡ 1_440
unfolding ready
pause_entered k =
    ap (entries 3) (trace_both at_power_up (lines nested) (ticks_of (1_442_930 + k)))
    ∙ entries_both 3 (trace at_power_up (lines nested)) (trace ready (ticks_of (1_442_930 + k)))
    ∙ ap₂ (λ (a b : ℕ). a + b) none_yet
    (ap (λ (n : ℕ). entries 3 (trace ready (ticks_of (n + k)))) (sym takes) ∙ (ever k).counted ∙ sees)
    ∙ zero-add 1_440

-- and then the pump is stopped, as it stays
pub pause_stopped : (k : ℕ) → (run_of (after at_power_up (lines nested ++ ticks_of (1_442_930 + k)))).mode ≡ Stopped None
unfolding ready
pause_stopped k =
    ap (λ (p : Pump). (run_of p).mode)
    (after_both at_power_up (lines nested) (ticks_of (1_442_930 + k))
    ∙ ap (λ (n : ℕ). after ready (ticks_of (n + k))) (sym takes)
    ∙ (ever k).there)
    ∙ stops

-- one tick before, it runs: the number is the least
before : Tally
before = tally 3 ready 4_369

before_takes : before.used ≡ 1_442_929
unfolding opened nested ready tallying before
before_takes = refl

before_runs : before.place.run.mode ≡ Running
unfolding opened nested ready tallying before
before_runs = refl

pub pause_running : (run_of (after at_power_up (lines nested ++ ticks_of 1_442_929))).mode ≡ Running
unfolding ready before
pause_running =
    ap (λ (p : Pump). (run_of p).mode)
    (after_both at_power_up (lines nested) (ticks_of 1_442_929)
    ∙ ap (λ (n : ℕ). after ready (ticks_of n)) (sym before_takes)
    ∙ (tallied 3 ready ready_whole ready_basic 4_369).there)
    ∙ before_runs
