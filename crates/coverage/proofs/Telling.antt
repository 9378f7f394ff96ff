-- The counts of steps, the refusals and the answers that are printed are read off the events of the history.
--     counts_are_sums       the counts of n ticks are the sums of what the reports of their calls tell
--     refusals_are_told     and they are refused where one of these calls was
--     counts_tick_by_tick   the counts are also the sums over the single ticks that these calls did   (02, 1/12)
--     answers_are_told      what bytes print is what the reports of their calls, and the buffers behind them, tell
-- Assumes nothing.
use Prim.Native.Nat.{ℕ, ◌+◌}
use mathlib.Core.Path.{◌≡◌, refl, sym, ap, ap₂, ◌∙◌}
use mathlib.Core.Bool.{◌||◌, or-false, or_assoc}
use mathlib.Core.List.{List, [], ◌∷◌, ◌++◌, map}
use native.Mathlib.Nat.{zero-add, add-zero, add_assoc}
use Rattle.drive.specs.declared.directions.Direction.{Direction}
use Rattle.drive.specs.declared.directions.Direction.TheVariants.{Infuse, Withdraw}
use Rattle.pump.specs.Calls.{ticks_call}
use Rattle.pump.specs.Reports.{is_refused}
use Rattle.pump.specs.declared.holder.Pump.{Pump}
use Rattle.script.specs.Items.{elapse}
use Rattle.player.specs.Effects.{answers}
use Rattle.player.specs.Elapsing.{zeros, portions, begun, further, after_calls, elapsed}
use Rattle.player.specs.Rigs.{report_on, buffer_on, answer_line}
use Rattle.player.specs.declared.elapsing.Elapsed.{Elapsed}
use Rattle.statement.specs.Histories.{Call, report_after, Event, event_of, trace, apart, tick_by_tick}
use Rattle.statement.specs.Many.{sum_of}
use Rattle.statement.proofs.Many.{call_adds}
use Rattle.condition3.specs.Books.{told}
use Rattle.condition3.specs.Sending.{bytes_in}
use Rattle.coverage.specs.Calls.{ticks_for, calls_of}
use Rattle.coverage.specs.Telling.{steps_told, some_refused, answers_in}

-- ---- the counts of calls of many ticks, behind what was counted before them
infused_told :
    (t : Elapsed) (ns : List ℕ) → (after_calls t ns).infused ≡ t.infused + steps_told Infuse (trace t.pump (map ticks_for ns))
unfolding after_calls trace steps_told
infused_told t [] = sym (add-zero t.infused)
infused_told t (n ∷ ns) =
    let r = ticks_call t.pump n zeros in
    infused_told (further t r) ns
    ∙ add_assoc t.infused r.infused (steps_told Infuse (trace r.pump (map ticks_for ns)))

withdrawn_told :
    (t : Elapsed) (ns : List ℕ) → (after_calls t ns).withdrawn ≡ t.withdrawn + steps_told Withdraw (trace t.pump (map ticks_for ns))
unfolding after_calls trace steps_told
withdrawn_told t [] = sym (add-zero t.withdrawn)
withdrawn_told t (n ∷ ns) =
    let r = ticks_call t.pump n zeros in
    withdrawn_told (further t r) ns
    ∙ add_assoc t.withdrawn r.withdrawn (steps_told Withdraw (trace r.pump (map ticks_for ns)))

pub counts_are_sums :
    (n : ℕ) (p : Pump)
    → ((elapsed n p).infused ≡ steps_told Infuse (trace p (calls_of p (elapse n))))
    × ((elapsed n p).withdrawn ≡ steps_told Withdraw (trace p (calls_of p (elapse n))))
unfolding elapsed calls_of
counts_are_sums n p =
    let cs = map ticks_for (portions n p) in (
      infused_told (begun n p) (portions n p) ∙ zero-add (steps_told Infuse (trace p cs)),
      withdrawn_told (begun n p) (portions n p) ∙ zero-add (steps_told Withdraw (trace p cs)),
    )

-- ---- their refusals
refused_told :
    (t : Elapsed) (ns : List ℕ) → (after_calls t ns).refused ≡ (t.refused || some_refused (trace t.pump (map ticks_for ns)))
unfolding after_calls trace some_refused
refused_told t [] = sym (or-false t.refused)
refused_told t (n ∷ ns) =
    let r = ticks_call t.pump n zeros in
    refused_told (further t r) ns
    ∙ or_assoc t.refused (is_refused r.refusal) (some_refused (trace r.pump (map ticks_for ns)))

pub refusals_are_told : (n : ℕ) (p : Pump) → (elapsed n p).refused ≡ some_refused (trace p (calls_of p (elapse n)))
unfolding elapsed calls_of
refusals_are_told n p = refused_told (begun n p) (portions n p)

-- ---- tick by tick
steps_both : (d : Direction) (a b : List Event) → steps_told d (a ++ b) ≡ steps_told d a + steps_told d b
unfolding steps_told
steps_both d [] b = sym (zero-add (steps_told d b))
steps_both d (e ∷ a) b =
    ap (λ (n : ℕ). told d e + n) (steps_both d a b)
    ∙ sym (add_assoc (told d e) (steps_told d a) (steps_told d b))

infused_sum : (es : List Event) → sum_of (λ r. r.infused) es ≡ steps_told Infuse es
unfolding sum_of steps_told
infused_sum [] = refl
infused_sum (e ∷ es) = ap (λ (n : ℕ). e.report.infused + n) (infused_sum es)

withdrawn_sum : (es : List Event) → sum_of (λ r. r.withdrawn) es ≡ steps_told Withdraw es
unfolding sum_of steps_told
withdrawn_sum [] = refl
withdrawn_sum (e ∷ es) = ap (λ (n : ℕ). e.report.withdrawn + n) (withdrawn_sum es)

told_apart : (d : Direction) (p : Pump) (c : Call) → told d (event_of p c) ≡ steps_told d (apart (event_of p c))
told_apart Infuse p c = (call_adds p c).infused ∙ infused_sum (apart (event_of p c))
told_apart Withdraw p c = (call_adds p c).withdrawn ∙ withdrawn_sum (apart (event_of p c))

-- the same sums, of any history
steps_apart : (d : Direction) (p : Pump) (cs : List Call) → steps_told d (trace p cs) ≡ steps_told d (tick_by_tick (trace p cs))
unfolding trace steps_told tick_by_tick
steps_apart d p [] = refl
steps_apart d p (c ∷ cs) =
    let more = trace (report_after p c).pump cs in
    ap₂ (λ (a b : ℕ). a + b) (told_apart d p c) (steps_apart d (report_after p c).pump cs)
    ∙ sym (steps_both d (apart (event_of p c)) (tick_by_tick more))

pub counts_tick_by_tick :
    (n : ℕ) (p : Pump)
    → ((elapsed n p).infused ≡ steps_told Infuse (tick_by_tick (trace p (calls_of p (elapse n)))))
    × ((elapsed n p).withdrawn ≡ steps_told Withdraw (tick_by_tick (trace p (calls_of p (elapse n)))))
counts_tick_by_tick n p = (
  (counts_are_sums n p).0 ∙ steps_apart Infuse p (calls_of p (elapse n)),
  (counts_are_sums n p).1 ∙ steps_apart Withdraw p (calls_of p (elapse n)),
)

-- ---- the answers to bytes
pub answers_are_told : (p : Pump) (s : List ℕ) → answers p s ≡ answers_in (trace p (bytes_in s))
unfolding answers report_on buffer_on trace answers_in
answers_are_told p [] = refl
answers_are_told p (b ∷ s) =
    ap (λ (u : List ℕ). answer_line (report_on p b) (buffer_on p b) ++ u) (answers_are_told (report_on p b).pump s)
