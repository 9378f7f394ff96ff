-- Calls in two parts, one after the other: the state behind them, their events, ticks; what holds of every one; and the last of many ticks.
-- Assumes nothing.
use Prim.Native.Nat.{ℕ, zero, suc, ◌+◌}
use mathlib.Core.Path.{◌≡◌, refl, sym, ap, ◌∙◌}
use mathlib.Core.List.{List, [], ◌∷◌, ◌++◌}
use native.Mathlib.Nat.{add-zero, zero-add, suc-add, add_assoc}
use Rattle.pump.specs.declared.holder.Pump.{Pump}
use Rattle.pump.specs.declared.reports.Report.{Report}
use Rattle.statement.specs.Many.{sum_of}
use Rattle.statement.specs.Histories.{Call, tick_in, report_after, after, Event, event_of, trace, single_ticks, Every}

pub after_both : (p : Pump) (a b : List Call) → after p (a ++ b) ≡ after (after p a) b
unfolding after
after_both p [] b = refl
after_both p (c ∷ a) b = after_both (report_after p c).pump a b

pub trace_both : (p : Pump) (a b : List Call) → trace p (a ++ b) ≡ trace p a ++ trace (after p a) b
unfolding after trace
trace_both p [] b = refl
trace_both p (c ∷ a) b = ap (λ (es : List Event). event_of p c ∷ es) (trace_both (report_after p c).pump a b)

pub ticks_both : (buffer : List ℕ) (m n : ℕ) → single_ticks (m + n) buffer ≡ single_ticks m buffer ++ single_ticks n buffer
unfolding single_ticks
ticks_both buffer zero n = ap (λ (k : ℕ). single_ticks k buffer) (zero-add n)
ticks_both buffer (suc m) n =
    ap (λ (k : ℕ). single_ticks k buffer) (suc-add m n) ∙ ap (λ (cs : List Call). tick_in buffer ∷ cs) (ticks_both buffer m n)

pub every_both : {A : Type 0} (P : A → Type 0) (a b : List A) → Every P a → Every P b → Every P (a ++ b)
every_both P [] b h k = k
every_both P (x ∷ a) b h k = (h.0, every_both P a b h.1 k)

-- ---- the last of many ticks
module _ (buffer : List ℕ) where
  pub after_last :
      (n : ℕ) (p : Pump)
      → after p (single_ticks (suc n) buffer) ≡ (report_after (after p (single_ticks n buffer)) (tick_in buffer)).pump
  unfolding after single_ticks
  after_last zero p = refl
  after_last (suc n) p = after_last n (report_after p (tick_in buffer)).pump

  pub trace_last :
      (n : ℕ) (p : Pump)
      → trace p (single_ticks (suc n) buffer)
      ≡ trace p (single_ticks n buffer) ++ event_of (after p (single_ticks n buffer)) (tick_in buffer) ∷ []
  unfolding after trace single_ticks
  trace_last zero p = refl
  trace_last (suc n) p =
      ap (λ (es : List Event). event_of p (tick_in buffer) ∷ es) (trace_last n (report_after p (tick_in buffer)).pump)

-- ---- a sum, with one event more
pub sum_last : (told : Report → ℕ) (es : List Event) (e : Event) → sum_of told (es ++ e ∷ []) ≡ sum_of told es + told e.report
unfolding sum_of
sum_last told [] e = add-zero (told e.report) ∙ sym (zero-add (told e.report))
sum_last told (x ∷ es) e =
    ap (λ (n : ℕ). told x.report + n) (sum_last told es e) ∙ sym (add_assoc (told x.report) (sum_of told es) (told e.report))
