-- What a call of many ticks reports is what its single ticks report one by one. Said of every event: a call of any other kind is one event.
-- That it is so of every event of a history is a theorem (proofs/Many.antt, adds_up).   (02, 1/12)
use Rattle.std.specs.Prelude.{ℕ, ◌+◌, ◌≡◌, List, [], ◌∷◌}
use Rattle.pump.specs.declared.reports.Report.{Report}
use Rattle.statement.specs.Facts.{core_of}
use Rattle.statement.specs.Histories.{Event, Every, apart}
use Rattle.statement.specs.Outcomes.{Got, Follows}

-- the sum of what the reports of events tell
unfoldable pub sum_of : (Report → ℕ) → List Event → ℕ
sum_of told [] = 0
sum_of told (e ∷ es) = told e.report + sum_of told es

-- an event is made of events, one after the other
pub record MadeOf (e : Event) (es : List Event) : Type 0 where
  pub infused : e.report.infused ≡ sum_of (λ r. r.infused) es
  pub withdrawn : e.report.withdrawn ≡ sum_of (λ r. r.withdrawn) es
  pub beeps : e.report.beeps ≡ sum_of (λ r. r.beeps) es
  pub ticks : e.report.ticks ≡ sum_of (λ r. r.ticks) es
  -- what it sends is what they send, which is the last one's   (02, 2/12)
  pub answer : e.report.length ≡ sum_of (λ r. r.length) es
  -- they lead from the state before it to the one that it handed back, and each is what its caller would have got
  pub follows : Follows e.before es e.report.pump
  pub got : Every Got es
  -- the level is that behind the last of them
  pub level : e.report.output ≡ (core_of e.report.pump).output

abbrev pub AddsUp : Event → Type 0
AddsUp e = MadeOf e (apart e)
