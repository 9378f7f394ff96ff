-- Time that passes: so many ticks, by calls of at most a million, and what they report.   (02, 1/12 and 2/12; 01, Marked figures: the
-- bench program)
use Rattle.std.specs.Prelude.{ℕ, zero, suc, ◌+◌, ◌-◌, ◌≤◌, min, ◌≡◌, false, ◌||◌, List, [], ◌∷◌, eqb, ltb, replicate, if◌then◌else◌}
use Rattle.pump.specs.Calls.{ticks_call}
use Rattle.pump.specs.Reports.{is_refused}
use Rattle.pump.specs.declared.holder.Pump.{Pump}
use Rattle.pump.specs.declared.reports.Report.{Report}
use Rattle.player.specs.declared.elapsing.Elapsed.{Elapsed}

-- one call takes at most so many
abbrev pub million : ℕ
million = 1_000_000

-- the answer buffer that every call gets
abbrev pub zeros : List ℕ
zeros = replicate 24 0

-- ---- one call: it is asked for what is left, up to a million
unfoldable pub portion : ℕ → ℕ
portion left = min left million

abbrev pub call_for : Pump → ℕ → Report
call_for p left = ticks_call p (portion left) zeros

-- what it leaves: it may do fewer than it was asked for, where one of them sent an alarm; a refused call is the last   (02, 2/12)
unfoldable pub left_after : ℕ → Report → ℕ
left_after left r = if is_refused r.refusal then 0 else left - r.ticks

-- ---- the calls for the ticks that are left, at most k of them: one, also where nothing is left, then those for what it leaves
unfoldable pub portions_by : ℕ → ℕ → Pump → List ℕ
portions_by zero left p = []
portions_by (suc k) left p =
    portion left
    ∷ (if eqb (left_after left (call_for p left)) 0
    then []
    else portions_by k (left_after left (call_for p left)) (call_for p left).pump)

-- each but the last does at least a tick, so that n + 1 calls are enough
unfoldable pub portions : ℕ → Pump → List ℕ
portions n p = portions_by (suc n) n p

-- ---- no call yet; one more
abbrev pub begun : ℕ → Pump → Elapsed
begun n p =
    record {
      pump = p;
      left = n;
      infused = 0;
      withdrawn = 0;
      beeps = 0;
      output = p.device.core.output;
      refused = false;
      sent = false;
    }

abbrev pub further : Elapsed → Report → Elapsed
further t r =
    record {
      pump = r.pump;
      left = left_after t.left r;
      infused = t.infused + r.infused;
      withdrawn = t.withdrawn + r.withdrawn;
      beeps = t.beeps + r.beeps;
      output = r.output;
      refused = t.refused || is_refused r.refusal;
      sent = t.sent || ltb 0 r.length;
    }

-- one after the other
unfoldable pub after_calls : Elapsed → List ℕ → Elapsed
after_calls t [] = t
after_calls t (n ∷ ns) = after_calls (further t (ticks_call t.pump n zeros)) ns

unfoldable pub elapsed : ℕ → Pump → Elapsed
elapsed n p = after_calls (begun n p) (portions n p)

-- ---- what the code may rely on: the sums have room for one report more
pub record Roomy (t : Elapsed) : Type 0 where
  pub infused : t.infused ≤ 18_446_744_069_414_584_320
  pub withdrawn : t.withdrawn ≤ 18_446_744_069_414_584_320
  pub beeps : t.beeps ≤ 18_446_744_069_414_584_320

-- one call more, of which each count has 32 bits
pub record Further (t : Elapsed) (r : Report) (u : Elapsed) : Type 0 where
  pub same : u ≡ further t r
  pub infused_few : u.infused ≤ t.infused + 4_294_967_295
  pub withdrawn_few : u.withdrawn ≤ t.withdrawn + 4_294_967_295
  pub beeps_few : u.beeps ≤ t.beeps + 4_294_967_295
