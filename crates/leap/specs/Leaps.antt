-- Many ticks, one after the other, and what a leap over some of them promises.   (02, 1/12; 01, Ticks and phases)
use Rattle.std.specs.Prelude.{ℕ, zero, suc, ◌+◌, ◌*◌, ◌≤◌, ◌≡◌, if◌then◌else◌}
use Rattle.words.specs.declared.functions.Function.{Function}
use Rattle.words.specs.declared.phases.Phase.{Phase}
use Rattle.program.specs.Cores.{with_run}
use Rattle.program.specs.declared.state.Core.{Core}
use Rattle.program.specs.declared.state.Run.{Run}
use Rattle.tick.specs.Ticks.{tick}
use Rattle.tick.specs.declared.Moved.{Moved}
use Rattle.leap.specs.declared.Leapt.{Leapt}
use Rattle.leap.specs.declared.hops.Hopped.{Hopped}

-- the most ticks of one call
abbrev pub most_ticks : ℕ
most_ticks = 1_000_000

-- what some ticks did: the core behind them, and the sums of their steps and beeps
pub record Moves : Type 0 where
  pub core : Core
  pub infused : ℕ
  pub withdrawn : ℕ
  pub beeps : ℕ

abbrev pub no_tick : Core → Moves
no_tick s = record { core = s; infused = 0; withdrawn = 0; beeps = 0 }

abbrev pub and_tick : Moves → Moved → Moves
and_tick t m =
    record {
      core = m.core;
      infused = t.infused + m.infused;
      withdrawn = t.withdrawn + m.withdrawn;
      beeps = t.beeps + (if m.beep then 1 else 0);
    }

-- the next tick, with the phase that is then the current one; `look` is the phase of a number
abbrev pub next_tick : (ℕ → Phase) → Moves → Moves
next_tick look t = and_tick t (tick t.core (look t.core.run.place.current))

-- so many ticks, one after the other
unfoldable pub ticks : (ℕ → Phase) → ℕ → Core → Moves
ticks look zero s = no_tick s
ticks look (suc n) s = next_tick look (ticks look n s)

-- ---- a leap: so many of n ticks; whatever the other phases are, they are that many ticks one after the other. None of them beeps,
-- leaves the phase, or stops the pump
abbrev pub moves_of : Leapt → Moves
moves_of r = record { core = r.core; infused = r.infused; withdrawn = r.withdrawn; beeps = 0 }

pub record Leap (s : Core) (here : Phase) (n : ℕ) (r : Leapt) : Type 0 where
  pub within : r.ticks ≤ n
  pub stays : r.core.run.place.current ≡ s.run.place.current
  pub goes_on : r.core.run.mode ≡ s.run.mode
  pub few : r.infused + r.withdrawn ≤ 4 * r.ticks
  pub same : (look : ℕ → Phase) → look s.run.place.current ≡ here → moves_of r ≡ ticks look r.ticks s

-- ---- a hop: so many of n ticks, from a phase of function f, that change nothing but the program under way and do not stop it, whatever
-- the rest of the core and the other phases are
pub record Hop (r : Run) (f : Function) (n : ℕ) (h : Hopped) : Type 0 where
  pub within : h.ticks ≤ n
  pub goes_on : h.run.mode ≡ r.mode
  pub same :
      (s : Core) (look : ℕ → Phase)
      → s.run ≡ r
      → (look r.place.current).function ≡ f
      → no_tick (with_run s h.run) ≡ ticks look h.ticks s
