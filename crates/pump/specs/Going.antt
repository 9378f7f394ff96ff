-- Ticks under way: what the code of a turn may rely on, and what it promises.   (02, 1/12)
use Rattle.std.specs.Prelude.{ℕ, ◌+◌, ◌-◌, ◌*◌, ◌≤◌, ◌<◌, ◌≡◌, true, None}
use Rattle.words.specs.declared.phases.Phase.{Phase}
use Rattle.program.specs.Runs.{pending}
use Rattle.program.specs.Sound.{Table, is_sound_core}
use Rattle.program.specs.declared.state.Core.{Core}
use Rattle.leap.specs.Leaps.{most_ticks, Moves, ticks}
use Rattle.pump.specs.declared.many.Going.{Going}

-- what the ticks that are done did
abbrev pub moves_in : Going → Moves
moves_in g = record { core = g.core; infused = g.infused; withdrawn = g.withdrawn; beeps = g.beeps }

-- some ticks are left; the core is sound in a table of phases, with the current one in hand; a tick gave at most 255 steps
pub record Ongoing (g : Going) (here : Phase) : Type 0 where
  pub some : 1 ≤ g.left
  pub few_left : g.left ≤ most_ticks
  pub phases : ℕ
  pub few : phases ≤ 99
  pub look : ℕ → Phase
  pub table : Table phases look
  pub in_hand_lem : here ≡ look g.core.run.place.current
  pub kept : is_sound_core phases g.core (look g.core.run.place.current) ≡ true
  pub infused_few : g.infused ≤ (most_ticks - g.left) * 255
  pub withdrawn_few : g.withdrawn ≤ (most_ticks - g.left) * 255
  pub beeps_few : g.beeps ≤ most_ticks - g.left

-- fewer are left, and those that went are single ticks one after the other, whatever the other phases are
pub record Turned (g : Going) (here : Phase) (r : Going) : Type 0 where
  pub fewer : r.left < g.left
  pub same :
      (look : ℕ → Phase) (s : Core) (i : ℕ)
      → here ≡ look g.core.run.place.current
      → moves_in g ≡ ticks look i s
      → moves_in r ≡ ticks look (i + (g.left - r.left)) s
  -- and no alarm was raised before the last of them
  pub calm :
      (look : ℕ → Phase) (s : Core) (i : ℕ)
      → here ≡ look g.core.run.place.current
      → moves_in g ≡ ticks look i s
      → pending g.core.run ≡ None
      → pending (ticks look (i + (g.left - r.left) - 1) s).core.run ≡ None
  pub infused_few : r.infused ≤ g.infused + (g.left - r.left) * 255
  pub withdrawn_few : r.withdrawn ≤ g.withdrawn + (g.left - r.left) * 255
  pub beeps_few : r.beeps ≤ g.beeps + (g.left - r.left)
