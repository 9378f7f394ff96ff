-- What the status letter tells of the mode and of what is under way, and what the time limit tells of the mode of the link.
-- Assumes nothing.
use Rattle.link.specs.declared.Safety.{Safety}
use Rattle.std.specs.Prelude.{Option, None, Some}
use Prim.Native.Nat.{ℕ, ◌≤◌}
use mathlib.Core.Path.{◌≡◌, refl, sym, ◌∙◌}
use mathlib.Core.Bool.{Bool, true, false, ◌||◌}
use native.Mathlib.Omega.{arith}
use lib.Dec.{eqb, ltb}
use borrow.Author.Tests.{lt-ltb}
use Rattle.base.specs.Text.{letter}
use Rattle.base.proofs.Choices.{false_true}
use Rattle.drive.specs.declared.directions.Direction.{Direction}
use Rattle.drive.specs.declared.directions.Direction.TheVariants.{Infuse, Withdraw}
use Rattle.program.specs.Statuses.{status_by, status_run}
use Rattle.program.specs.declared.state.Mode.{Mode}
use Rattle.program.specs.declared.state.Mode.TheVariants.{Stopped, Paused, Running}
use Rattle.program.specs.declared.state.Work.{Work}
use Rattle.program.specs.declared.state.Work.TheVariants.{Entering, Visiting, Pausing, Waiting}
use Rattle.link.specs.Link as link
use Rattle.link.specs.Link.{limit_in, safe_in}
use Rattle.link.proofs.Modes.{stands}
use Rattle.answer.specs.Letters.{status_letter}
use Rattle.pump.specs.Holder.{here_of, is_sound_pump}
use Rattle.pump.specs.declared.holder.Pump.{Pump}
use Rattle.pump.proofs.Kept.{pump_link}
use Rattle.statement.specs.Facts.{run_of, under_way}
use Rattle.condition3.specs.Books.{view_of, moves, is_safe}

-- ---- S and P are told by the mode, I and W by what is under way in a program that runs
abbrev pub is_stopped_in : Mode → Bool
is_stopped_in (Stopped alarm) = true
is_stopped_in Paused = false
is_stopped_in Running = false

abbrev pub is_paused_in : Mode → Bool
is_paused_in (Stopped alarm) = false
is_paused_in Paused = true
is_paused_in Running = false

abbrev moves_with : Work → Bool
moves_with Entering = true
moves_with (Visiting v) = true
moves_with (Pausing left) = false
moves_with Waiting = false

abbrev pub moves_in : Mode → Work → Bool
moves_in (Stopped alarm) w = false
moves_in Paused w = false
moves_in Running w = moves_with w

-- ---- the letter of each
abbrev letter_by : Direction → Work → Mode → ℕ
letter_by way w m = status_letter (status_by way w m)

abbrev is_moving : ℕ → Bool
is_moving c = eqb c (letter "I") || eqb c (letter "W")

-- S, P, and I or W
abbrev Tells : ℕ → Work → Mode → Type 0
Tells c w m = (eqb c (letter "S") ≡ is_stopped_in m) × (eqb c (letter "P") ≡ is_paused_in m) × (is_moving c ≡ moves_in m w)

tells : (way : Direction) (w : Work) (m : Mode) → Tells (letter_by way w m) w m
tells way w (Stopped alarm) = (refl, refl, refl)
tells way w Paused = (refl, refl, refl)
tells Infuse Entering Running = (refl, refl, refl)
tells Withdraw Entering Running = (refl, refl, refl)
tells Infuse (Visiting v) Running = (refl, refl, refl)
tells Withdraw (Visiting v) Running = (refl, refl, refl)
tells way (Pausing left) Running = (refl, refl, refl)
tells way Waiting Running = (refl, refl, refl)

-- ---- what is seen of a pump
pub view_stopped : (p : Pump) → eqb (view_of p).status (letter "S") ≡ is_stopped_in (run_of p).mode
unfolding view_of status_run
view_stopped p = (tells (here_of p).direction (under_way p) (run_of p).mode).0

pub view_paused : (p : Pump) → eqb (view_of p).status (letter "P") ≡ is_paused_in (run_of p).mode
unfolding view_of status_run
view_paused p = (tells (here_of p).direction (under_way p) (run_of p).mode).1

pub view_moves : (p : Pump) → moves (view_of p) ≡ moves_in (run_of p).mode (under_way p)
unfolding view_of status_run
view_moves p = (tells (here_of p).direction (under_way p) (run_of p).mode).2

-- ---- a pump in I or W is not stopped
pub moves_on : (m : Mode) (w : Work) → moves_in m w ≡ true → is_stopped_in m ≡ false
moves_on (Stopped alarm) w e = false_true e
moves_on Paused w e = refl
moves_on Running w e = refl

pub moving_on : (p : Pump) → moves (view_of p) ≡ true → is_stopped_in (run_of p).mode ≡ false
moving_on p h = moves_on (run_of p).mode (under_way p) (sym (view_moves p) ∙ h)

-- ---- the limit is above 0 in Safe mode alone
pub view_safe : (p : Pump) → is_sound_pump p ≡ true → is_safe (view_of p) ≡ link.is_safe p.device.link
unfolding view_of link.limit_of link.is_safe
view_safe p sound = go p.device.link.safety refl
  where
    go : (m : Option Safety) → p.device.link.safety ≡ m → ltb 0 (limit_in m) ≡ safe_in m
    go None e = refl
    go (Some s) e =
        let some : 1 ≤ s.limit = (stands p.device.link s (pump_link p sound) e).limited in lt-ltb 0 s.limit (omega arith)
