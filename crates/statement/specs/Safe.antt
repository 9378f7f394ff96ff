-- What bytes make a pump say, one after the other, and where they lead it: for what Safe mode is worth on a noisy cable
-- (proofs/Safe.antt).   (02, 2/12)
use Rattle.std.specs.Prelude.{ℕ, ◌≡◌, List, [], ◌∷◌}
use Rattle.words.specs.declared.answers.Reply.TheVariants.{Garbled}
use Rattle.words.specs.declared.answers.Said.{Said}
use Rattle.words.specs.declared.answers.Said.TheVariants as s
use Rattle.program.specs.Statuses.{status_run}
use Rattle.pump.specs.Calls.{hear}
use Rattle.pump.specs.Holder.{here_of}
use Rattle.pump.specs.declared.calls.Listened.{Listened}
use Rattle.pump.specs.declared.holder.Pump.{Pump}
use Rattle.statement.specs.Facts.{core_of, run_of}

-- what it says to each byte
unfoldable pub sayings : Pump → List ℕ → List Said
sayings p [] = []
sayings p (b ∷ bs) = (hear p b).said ∷ sayings (hear p b).pump bs

-- and the pump behind them
unfoldable pub behind : Pump → List ℕ → Pump
behind p [] = p
behind p (b ∷ bs) = behind (hear p b).pump bs

-- `?COM`, with the status that the pump has
abbrev pub garbled : Pump → Said
garbled p = s.Answer (status_run (run_of p) (here_of p).direction) Garbled

-- nothing is obeyed: phases, core and line are as they were
pub record Untouched (p q : Pump) : Type 0 where
  pub phases : q.phases ≡ p.phases
  pub core : core_of q ≡ core_of p
  pub line : q.device.line ≡ p.device.line

-- the same is said, and the same is left of phases and core
pub record Alike (x y : Listened) : Type 0 where
  pub said : x.said ≡ y.said
  pub phases : x.pump.phases ≡ y.pump.phases
  pub core : core_of x.pump ≡ core_of y.pump
