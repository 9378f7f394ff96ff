-- What a leap reports: no beep, and steps in the phase's direction alone.   (01, Ticks and phases)
use Rattle.std.specs.Prelude.{ℕ}
use Rattle.drive.specs.declared.directions.Direction.{Direction}
use Rattle.drive.specs.declared.directions.Direction.TheVariants.{Infuse, Withdraw}
use Rattle.program.specs.Cores.{with_run, with_ledger}
use Rattle.program.specs.declared.state.Core.{Core}
use Rattle.leap.specs.declared.Leapt.{Leapt}
use Rattle.leap.specs.declared.visits.Strode.{Strode}

-- so many ticks that give no step
abbrev pub silent_for : Core → ℕ → Leapt
silent_for s k = record { core = s; ticks = k; infused = 0; withdrawn = 0 }

-- the steps of each direction, where all are given in one
abbrev pub infused_by : Direction → ℕ → ℕ
infused_by Infuse n = n
infused_by Withdraw n = 0

abbrev pub withdrawn_by : Direction → ℕ → ℕ
withdrawn_by Infuse n = 0
withdrawn_by Withdraw n = n

-- working ticks of a visit
abbrev pub worked_for : Core → Direction → Strode → Leapt
worked_for s way x =
    record {
      core = with_ledger (with_run s x.run) x.ledger;
      ticks = x.ticks;
      infused = infused_by way x.steps;
      withdrawn = withdrawn_by way x.steps;
    }
