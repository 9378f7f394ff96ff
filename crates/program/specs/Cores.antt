-- The core: its parts replaced; power-up and *RESET.   (01, Commands)
use Rattle.std.specs.Prelude.{ℕ, Bool, true, false, Some, None}
use Rattle.drive.specs.declared.syringe.Syringe.{Syringe}
use Rattle.words.specs.declared.answers.Alarm.TheVariants.{PowerUp}
use Rattle.dispense.specs.Ledgers as ledgers
use Rattle.dispense.specs.declared.ledgers.Ledger.{Ledger}
use Rattle.program.specs.Runs.{fresh_at}
use Rattle.program.specs.declared.state.Core.{Core}
use Rattle.program.specs.declared.state.Mode.TheVariants.{Stopped}
use Rattle.program.specs.declared.state.Pins.{Pins}
use Rattle.program.specs.declared.state.Run.{Run}

-- ---- one part replaced
abbrev pub with_run : Core → Run → Core
with_run s x =
    record { ledger = s.ledger; run = x; syringe = s.syringe; pins = s.pins; output = s.output; chosen = s.chosen }

abbrev pub with_ledger : Core → Ledger → Core
with_ledger s x = record { ledger = x; run = s.run; syringe = s.syringe; pins = s.pins; output = s.output; chosen = s.chosen }

abbrev pub with_syringe : Core → Syringe → Core
with_syringe s x = record { ledger = s.ledger; run = s.run; syringe = x; pins = s.pins; output = s.output; chosen = s.chosen }

abbrev pub with_pins : Core → Pins → Core
with_pins s x = record { ledger = s.ledger; run = s.run; syringe = s.syringe; pins = x; output = s.output; chosen = s.chosen }

abbrev pub with_output : Core → Bool → Core
with_output s x = record { ledger = s.ledger; run = s.run; syringe = s.syringe; pins = s.pins; output = x; chosen = s.chosen }

abbrev pub with_chosen : Core → ℕ → Core
with_chosen s x = record { ledger = s.ledger; run = s.run; syringe = s.syringe; pins = s.pins; output = s.output; chosen = x }

-- ---- power-up: alarm R, stopped, D 10,000, chosen phase 1, totals 0, pins high, output 0; the current phase is 1
abbrev pub power_up_core : Core
power_up_core =
    record {
      ledger = ledgers.fresh;
      run = fresh_at 1 (Stopped (Some PowerUp));
      syringe = record { diameter = 10_000 };
      pins = record { two = true; four = true; six = true };
      output = false;
      chosen = 1;
    }

-- ---- *RESET: the power-up state, but no alarm, pins as they are
abbrev pub reset_core : Core → Core
reset_core s = with_pins (with_run power_up_core (fresh_at 1 (Stopped None))) s.pins
