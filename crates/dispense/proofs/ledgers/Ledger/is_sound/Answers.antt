-- `Ledger::is_sound` meets its contract.
-- Assumes nothing.
use mathlib.Core.Path.{refl}
use Rattle.dispense.specs.Ledgers.{is_sound_ledger}
use Rattle.dispense.proofs.ledgers.Ledger.is_sound.Goals as goal

pub returns : goal.returns
unfolding is_sound_ledger
returns c = refl
