-- What was given in each direction.   (01, Volumes; Commands, CLD)
use Rattle.std.specs.Prelude.{ℕ, ◌+◌, Bool, ◌&&◌, leb}
use Rattle.drive.specs.declared.directions.Direction.{Direction}
use Rattle.drive.specs.declared.directions.Direction.TheVariants.{Infuse, Withdraw}
use Rattle.dispense.specs.declared.ledgers.Ledger.{Ledger}
use Rattle.dispense.specs.declared.ledgers.Pair.{Pair}

-- each direction has a total, at most 10^18 fl
abbrev pub most_total : ℕ
most_total = 1_000_000_000_000_000_000

-- ---- of two figures, that of a direction; and the two with another one there
abbrev pub figure_of : Pair → Direction → ℕ
figure_of p Infuse = p.infused
figure_of p Withdraw = p.withdrawn

abbrev pub with_figure : Pair → Direction → ℕ → Pair
with_figure p Infuse x = record { infused = x; withdrawn = p.withdrawn }
with_figure p Withdraw x = record { infused = p.infused; withdrawn = x }

-- ---- the ledger: what is said of a direction is said of either
-- totals 0
abbrev pub fresh : Ledger
fresh = record { totals = record { infused = 0; withdrawn = 0 } }

abbrev pub total_of : Ledger → Direction → ℕ
total_of l d = figure_of l.totals d

-- so much more was given
abbrev pub book : Ledger → Direction → ℕ → Ledger
book l d fl = record { totals = with_figure l.totals d (total_of l d + fl) }

-- CLD: that total is 0, the other stays
abbrev pub clear : Ledger → Direction → Ledger
clear l d = record { totals = with_figure l.totals d 0 }

-- no total is above its limit
unfoldable pub is_sound_ledger : Ledger → Bool
is_sound_ledger l = leb l.totals.infused most_total && leb l.totals.withdrawn most_total
