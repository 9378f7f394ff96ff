-- `drive::hourly_rate` meets its contract: the product is the definition.
-- Assumes nothing.
use Rattle.drive.specs.Rates.{hourly_rate}
use Rattle.drive.proofs.rates.hourly_rate.Goals as goal

pub returns : goal.returns
unfolding hourly_rate
returns c = rw c.per_hour.ensures
