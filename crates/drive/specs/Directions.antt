-- The direction of pumping.   (01, Commands, DIR)
use Rattle.drive.specs.declared.directions.Direction.{Direction}
use Rattle.drive.specs.declared.directions.Direction.TheVariants.{Infuse, Withdraw}

-- REV
abbrev pub reverse : Direction → Direction
reverse Infuse = Withdraw
reverse Withdraw = Infuse
