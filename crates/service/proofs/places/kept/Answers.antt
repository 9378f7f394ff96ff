-- `kept` meets its contract: a byte of a text, held where there is room for it.
-- Assumes nothing.
use Rattle.service.proofs.Held.{keeping}
use Rattle.service.proofs.places.kept.Goals as goal
use Rattle.service.proofs.places.kept.Goals.{else-n-le-MOST_DATA-via-then-n-le-MOST_DATA+else-n-held}
use Rattle.service.proofs.places.kept.Goals.{else-n-le-MOST_DATA-via-else-n-le-MOST_DATA}

pub returns-then-n-held : goal.returns-then-n-held
returns-then-n-held c = search keeping

pub returns : goal.returns
returns c =
    elim c.else-n-le-MOST_DATA.branch [
      | else-n-le-MOST_DATA-via-then-n-le-MOST_DATA+else-n-held w ↦ search keeping
      | else-n-le-MOST_DATA-via-else-n-le-MOST_DATA w ↦ search keeping
    ]
