-- One read: what it took of a reader whose bytes are known, and what of it a writer then holds more.
use Rattle.std.specs.Prelude.{ℕ, ◌<◌, ◌≡◌, List, length, true, false}
use Rattle.std.specs.Io.KnownBytes.{Consumes, Appends, IsAtEnd}
use Rattle.std.specs.declared.option.Option.{Option}
use Rattle.player.specs.Scripts.{play, says}
use Rattle.player.specs.declared.feeding.Bench.{Bench}
use Rattle.bench.specs.declared.Served.{Served}

-- some bytes were taken, none only at the end; they were played, and all that they print was written
pub record Serves (w : Bench) (left rest had has : Option (List ℕ)) (r : Served) : Type 0 where
  pub got : List ℕ
  pub took : Consumes left rest got
  pub stands : r.bench ≡ play w got
  pub told : Appends had has (says w got)
  pub ends : r.ended ≡ true → IsAtEnd rest
  pub some : r.ended ≡ false → 0 < length got
