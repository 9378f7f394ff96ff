-- Many ticks of a timed pause at once.   (01, Ticks and phases, PAS)
use Rattle.std.specs.Prelude.{ℕ, ◌-◌}
use Rattle.program.specs.Runs.{doing}
use Rattle.program.specs.declared.state.Run.{Run}
use Rattle.program.specs.declared.state.Work.TheVariants.{Pausing}

-- k ticks fewer are left
unfoldable pub leap_pause : Run → ℕ → ℕ → Run
leap_pause r left k = doing r (Pausing (left - k))
