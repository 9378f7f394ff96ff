-- Many working ticks at one rate, reckoned at once.   (01, Ticks and phases, RAT: due steps and time store)
use Rattle.std.specs.Prelude.{ℕ, ◌+◌, ◌*◌, ◌/◌, ◌%◌, ◌≤◌, ◌<◌}
use Rattle.drive.specs.Syringe.{most_threshold}
use Rattle.leap.specs.declared.strides.Stride.{Stride}

-- k ticks add the hourly rate k times to the time store; every threshold in the sum is a due step
unfoldable pub stride_steps : ℕ → ℕ → ℕ → ℕ → ℕ
stride_steps store hourly threshold k = (store + k * hourly) / threshold

-- and is taken off
unfoldable pub stride_store : ℕ → ℕ → ℕ → ℕ → ℕ
stride_store store hourly threshold k = (store + k * hourly) % threshold

abbrev pub stride_over : ℕ → ℕ → ℕ → ℕ → Stride
stride_over store hourly threshold k =
    record { steps = stride_steps store hourly threshold k; store = stride_store store hourly threshold k }

-- what the code may rely on: a time store that has no step due, a usable rate, a threshold of the drive's syringes
pub record Steady (store hourly threshold : ℕ) : Type 0 where
  pub store_below : store < threshold
  pub usable : hourly ≤ 4 * threshold
  pub bounded : threshold ≤ most_threshold
