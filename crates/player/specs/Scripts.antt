-- The whole of a script as the program plays it, a byte at a time: the bench after some bytes, and all that they print. Effects says
-- the same line by line (`itemised`, proofs/Itemised.antt).   (01, Marked figures: the bench program)
use Rattle.std.specs.Prelude.{ℕ, ◌≤◌, ◌<◌, ◌≡◌, List, [], ◌∷◌, ◌++◌, length, take}
use Rattle.base.specs.Wrote.{Wrote}
use Rattle.script.specs.Places.{after_spot, input_end}
use Rattle.player.specs.Rigs.{fresh_rig, rig_after, printed}
use Rattle.player.specs.declared.feeding.Bench.{Bench}
use Rattle.player.specs.declared.feeding.Fed.{Fed}
use Rattle.script.specs.declared.places.Spot.TheVariants.{Start}

-- a pump just switched on, before the first line
abbrev pub fresh_bench : Bench
fresh_bench = record { rig = fresh_rig; place = Start }

-- ---- one byte: where the input then stands, and what the byte asks for is done
unfoldable pub bench_after : Bench → ℕ → Bench
bench_after w b = record { rig = rig_after w.rig (after_spot w.place b).act; place = (after_spot w.place b).place }

unfoldable pub turn_says : Bench → ℕ → List ℕ
turn_says w b = printed w.rig (after_spot w.place b).act

-- ---- some bytes, one after the other
unfoldable pub play : Bench → List ℕ → Bench
play w [] = w
play w (b ∷ s) = play (bench_after w b) s

unfoldable pub says : Bench → List ℕ → List ℕ
says w [] = []
says w (b ∷ s) = turn_says w b ++ says (bench_after w b) s

-- ---- the end of the input
unfoldable pub closed : Bench → List ℕ
closed w = printed w.rig (input_end w.place)

-- ---- all that the program prints for an input: `script_of` of it
unfoldable pub script : List ℕ → List ℕ
script s = says fresh_bench s ++ closed (play fresh_bench s)

-- a part of the input was played, at least a byte of it, and the buffer begins with all that the part prints
pub record Feeds (w : Bench) (s before after : List ℕ) (r : Fed) : Type 0 where
  pub within : r.taken ≤ length s
  pub some : 0 < length s → 0 < r.taken
  pub stands : r.bench ≡ play w (take r.taken s)
  pub wrote : Wrote before after 0 r.end (says w (take r.taken s))
