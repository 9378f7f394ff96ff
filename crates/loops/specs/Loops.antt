-- The open loops, as a list with the oldest first: LPS, LOP and LPE, each whole, and when the loops are sound.
-- (01, Ticks and phases, LPS, LOP, LPE; Calls)
use Rattle.std.specs.Prelude.{ℕ, ◌+◌, ◌≤◌, Bool, true, ◌&&◌, not, List, [], ◌∷◌, ◌++◌, leb, eqb, length, take, replicate, if◌then◌else◌}
use Rattle.std.specs.Prelude.{Option, Some, None}
use Rattle.loops.specs.declared.Loop.{Loop}
use Rattle.loops.specs.declared.Loops.{Loops}
use Rattle.loops.specs.declared.Turn.{Turn}

-- a loop counted as begun by phase 0, with no pass; zeros like these fill the places where no loop is open
abbrev pub no_loop : Loop
no_loop = record { begun = 0; passes = 0 }

-- the open loops, the oldest first: the first `count` places
abbrev pub opened : Loops → List Loop
opened l = take l.count l.slots

-- the places that hold a list of at most three open loops
abbrev pub in_slots : List Loop → Loops
in_slots ls = record { slots = take 3 (ls ++ replicate 3 no_loop); count = length ls }

abbrev pub none : Loops
none = in_slots []

-- ---- LPS
-- the loops opened before the one that this phase opened; all of them, if it opened none
unfoldable pub before : ℕ → List Loop → List Loop
before phase [] = []
before phase (x ∷ ls) = if eqb x.begun phase then [] else x ∷ before phase ls

-- that loop and those opened after it close; with three still open the phase can't begin one, else one is opened
unfoldable pub lps : Loops → ℕ → Option Loops
lps l phase =
    if leb 3 (length (before phase (opened l)))
    then None
    else Some (in_slots (before phase (opened l) ++ record { begun = phase; passes = 0 } ∷ []))

-- ---- LOP and LPE
-- the newest loop, or if none is open, one counted as begun by phase 0
unfoldable pub newest : List Loop → Loop
newest [] = no_loop
newest (x ∷ []) = x
newest (x ∷ y ∷ ls) = newest (y ∷ ls)

-- the loops opened before it
unfoldable pub older : List Loop → List Loop
older [] = []
older (x ∷ []) = []
older (x ∷ y ∷ ls) = x ∷ older (y ∷ ls)

-- one more pass; if the passes reach n or more, close and go on, else return to the phase behind the loop's start
unfoldable pub lop : Loops → ℕ → ℕ → Turn
lop l n current =
    if leb n ((newest (opened l)).passes + 1)
    then record { loops = in_slots (older (opened l)); next = current + 1 }
    else
    record {
      loops = in_slots (older (opened l) ++ record { begun = (newest (opened l)).begun; passes = (newest (opened l)).passes + 1 } ∷ []);
      next = (newest (opened l)).begun + 1;
    }

-- takes its loop the same way, counts no pass and returns always
unfoldable pub lpe : Loops → Turn
lpe l = record { loops = in_slots (older (opened l) ++ newest (opened l) ∷ []); next = (newest (opened l)).begun + 1 }

-- what LOP and LPE may rely on: no number that they raise by one is at the end of its range
pub record Turning (l : Loops) (current : ℕ) : Type 0 where
  pub begun : (newest (opened l)).begun ≤ 99
  pub current_few : current ≤ 100

-- ---- open loops are at most three, each begun by phase 0 or a phase and with at most 98 passes, and begun by different phases
abbrev pub is_sound_loop : ℕ → Loop → Bool
is_sound_loop phases x = leb x.begun phases && leb x.passes 98

unfoldable pub all_sound : ℕ → List Loop → Bool
all_sound phases [] = true
all_sound phases (x ∷ ls) = is_sound_loop phases x && all_sound phases ls

unfoldable pub none_begun_by : ℕ → List Loop → Bool
none_begun_by phase [] = true
none_begun_by phase (x ∷ ls) = not (eqb phase x.begun) && none_begun_by phase ls

unfoldable pub all_differ : List Loop → Bool
all_differ [] = true
all_differ (x ∷ ls) = none_begun_by x.begun ls && all_differ ls

unfoldable pub is_sound_loops : ℕ → Loops → Bool
is_sound_loops phases l = leb l.count 3 && all_sound phases (opened l) && all_differ (opened l)
