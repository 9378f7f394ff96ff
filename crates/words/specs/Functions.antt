-- The fifteen functions, listed once with a number and a datum for each, and every question about a function, by these two.
-- (01, Numbers; Commands, FUN; Ticks and phases)
use Rattle.std.specs.Prelude.{ℕ, ◌*◌, Bool, true, ◌&&◌, ◌||◌, leb, eqb, if◌then◌else◌}
use Rattle.words.specs.declared.functions.Function.{Function}
use Rattle.words.specs.declared.functions.Function.TheVariants as f

-- the two kinds of PAS, whole seconds and tenths, have a number each
abbrev pub number : Function → ℕ
number f.Rat = 0
number f.Inc = 1
number f.Dec = 2
number f.Stp = 3
number (f.Jmp n) = 4
number (f.Lop n) = 5
number f.Lps = 6
number f.Lpe = 7
number (f.Pas n) = 8
number (f.Tenths n) = 9
number (f.If n) = 10
number (f.Evn n) = 11
number f.Evr = 12
number f.Bep = 13
number (f.Out n) = 14

-- a function without data has 0 there
abbrev pub datum : Function → ℕ
datum f.Rat = 0
datum f.Inc = 0
datum f.Dec = 0
datum f.Stp = 0
datum (f.Jmp n) = n
datum (f.Lop n) = n
datum f.Lps = 0
datum f.Lpe = 0
datum (f.Pas n) = n
datum (f.Tenths n) = n
datum (f.If n) = n
datum (f.Evn n) = n
datum f.Evr = 0
datum f.Bep = 0
datum (f.Out n) = n

-- ---- what a function is
-- RAT
abbrev pub is_flow : Function → Bool
is_flow g = eqb (number g) 0

-- INC and DEC
abbrev pub is_ramp : Function → Bool
is_ramp g = leb 1 (number g) && leb (number g) 2

-- the rate phases: RAT, INC and DEC
abbrev pub is_rate_phase : Function → Bool
is_rate_phase g = leb (number g) 2

-- PAS 0, the trigger wait
abbrev pub is_wait : Function → Bool
is_wait g = eqb (number g) 8 && eqb (datum g) 0

abbrev pub is_beep : Function → Bool
is_beep g = eqb (number g) 13

abbrev pub is_out : Function → Bool
is_out g = eqb (number g) 14

-- JMP, IF and EVN name a phase
abbrev pub takes_phase : Function → Bool
takes_phase g = eqb (number g) 4 || eqb (number g) 10 || eqb (number g) 11

-- LOP a count; tenths of a second run from 1 to 99 likewise
abbrev pub takes_count : Function → Bool
takes_count g = eqb (number g) 5 || eqb (number g) 9

-- these, PAS in seconds and OUT have a datum; the others have none
abbrev pub takes_datum : Function → Bool
takes_datum g = takes_phase g || takes_count g || eqb (number g) 8 || is_out g

-- ---- which datum it may have
-- phases run from 1 to the last, counts from 1 to 99
abbrev pub is_phase : ℕ → ℕ → Bool
is_phase phases n = leb 1 n && leb n phases

abbrev pub is_count : ℕ → Bool
is_count n = leb 1 n && leb n 99

-- in a pump of so many phases: PAS up to 99 s or 0.1 to 9.9 s, OUT the level 0 or 1
abbrev pub fits : ℕ → Function → Bool
fits phases g =
    if takes_phase g
    then is_phase phases (datum g)
    else if takes_count g
    then is_count (datum g)
    else if eqb (number g) 8
    then leb (datum g) 99
    else if eqb (number g) 14
    then leb (datum g) 1
    else true

-- ---- the full number of ticks of a pause: a thousand a second, so a hundred a tenth; 0 for whatever is no timed pause
abbrev pub pause_ticks : Function → ℕ
pause_ticks g = if eqb (number g) 8 then datum g * 1000 else if eqb (number g) 9 then datum g * 100 else 0
