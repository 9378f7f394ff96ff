-- How names, units and directions are spelled: once, for what is read and for what is printed.   (01, Line and answer; Volumes;
-- Commands; Ticks and phases; 000, 9.3)
use Rattle.std.specs.Prelude.{ℕ, ◌||◌, List, [], ◌∷◌, eqb, if◌then◌else◌}
use Rattle.base.specs.Text.{text}
use Rattle.decimal.specs.Print.{last_digit, print_two, print_tenths}
use Rattle.drive.specs.declared.rates.RateUnit.{RateUnit}
use Rattle.drive.specs.declared.rates.RateUnit.TheVariants.{Um, Mm, Uh, Mh}
use Rattle.drive.specs.declared.syringe.VolumeUnit.{VolumeUnit}
use Rattle.drive.specs.declared.syringe.VolumeUnit.TheVariants.{Microlitre, Millilitre}
use Rattle.drive.specs.declared.directions.Direction.{Direction}
use Rattle.drive.specs.declared.directions.Direction.TheVariants.{Infuse, Withdraw}
use Rattle.words.specs.Functions.{number, datum, takes_phase, takes_count, is_out}
use Rattle.words.specs.declared.functions.Function.{Function}
use Rattle.words.specs.declared.functions.Function.TheVariants as f

-- the functions' names; both kinds of PAS have one name
abbrev pub function_name : Function → List ℕ
function_name f.Rat = text "RAT"
function_name f.Inc = text "INC"
function_name f.Dec = text "DEC"
function_name f.Stp = text "STP"
function_name (f.Jmp n) = text "JMP"
function_name (f.Lop n) = text "LOP"
function_name f.Lps = text "LPS"
function_name f.Lpe = text "LPE"
function_name (f.Pas n) = text "PAS"
function_name (f.Tenths n) = text "PAS"
function_name (f.If n) = text "IF"
function_name (f.Evn n) = text "EVN"
function_name f.Evr = text "EVR"
function_name f.Bep = text "BEP"
function_name (f.Out n) = text "OUT"

-- behind the name: tenths of a second as d.d; a phase, a count or whole seconds as two digits; the output's level as one
abbrev pub datum_text : Function → List ℕ
datum_text g =
    if eqb (number g) 9
    then print_tenths (datum g)
    else if takes_phase g || takes_count g || eqb (number g) 8
    then print_two (datum g)
    else if is_out g
    then last_digit (datum g) ∷ []
    else []

-- microlitres or millilitres, a minute or an hour
abbrev pub rate_letters : RateUnit → List ℕ
rate_letters Um = text "UM"
rate_letters Mm = text "MM"
rate_letters Uh = text "UH"
rate_letters Mh = text "MH"

abbrev pub volume_letters : VolumeUnit → List ℕ
volume_letters Microlitre = text "UL"
volume_letters Millilitre = text "ML"

abbrev pub direction_letters : Direction → List ℕ
direction_letters Infuse = text "INF"
direction_letters Withdraw = text "WDR"
