-- The marked figures, a to l. Every talk begins with an empty line, which is answered with the alarm R of power-up and clears it.
-- (01, Marked figures)
use Rattle.std.specs.Prelude.{List, [], ◌∷◌}
use Prim.Native.String.{String}
use Rattle.drive.specs.Syringe.{step_volume}
use Rattle.figures.specs.Rows.{Row, comes_to, prints, talks, dispenses, visits_phase}

-- ---- the programs of f, h, i and l. D is 10,000 at power-up; 200.0 MH is a usable rate
-- the least volume at a diameter
abbrev pub least_volume : String → List String
least_volume diameter = "" ∷ diameter ∷ "RAT200.0MH" ∷ "VOL0.001" ∷ "RUN" ∷ []

unfoldable pub in_microlitres : List String
in_microlitres = least_volume "DIA14.00"

unfoldable pub in_millilitres : List String
in_millilitres = least_volume "DIA14.01"

abbrev pub dosing : String → List String
dosing volume = "" ∷ "RAT200.0MH" ∷ volume ∷ "RUN" ∷ []

unfoldable pub too_little : List String
too_little = dosing "VOL0.019"

unfoldable pub just_enough : List String
just_enough = dosing "VOL0.020"

unfoldable pub microlitre : List String
microlitre = dosing "VOL1.000"

-- LPS, LPS, PAS 1, LOP 60, LOP 24 in phases 1 to 5; phase 6 is STP since power-up
unfoldable pub nested : List String
nested =
    ""
    ∷ "FUNLPS"
    ∷ "PHN2"
    ∷ "FUNLPS"
    ∷ "PHN3"
    ∷ "FUNPAS1"
    ∷ "PHN4"
    ∷ "FUNLOP60"
    ∷ "PHN5"
    ∷ "FUNLOP24"
    ∷ "RUN"
    ∷ []

-- ---- the rows
unfoldable pub figures : List Row
figures =
    -- a. D 100: v 1,963. b. D 10,000: 19,635,000. c. D 50,000: 490,875,000
    comes_to "a" 1_963 (step_volume (record { diameter = 100 }))
    ∷ comes_to "b" 19_635_000 (step_volume (record { diameter = 10_000 }))
    ∷ comes_to "c" 490_875_000 (step_volume (record { diameter = 50_000 }))
    -- d. `DIA0.099` is `?OOR`; `0.1` accepted: the query gives the old value, and the new one
    ∷ talks "d" (("", "00A?R") ∷ ("DIA0.099", "00S?OOR") ∷ ("DIA", "00S10.00") ∷ [])
    ∷ talks "d" (("", "00A?R") ∷ ("DIA0.1", "00S") ∷ ("DIA", "00S0.100") ∷ [])
    -- e. `50.01` is `?OOR`, and 50.00 accepted
    ∷ talks "e" (("", "00A?R") ∷ ("DIA50.01", "00S?OOR") ∷ ("DIA", "00S10.00") ∷ [])
    ∷ talks "e" (("", "00A?R") ∷ ("DIA50.00", "00S") ∷ ("DIA", "00S50.00") ∷ [])
    -- f. 14.00 is UL, 14.01 is ML: the query of the volume, which is 0 at power-up, adds its unit
    ∷ talks "f" (("", "00A?R") ∷ ("DIA14.00", "00S") ∷ ("VOL", "00S0.000UL") ∷ [])
    ∷ talks "f" (("", "00A?R") ∷ ("DIA14.01", "00S") ∷ ("VOL", "00S0.000ML") ∷ [])
    -- and a thousandth of the one, 10^6 fl, holds no step; of the other, 10^9 fl, 25: v is 38,484,600 and 38,539,597
    ∷ dispenses "f" in_microlitres 1 0
    ∷ dispenses "f" in_millilitres 19 25
    -- g. D 10,000: RAT `282.7MH` accepted, `282.8MH` `?OOR`
    ∷ talks "g" (("", "00A?R") ∷ ("RAT282.7MH", "00S") ∷ ("RAT", "00S282.7MH") ∷ [])
    ∷ talks "g" (("", "00A?R") ∷ ("RAT282.8MH", "00S?OOR") ∷ ("RAT", "00S0.000MH") ∷ [])
    -- h. D 10,000, VOL 0.019: 0 steps; 0.020: 1. The first visit ends at entry, in tick 1, the second in tick 2
    ∷ dispenses "h" too_little 1 0
    ∷ dispenses "h" just_enough 2 1
    -- i. VOL 1.000: 50. It ends in tick 19
    ∷ dispenses "i" microlitre 19 50
    -- j. 9,999 thousandths print `9.999`, 10,000 `10.00`. k. 99,999 print `99.99`
    ∷ prints "j" 9_999 "9.999"
    ∷ prints "j" 10_000 "10.00"
    ∷ prints "k" 99_999 "99.99"
    -- l. LPS, LPS, PAS 1, LOP 60, LOP 24: the pause is entered 1,440 times. It has stopped after 1 + 24 x (1 + 60 x 1,002 + 1) + 1 ticks
    ∷ visits_phase "l" 3 nested 1_442_930 1_440
    ∷ []
