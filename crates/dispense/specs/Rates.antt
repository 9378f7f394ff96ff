-- The current rate.   (01, Ticks and phases, RAT, INC, DEC; Calls)
use Rattle.std.specs.Prelude.{ℕ, ◌+◌, ◌-◌, Bool, false, leb, if◌then◌else◌, Option, Some, None}
use Rattle.drive.specs.Rates.{is_usable, most_rate}
use Rattle.drive.specs.declared.syringe.Syringe.{Syringe}
use Rattle.dispense.specs.declared.rates.Rate.{Rate}

-- the thousandths of a current rate, 0 where there is none
abbrev pub thousandths : Option Rate → ℕ
thousandths None = 0
thousandths (Some r) = r.thousandths

-- INC and DEC: the stored thousandths added to the current rate or taken from it, in its units; none current, or a result over
-- 9,999.000, is no rate; below 0 it is 0, which is not usable
abbrev pub increase : Option Rate → ℕ → Option Rate
increase None x = None
increase (Some r) x =
    if leb (r.thousandths + x) most_rate then Some (record { unit = r.unit; thousandths = r.thousandths + x }) else None

abbrev pub decrease : Option Rate → ℕ → Option Rate
decrease None x = None
decrease (Some r) x = Some (record { unit = r.unit; thousandths = r.thousandths - x })

-- a visit under way has a usable rate
abbrev pub is_usable_rate : Syringe → Option Rate → Bool
is_usable_rate y None = false
is_usable_rate y (Some r) = is_usable y r.thousandths r.unit
