-- Whether a setting is accepted: first whether it applies now, then whether its data are in range.   (01, Commands; Line and answer:
-- "Checks in order")
use Rattle.std.specs.Prelude.{ℕ, Bool, ◌&&◌, not, ltb, eqb, Option, is_none, unwrap_or, Result, Ok, Err, ⊤, if◌then◌else◌, true, false, Some, None}
use Rattle.drive.specs.Rates.{is_usable}
use Rattle.drive.specs.Syringe.{is_diameter}
use Rattle.drive.specs.declared.rates.RateUnit.{RateUnit}
use Rattle.drive.specs.declared.syringe.Syringe.{Syringe}
use Rattle.words.specs.Functions.{fits, is_phase, is_flow, is_ramp, is_rate_phase}
use Rattle.words.specs.declared.answers.Declined.{Declined}
use Rattle.words.specs.declared.answers.Declined.TheVariants.{NotApplicable, OutOfRange}
use Rattle.words.specs.declared.functions.Function.{Function}
use Rattle.words.specs.declared.phases.Phase.{Phase}
use Rattle.dispense.specs.declared.rates.Rate.{Rate}
use Rattle.program.specs.Runs.{is_visiting}
use Rattle.program.specs.declared.state.Run.{Run}

abbrev pub if_in_range : Bool → Result ⊤ Declined
if_in_range fits = if fits then Ok tt else Err OutOfRange

-- ---- CLD: not while operating
unfoldable pub judge_idle : Bool → Result ⊤ Declined
judge_idle operating = if operating then Err NotApplicable else Ok tt

-- ---- DIA: not while operating; 0.1 to 50 mm
unfoldable pub judge_diameter : Bool → ℕ → Result ⊤ Declined
judge_diameter operating x = if operating then Err NotApplicable else if_in_range (is_diameter x)

-- ---- RAT: without units the phase's own stay
-- not operating: RAT, INC and DEC only; for RAT the rate must be usable, which zero is not; for INC and DEC units do not apply, and any
-- number but zero is in range
unfoldable pub judge_stored : Syringe → Phase → ℕ → Option RateUnit → Result ⊤ Declined
judge_stored y p x units =
    if is_flow p.function
    then if_in_range (is_usable y x (unwrap_or units p.unit))
    else if is_ramp p.function && is_none units
    then if_in_range (ltb 0 x)
    else Err NotApplicable

-- while operating: only an entered RAT phase under way, the next phase number not INC or DEC, no units; in the units of the current rate
abbrev pub judge_rate : Syringe → ℕ → Option Rate → Result ⊤ Declined
judge_rate y x None = Err NotApplicable
judge_rate y x (Some r) = if_in_range (is_usable y x r.unit)

unfoldable pub judge_tuning : Run → Syringe → Phase → Function → ℕ → Option RateUnit → Result ⊤ Declined
judge_tuning r y p next x units =
    if is_flow p.function && is_visiting r.place.work && not (is_ramp next) && is_none units
    then judge_rate y x r.rate
    else Err NotApplicable

-- ---- VOL: rate phases only, not while operating; every number is in range
unfoldable pub judge_volume : Bool → Phase → Result ⊤ Declined
judge_volume operating p = if is_rate_phase p.function && not operating then Ok tt else Err NotApplicable

-- ---- DIR: while operating only a rate phase of volume 0, otherwise any phase
unfoldable pub judge_direction : Bool → Phase → Result ⊤ Declined
judge_direction operating p =
    if operating && not (is_rate_phase p.function && eqb p.volume 0) then Err NotApplicable else Ok tt

-- ---- PHN: not while operating; a phase of the pump
unfoldable pub judge_phase : Bool → ℕ → ℕ → Result ⊤ Declined
judge_phase operating n phases = if operating then Err NotApplicable else if_in_range (is_phase phases n)

-- ---- FUN: not while operating; the datum in its range
unfoldable pub judge_function : Bool → Function → ℕ → Result ⊤ Declined
judge_function operating g phases = if operating then Err NotApplicable else if_in_range (fits phases g)
