-- What a query answers. The phase in hand is the running one while operating, else the chosen one.   (01, Commands: the queries)
use Rattle.std.specs.Prelude.{ℕ, ◌/◌, ◌&&◌, leb, ltb, if◌then◌else◌, Option, Some, None}
use Rattle.drive.specs.Syringe.{volume_unit, thousandth}
use Rattle.drive.specs.declared.syringe.Syringe.{Syringe}
use Rattle.words.specs.Functions.{is_flow, is_ramp, is_rate_phase}
use Rattle.words.specs.declared.answers.Reply.{Reply}
use Rattle.words.specs.declared.answers.Reply.TheVariants as reply
use Rattle.words.specs.declared.phases.Phase.{Phase}
use Rattle.dispense.specs.declared.ledgers.Ledger.{Ledger}
use Rattle.dispense.specs.declared.rates.Rate.{Rate}
use Rattle.program.specs.Runs.{is_operating}
use Rattle.program.specs.declared.state.Run.{Run}

-- ---- RAT: while operating, in any phase, the current rate and its units; else the stored rate of a rate phase, with units if RAT
abbrev pub current_rate : Option Rate → Reply
current_rate None = reply.NotApplicable
current_rate (Some x) = reply.Rate x.thousandths x.unit

unfoldable pub stored_rate : Phase → Reply
stored_rate p =
    if is_flow p.function
    then reply.Rate p.rate p.unit
    else if is_ramp p.function
    then reply.Number p.rate
    else reply.NotApplicable

unfoldable pub ask_rate : Run → Phase → Reply
ask_rate r p = if is_operating r then current_rate r.rate else stored_rate p

-- ---- VOL: in rate phases only; the query adds the unit
unfoldable pub ask_volume : Syringe → Phase → Reply
ask_volume x p = if is_rate_phase p.function then reply.Volume p.volume (volume_unit x) else reply.NotApplicable

-- ---- PHN: the chosen phase, while operating the running one; past the last phase it does not apply
unfoldable pub ask_phase : Run → ℕ → ℕ → Reply
ask_phase r chosen phases =
    if is_operating r
    then if leb r.place.current phases then reply.Phase r.place.current else reply.NotApplicable
    else reply.Phase chosen

-- ---- DIS: both totals in thousandths of the unit, cut off; out of range if either is 10,000 units or more
abbrev pub in_units : Syringe → ℕ → ℕ
in_units x fl = fl / thousandth (volume_unit x)

unfoldable pub ask_totals : Ledger → Syringe → Reply
ask_totals l x =
    if ltb (in_units x l.totals.infused) 10_000_000 && ltb (in_units x l.totals.withdrawn) 10_000_000
    then reply.Totals (in_units x l.totals.infused) (in_units x l.totals.withdrawn) (volume_unit x)
    else reply.OutOfRange
