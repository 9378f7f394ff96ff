-- One command, with the phase in hand, the function of the phase one number higher, and the number of phases: the next core, what is
-- to be done to the table of phases, and the reply.   (01, Commands)
use Rattle.std.specs.Prelude.{ℕ, Option, unwrap_or, Result, Ok, Err, ⊤, if◌then◌else◌, Some, None}
use Rattle.drive.specs.Directions.{reverse}
use Rattle.drive.specs.declared.directions.Direction.{Direction}
use Rattle.drive.specs.declared.rates.RateUnit.{RateUnit}
use Rattle.words.specs.Answers.{declined}
use Rattle.words.specs.declared.answers.Declined.{Declined}
use Rattle.words.specs.declared.answers.Reply.{Reply}
use Rattle.words.specs.declared.answers.Reply.TheVariants as reply
use Rattle.words.specs.declared.commands.Command.{Command}
use Rattle.words.specs.declared.commands.Command.TheVariants as c
use Rattle.words.specs.declared.functions.Function.{Function}
use Rattle.words.specs.declared.phases.Phase.{Phase}
use Rattle.dispense.specs.Ledgers as ledgers
use Rattle.dispense.specs.declared.rates.Rate.{Rate}
use Rattle.program.specs.Control.{run_on, run_from, stop_now}
use Rattle.program.specs.Cores.{with_run, with_ledger, with_syringe, with_chosen, reset_core}
use Rattle.program.specs.Runs.{with_rate, stop, is_operating}
use Rattle.program.specs.declared.state.Core.{Core}
use Rattle.program.specs.declared.state.Mode.{Mode}
use Rattle.program.specs.declared.state.Mode.TheVariants.{Stopped, Paused, Running}
use Rattle.program.specs.declared.state.Run.{Run}
use Rattle.command.specs.Judging as judging
use Rattle.command.specs.Phases.{with_stored, with_volume, with_direction, with_function}
use Rattle.command.specs.Queries.{ask_rate, ask_volume, ask_phase, ask_totals}
use Rattle.command.specs.declared.obeying.Edit.{Edit}
use Rattle.command.specs.declared.obeying.Edit.TheVariants.{Keep, Write, Renew}
use Rattle.command.specs.declared.obeying.Obeyed.{Obeyed}

-- ---- a reply, and nothing changed
abbrev pub answer : Core → Reply → Obeyed
answer s r = record { core = s; edit = Keep; reply = r }

-- RUN and STP concern the program under way alone; what is declined is told, and changes nothing
abbrev pub steer : Core → Result Run Declined → Obeyed
steer s (Ok r) = answer (with_run s r) reply.Status
steer s (Err why) = answer s (declined why)

-- ---- what is accepted changes the core and may edit the phases; what is not is told, and changes nothing
abbrev pub decide : Core → Core → Edit → Result ⊤ Declined → Obeyed
decide s after edit (Ok x) = record { core = after; edit = edit; reply = reply.Status }
decide s after edit (Err why) = answer s (declined why)

-- an accepted setting of DIA, RAT, VOL, DIR or FUN while paused makes the pump stopped
abbrev pub settle_by : Run → Mode → Run
settle_by r (Stopped alarm) = r
settle_by r Paused = stop r
settle_by r Running = r

unfoldable pub settle : Run → Run
settle r = settle_by r r.mode

-- VOL, DIR and FUN: the phase in hand as the setting makes it
abbrev pub set_phase_to : Core → Phase → Result ⊤ Declined → Obeyed
set_phase_to s p verdict = decide s (with_run s (settle s.run)) (Write p) verdict

abbrev pub set_volume : Core → Phase → ℕ → Obeyed
set_volume s p x = set_phase_to s (with_volume p x) (judging.judge_volume (is_operating s.run) p)

abbrev pub set_direction : Core → Phase → Direction → Obeyed
set_direction s p way = set_phase_to s (with_direction p way) (judging.judge_direction (is_operating s.run) p)

abbrev pub set_function : Core → Phase → Function → ℕ → Obeyed
set_function s p g phases = set_phase_to s (with_function p g) (judging.judge_function (is_operating s.run) g phases)

-- ---- DIA zeroes nothing
unfoldable pub set_diameter : Core → ℕ → Obeyed
set_diameter s x =
    decide s (with_syringe (with_run s (settle s.run)) (record { diameter = x })) Keep (judging.judge_diameter (is_operating s.run) x)

-- ---- RAT: while operating it alters the current rate alone, in its units; the time store and the stored rate stay
abbrev pub tune_by : Run → ℕ → Option Rate → Run
tune_by r x None = r
tune_by r x (Some old) = with_rate r (Some (record { unit = old.unit; thousandths = x }))

unfoldable pub tune : Run → ℕ → Run
tune r x = tune_by r x r.rate

unfoldable pub set_rate : Core → Phase → Function → ℕ → Option RateUnit → Obeyed
set_rate s p next x units =
    if is_operating s.run
    then decide s (with_run s (tune s.run x)) Keep (judging.judge_tuning s.run s.syringe p next x units)
    else
    set_phase_to s (with_stored p x (unwrap_or units p.unit)) (judging.judge_stored s.syringe p x units)

-- ---- PHN keeps a pause
unfoldable pub choose : Core → ℕ → ℕ → Obeyed
choose s n phases = decide s (with_chosen s n) Keep (judging.judge_phase (is_operating s.run) n phases)

-- ---- CLD clears that total, and keeps a pause
unfoldable pub clear_total : Core → Direction → Obeyed
clear_total s way = decide s (with_ledger s (ledgers.clear s.ledger way)) Keep (judging.judge_idle (is_operating s.run))

-- ---- *RESET: the power-up state, all phases included
abbrev pub reset : Core → Obeyed
reset s = record { core = reset_core s; edit = Renew; reply = reply.Status }

-- ---- each command
abbrev pub obey : Core → Phase → Function → ℕ → Command → Obeyed
obey s p next phases c.Malformed = answer s reply.Malformed
obey s p next phases c.Status = answer s reply.Status
obey s p next phases c.AskDiameter = answer s (reply.Number s.syringe.diameter)
obey s p next phases (c.SetDiameter x) = set_diameter s x
obey s p next phases c.AskRate = answer s (ask_rate s.run p)
obey s p next phases (c.SetRate x units) = set_rate s p next x units
obey s p next phases c.AskVolume = answer s (ask_volume s.syringe p)
obey s p next phases (c.SetVolume x) = set_volume s p x
obey s p next phases c.AskDirection = answer s (reply.Direction p.direction)
obey s p next phases (c.SetDirection way) = set_direction s p way
obey s p next phases c.Reverse = set_direction s p (reverse p.direction)
obey s p next phases c.AskPhase = answer s (ask_phase s.run s.chosen phases)
obey s p next phases (c.SetPhase n) = choose s n phases
obey s p next phases c.AskFunction = answer s (reply.Function p.function)
obey s p next phases (c.SetFunction g) = set_function s p g phases
obey s p next phases c.Run = steer s (run_on s.run)
obey s p next phases (c.RunFrom n) = steer s (run_from s.run n phases)
obey s p next phases c.Stop = steer s (stop_now s.run)
obey s p next phases c.AskDispensed = answer s (ask_totals s.ledger s.syringe)
obey s p next phases (c.Clear way) = clear_total s way
obey s p next phases c.Reset = reset s
