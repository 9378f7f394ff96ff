-- A tick of the device: that of the core, by the rules of the phases, and that of the link; and the alarm that it raises, which Safe mode
-- sends. The same of several ticks, the last of which may raise one.   (02, 2/12)
use Rattle.std.specs.Prelude.{ℕ, Bool, ◌&&◌, not, ltb, eqb, if◌then◌else◌, Option, Some, None, is_some}
use Rattle.words.specs.declared.answers.Alarm.{Alarm}
use Rattle.words.specs.declared.answers.Alarm.TheVariants.{TimeOut}
use Rattle.words.specs.declared.answers.Said.{Said}
use Rattle.words.specs.declared.answers.Said.TheVariants as said
use Rattle.program.specs.Cores.{with_run}
use Rattle.program.specs.Runs.{pending, raise}
use Rattle.program.specs.declared.state.Core.{Core}
use Rattle.link.specs.Link.{is_safe, ticks_left, fires, link_tick, link_ticks}
use Rattle.link.specs.declared.Link.{Link}
use Rattle.pump.specs.declared.device.Device.{Device}

-- an alarm is new that is pending behind a tick and was not before it; only a tick that moves the program raises one, and only where none
-- is pending
abbrev pub new_alarm : Option Alarm → Option Alarm → Option Alarm
new_alarm None behind = behind
new_alarm (Some a) behind = None

abbrev pub is_alarmed : Core → Bool
is_alarmed s = is_some (pending s.run)

-- alarm T stops the pump, as every alarm does, and takes the place of one that is pending, even of one of that tick
abbrev pub time_out : Core → Core
time_out s = with_run s (raise s.run TimeOut)

abbrev pub alarm_said : Option Alarm → Said
alarm_said None = said.Nothing
alarm_said (Some a) = said.Alarm a

-- ---- one tick, with the core as the phases' rules leave it: first that work, then the time limit
unfoldable pub after_tick : Device → Core → Device
after_tick v s = record { core = if fires v.link then time_out s else s; line = v.line; link = link_tick v.link }

-- what it sends: in Safe mode the alarm that it raised, one alone
unfoldable pub sent : Device → Core → Said
sent v s =
    if is_safe v.link
    then alarm_said (if fires v.link then Some TimeOut else new_alarm (pending v.core.run) (pending s.run))
    else said.Nothing

-- ---- so many ticks at once, of which only the last may raise an alarm: that is what a call of many ticks comes to
abbrev pub is_due : ℕ → Link → Bool
is_due n l = ltb 0 n && eqb n (ticks_left l)

-- how many of n ticks there are up to that one; and whether an alarm of the program would be sent
abbrev pub reach : ℕ → Link → ℕ
reach n l = if ltb 0 (ticks_left l) && ltb (ticks_left l) n then ticks_left l else n

abbrev pub is_watched : Device → Bool
is_watched v = is_safe v.link && not (is_alarmed v.core)

unfoldable pub after_ticks : ℕ → Device → Core → Device
after_ticks n v s = record { core = if is_due n v.link then time_out s else s; line = v.line; link = link_ticks n v.link }

unfoldable pub sent_in : ℕ → Device → Core → Said
sent_in n v s =
    if is_safe v.link
    then alarm_said (if is_due n v.link then Some TimeOut else new_alarm (pending v.core.run) (pending s.run))
    else said.Nothing
