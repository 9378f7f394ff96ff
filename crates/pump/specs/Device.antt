-- All of the state but the phases: what an edge and a whole text do to it, with the phases looked up for it.   (01, Line and answer: the
-- checks in order; Calls; 02, 2/12)
use Rattle.std.specs.Prelude.{ℕ, Bool, ◌||◌, not, List, [], ◌∷◌, leb, eqb, if◌then◌else◌, Option, Some, None}
use Rattle.base.specs.All.{all}
use Rattle.drive.specs.declared.directions.Direction.{Direction}
use Rattle.words.specs.declared.answers.Reply.{Reply}
use Rattle.words.specs.declared.answers.Reply.TheVariants as reply
use Rattle.words.specs.declared.answers.Said.{Said}
use Rattle.words.specs.declared.answers.Said.TheVariants as s
use Rattle.words.specs.declared.answers.Alarm.{Alarm}
use Rattle.words.specs.declared.commands.Asked.{Asked}
use Rattle.words.specs.declared.commands.Command.{Command}
use Rattle.words.specs.declared.commands.Request.{Request}
use Rattle.words.specs.declared.commands.Request.TheVariants as request
use Rattle.words.specs.declared.functions.Function.{Function}
use Rattle.words.specs.declared.phases.Phase.{Phase}
use Rattle.program.specs.Cores.{power_up_core, with_run}
use Rattle.program.specs.Edges.{pin_two, pin_four, pin_six}
use Rattle.program.specs.Runs.{pending, clear_alarm}
use Rattle.program.specs.Sound.{is_sound_core}
use Rattle.program.specs.Statuses.{status_run}
use Rattle.program.specs.declared.state.Core.{Core}
use Rattle.command.specs.Obeying.{obey}
use Rattle.command.specs.declared.obeying.Edit.{Edit}
use Rattle.command.specs.declared.obeying.Edit.TheVariants.{Keep, Write, Renew}
use Rattle.command.specs.declared.obeying.Obeyed.{Obeyed}
use Rattle.line.specs.Lines.{empty_line, is_sound_line}
use Rattle.line.specs.declared.lines.Line.{Line}
use Rattle.link.specs.Link.{basic_link, limited_to, limit_of, is_safe, is_sound_link}
use Rattle.link.specs.declared.Link.{Link}
use Rattle.pump.specs.declared.device.Device.{Device}
use Rattle.pump.specs.declared.device.Heard.{Heard}
use Rattle.pump.specs.declared.device.Told.{Told}
use Rattle.pump.specs.declared.device.Told.TheVariants as told

-- ---- one part replaced
abbrev pub with_core : Device → Core → Device
with_core v x = record { core = x; line = v.line; link = v.link }

abbrev pub with_line : Device → Line → Device
with_line v x = record { core = v.core; line = x; link = v.link }

abbrev pub with_link : Device → Link → Device
with_link v x = record { core = v.core; line = v.line; link = x }

-- ---- power-up: the line empty, Basic mode
abbrev pub power_up_device : Device
power_up_device = record { core = power_up_core; line = empty_line; link = basic_link }

-- ---- sound: the core with its current phase, the line, the link; and in Safe mode, where no line is collected, the line is empty
abbrev pub is_line_apart : Device → Bool
is_line_apart v = not (is_safe v.link) || eqb v.line.len 0

abbrev pub device_tests : ℕ → Device → Phase → List Bool
device_tests phases v current = is_sound_core phases v.core current ∷ is_sound_line v.line ∷ is_sound_link v.link ∷ is_line_apart v ∷ []

unfoldable pub is_sound_device : ℕ → Device → Phase → Bool
is_sound_device phases v current = all (device_tests phases v current)

-- ---- a level of pin 2, 4 or 6
abbrev pub edge_of : Core → ℕ → Bool → Core
edge_of s pin high = if eqb pin 2 then pin_two s high else if eqb pin 4 then pin_four s high else pin_six s high

unfoldable pub edge : Device → ℕ → Bool → Device
edge v pin high = with_core v (edge_of v.core pin high)

-- ---- a reply that changes no phase
abbrev pub replied : Device → Reply → Heard
replied v r = record { device = v; edit = Keep; told = told.Reply r }

-- ---- SAF n: a limit of 0 to 255 seconds, in every state of the pump; 0 returns to Basic mode   (02, 2/12)
unfoldable pub set_limit : Device → ℕ → Heard
set_limit v n = if leb n 255 then replied (with_link v (limited_to n)) reply.Status else replied v reply.OutOfRange

-- ---- a command of the pump: the phase in hand, and the function of the phase one number higher. *RESET, which alone asks for all phases
-- as at power-up, returns to Basic mode too   (02, 2/12: "0 and *RESET return to Basic")
abbrev pub link_behind : Edit → Link → Link
link_behind Keep l = l
link_behind (Write x) l = l
link_behind Renew l = basic_link

abbrev pub obeyed_with : Device → Obeyed → Heard
obeyed_with v o =
    record {
      device = record { core = o.core; line = v.line; link = link_behind o.edit v.link };
      edit = o.edit;
      told = told.Reply o.reply;
    }

unfoldable pub obeyed : Device → Command → Phase → Function → ℕ → Heard
obeyed v command hand next phases = obeyed_with v (obey v.core hand next phases command)

-- ---- what is asked of the link, and what of the pump
abbrev pub met : Device → Request → Phase → Function → ℕ → Heard
met v request.AskLimit hand next phases = replied v (reply.Limit (limit_of v.link))
met v (request.SetLimit n) hand next phases = set_limit v n
met v (request.Pump command) hand next phases = obeyed v command hand next phases

-- ---- a pending alarm is answered, then cleared, and the command is not run
abbrev pub ours_by : Device → Request → Phase → Function → ℕ → Option Alarm → Heard
ours_by v request hand next phases (Some a) =
    record { device = with_core v (with_run v.core (clear_alarm v.core.run)); edit = Keep; told = told.Alarm a }
ours_by v request hand next phases None = met v request hand next phases

unfoldable pub ours : Device → Request → Phase → Function → ℕ → Heard
ours v request hand next phases = ours_by v request hand next phases (pending v.core.run)

-- ---- a text, whatever framed it: zero is ours; another address gets no answer and changes nothing
unfoldable pub hear_text : Device → Asked → Phase → Function → ℕ → Heard
hear_text v asked hand next phases =
    if eqb asked.address 0
    then ours v asked.request hand next phases
    else record { device = v; edit = Keep; told = told.Nothing }

-- ---- the answer has the status after the command, by the direction of the phase that is then the current one
abbrev pub said : Device → Told → Direction → Said
said v told.Nothing way = s.Nothing
said v (told.Alarm a) way = s.Alarm a
said v (told.Reply r) way = s.Answer (status_run v.core.run way) r
