-- The pump under test: what each act does to it, and what is printed.   (01, Marked figures: the bench program; docs/DECISIONS.md, 29)
use Rattle.std.specs.Prelude.{ℕ, Bool, true, false, List, [], ◌∷◌, ◌++◌, eqb, if◌then◌else◌}
use Rattle.pump.specs.Calls.{byte_report, byte_buffer, pin_call}
use Rattle.pump.specs.Holder.{model_phases, fresh_pump}
use Rattle.pump.specs.Reports.{is_refused}
use Rattle.pump.specs.declared.holder.Pump.{Pump}
use Rattle.pump.specs.declared.reports.Report.{Report}
use Rattle.script.specs.Places.{carriage_return, newline}
use Rattle.player.specs.Elapsing.{zeros, elapsed}
use Rattle.player.specs.Printing.{complaint_line, unframed, counts_line}
use Rattle.script.specs.declared.places.Act.{Act}
use Rattle.script.specs.declared.places.Act.TheVariants.{Wait, Send, Finish, Set, Run, Complain}
use Rattle.player.specs.declared.rigs.Rig.{Rig}

-- a pump just switched on, and no text yet
abbrev pub fresh_rig : Rig
fresh_rig = record { pump = fresh_pump model_phases; replied = false }

-- another pump in the rig
abbrev pub with_pump : Rig → Pump → Rig
with_pump g p = record { pump = p; replied = g.replied }

-- ---- a byte call: its report, and the buffer that it writes its answer to
unfoldable pub report_on : Pump → ℕ → Report
report_on p b = byte_report p b zeros

unfoldable pub buffer_on : Pump → ℕ → List ℕ
buffer_on p b = byte_buffer p b zeros

-- each answer is a line of its own; a refused call prints `!`
unfoldable pub answer_line : Report → List ℕ → List ℕ
answer_line r buffer =
    if is_refused r.refusal
    then complaint_line
    else if eqb r.length 0 then [] else unframed r.length buffer ++ (newline ∷ [])

-- ---- one byte sent
unfoldable pub sent_rig : Rig → ℕ → Rig
sent_rig g b =
    record {
      pump = (report_on g.pump b).pump;
      replied =
          if is_refused (report_on g.pump b).refusal
          then true
          else if eqb (report_on g.pump b).length 0 then g.replied else true;
    }

unfoldable pub sent_line : Rig → ℕ → List ℕ
sent_line g b = answer_line (report_on g.pump b) (buffer_on g.pump b)

-- ---- a byte of a text, behind the return that was held back
unfoldable pub send_rig : Rig → Bool → ℕ → Rig
send_rig g held b = if held then sent_rig (sent_rig g carriage_return) b else sent_rig g b

unfoldable pub send_lines : Rig → Bool → ℕ → List ℕ
send_lines g held b = if held then sent_line g carriage_return ++ sent_line (sent_rig g carriage_return) b else sent_line g b

-- ---- `>` and a text sends it with a return; an empty line if no answer
unfoldable pub finish_rig : Rig → Bool → Rig
finish_rig g held = record { pump = (send_rig g held carriage_return).pump; replied = false }

unfoldable pub finish_lines : Rig → Bool → List ℕ
finish_lines g held =
    send_lines g held carriage_return ++ (if (send_rig g held carriage_return).replied then [] else newline ∷ [])

-- ---- `E pin level` sets a pin, printing nothing; a refused call prints `!`
unfoldable pub set_rig : Rig → ℕ → ℕ → Rig
set_rig g pin level = with_pump g (pin_call g.pump pin level).pump

unfoldable pub set_lines : Rig → ℕ → ℕ → List ℕ
set_lines g pin level = if is_refused (pin_call g.pump pin level).refusal then complaint_line else []

-- ---- `T n`: n ticks and the counts of their steps; ticks are refused where the state is not sound
unfoldable pub run_rig : Rig → ℕ → Rig
run_rig g n = with_pump g (elapsed n g.pump).pump

unfoldable pub run_lines : Rig → ℕ → List ℕ
run_lines g n =
    if (elapsed n g.pump).refused
    then complaint_line
    else counts_line n (elapsed n g.pump).infused (elapsed n g.pump).withdrawn

-- ---- every act: the rig after it, and what it prints
abbrev pub rig_after : Rig → Act → Rig
rig_after g Wait = g
rig_after g (Send held b) = send_rig g held b
rig_after g (Finish held) = finish_rig g held
rig_after g (Set pin level) = set_rig g pin level
rig_after g (Run n) = run_rig g n
rig_after g Complain = g

abbrev pub printed : Rig → Act → List ℕ
printed g Wait = []
printed g (Send held b) = send_lines g held b
printed g (Finish held) = finish_lines g held
printed g (Set pin level) = set_lines g pin level
printed g (Run n) = run_lines g n
printed g Complain = complaint_line
