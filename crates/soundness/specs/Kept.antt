-- A core, and a program under way, that are sound in a table of phases, which is given by what stands at each number.   (01, Calls)
use Rattle.std.specs.Prelude.{ℕ, ◌≤◌, ◌≡◌, true, eqb, if◌then◌else◌}
use Rattle.drive.specs.declared.syringe.Syringe.{Syringe}
use Rattle.words.specs.Phases.{is_sound_phase}
use Rattle.words.specs.declared.phases.Phase.{Phase}
use Rattle.program.specs.Sound.{is_sound_core, is_sound_run, is_sound_work}
use Rattle.program.specs.Statuses.{in_hand}
use Rattle.program.specs.declared.state.Core.{Core}
use Rattle.program.specs.declared.state.Run.{Run}
use Rattle.command.specs.declared.obeying.Edit.{Edit}
use Rattle.command.specs.declared.obeying.Edit.TheVariants.{Keep, Write, Renew}
use Rattle.command.specs.declared.obeying.Obeyed.{Obeyed}

-- sound, with the current phase looked up
abbrev pub Kept : ℕ → (ℕ → Phase) → Core → Type 0
Kept phases look s = is_sound_core phases s (look s.run.place.current) ≡ true

-- the program under way alone, with its syringe
abbrev pub KeptRun : ℕ → (ℕ → Phase) → Syringe → Run → Type 0
KeptRun phases look y r =
    (is_sound_run phases r ≡ true) × (is_sound_work y (look r.place.current) r.rate r.place.work ≡ true)

-- the table with another phase at one number
abbrev pub table_with : (ℕ → Phase) → ℕ → Phase → ℕ → Phase
table_with look k p n = if eqb n k then p else look n

-- what a command must leave sound, by what it asks to be done to the phases: with nothing, the core among them; with another phase in
-- hand, that phase, which is not past the last, and the core among the phases as they then are; with all anew, the core in any phase
abbrev pub WellBy : ℕ → (ℕ → Phase) → Core → Core → Edit → Type 0
WellBy phases look s after Keep = Kept phases look after
WellBy phases look s after (Write p) =
    (is_sound_phase phases p ≡ true) × (in_hand s ≤ phases) × Kept phases (table_with look (in_hand s) p) after
WellBy phases look s after Renew = (p : Phase) → is_sound_core phases after p ≡ true

abbrev pub Well : ℕ → (ℕ → Phase) → Core → Obeyed → Type 0
Well phases look s o = WellBy phases look s o.core o.edit
