-- From power-up on, whatever calls come, for each number of phases that a model may have:
--     phases_after    there are as many phases as there were, whatever their number
--     whole_after     the state is whole; sound_after: so it is sound
--     never_unsound   and no call is refused with 4, because it is not sound
-- Assumes nothing.
use Rattle.std.specs.Prelude.{if◌then◌else◌}
use Prim.Native.Nat.{ℕ, ◌-◌, ◌≤◌}
use mathlib.Core.Path.{◌≡◌, refl, sym, ap, ◌∙◌, subst}
use mathlib.Core.Bool.{Bool, true, false, ◌||◌, not}
use mathlib.Core.List.{List, [], ◌∷◌}
use native.Mathlib.Omega.{arith}
use lib.Dec.{leb, eqb}
use lib.ListN.{length, take, set, length-set}
use borrow.Author.Tests.{le-leb}
use Rattle.base.proofs.Each.{and_both}
use Rattle.decimal.specs.Writable.{is_writable}
use Rattle.words.specs.Commands.{amount}
use Rattle.words.specs.Functions.{is_phase}
use Rattle.words.specs.Phases.{is_sound_phase}
use Rattle.words.specs.declared.answers.Said.{Said}
use Rattle.words.specs.declared.answers.Said.TheVariants as said
use Rattle.words.specs.declared.commands.Asked.{Asked}
use Rattle.words.specs.declared.commands.Command.{Command}
use Rattle.words.specs.declared.commands.Command.TheVariants as c
use Rattle.words.specs.declared.commands.Request.TheVariants as request
use Rattle.words.specs.declared.phases.Phase.{Phase}
use Rattle.program.specs.Runs.{is_operating}
use Rattle.program.specs.Sound.{Table, is_sound_core}
use Rattle.program.specs.Statuses.{in_hand}
use Rattle.program.specs.declared.state.Core.{Core}
use Rattle.program.proofs.Parts.{CoreClauses, core_clauses, run_clauses}
use Rattle.command.specs.declared.obeying.Edit.{Edit}
use Rattle.command.specs.declared.obeying.Edit.TheVariants.{Keep, Write, Renew}
use Rattle.soundness.specs.Kept as kept
use Rattle.soundness.specs.Kept.{Kept, WellBy}
use Rattle.soundness.proofs.Ticks.{kept_tick}
use Rattle.soundness.proofs.Edges.{kept_pin_two, kept_pin_four, kept_pin_six, kept_clear_alarm}
use Rattle.soundness.proofs.Commands.{kept_obey}
use Rattle.line.specs.Addresses.{unaddressed}
use Rattle.line.specs.Lines.{empty_line, after_byte}
use Rattle.line.specs.Requests.{request_of, asked_in, asked_of}
use Rattle.line.specs.declared.lines.Line.{Line}
use Rattle.line.proofs.Theorems.{byte_sound, places_kept, empty_sound, line_sendable, request_sendable}
use Rattle.link.specs.Link.{is_safe, is_sound_link, limited_to, link_tick, cleared_link}
use Rattle.link.specs.declared.Link.{Link}
use Rattle.link.proofs.Soundness.{basic_sound, limited_sound, limited_places, after_sound, after_places, cleared_sound, cleared_places}
use Rattle.link.proofs.Soundness.{tick_sound, tick_places}
use Rattle.link.proofs.Theorems.{after_safe}
use Rattle.pump.specs.Calls.{tick_at}
use Rattle.pump.specs.Device.{link_behind, is_line_apart}
use Rattle.pump.specs.Holder.{phase_count, model_phases, phase_at, here_of, with_phases, with_phase, edited, fresh_pump, fresh_phases, is_sound_pump}
use Rattle.pump.specs.declared.calls.Listened.{Listened}
use Rattle.pump.specs.declared.device.Device.{Device}
use Rattle.pump.specs.declared.holder.Pump.{Pump}
use Rattle.pump.proofs.Renewing.{fresh_count}
use Rattle.pump.proofs.Kept.{pump_phases, pump_core, pump_line, pump_link, pump_apart, table_here}
use Rattle.statement.specs.Facts.{Sound, core_of, link_of}
use Rattle.statement.specs.Histories.{Call, byte_in, pin_at, tick_in, ticks_in, report_after, after, Model, Whole}
use Rattle.statement.specs.Outcomes as out
use Rattle.statement.specs.Outcomes.{Outcome, outcome_of, number_of, InTurn, none, more, TickDone, Edge, two, four, six, Does, Meets}
use Rattle.statement.specs.Outcomes.{pump_with_core, pump_with_line, pump_with_link, emptied, taken, carried_out, obeying}
use Rattle.statement.specs.Outcomes.{RefusedAs, not_sound, short_buffer, short_for_tick, short_for_ticks, no_such_pin, no_such_level}
use Rattle.statement.specs.Outcomes.{too_many}
use Rattle.statement.specs.Outcomes.{HearsText, other_address, alarm_pending, asks_limit, sets_limit, limit_too_great, resets, obeys}
use Rattle.statement.specs.Outcomes.{Hears, collected, line_ends, packet_goes_on, packet_wrong, packet_good}
use Rattle.statement.proofs.Links.{line_rests, empty_apart}
use Rattle.statement.proofs.Outcomes.{call_meets, does_number}
use Rattle.statement.proofs.Placing.{placed_at, placed_sound}
use Rattle.statement.proofs.Raising.{raised_kept}
use Rattle.statement.proofs.Soundness.{sound_facts}
use Rattle.statement.proofs.Wholes.{fresh_phases_lem, fresh_whole, core_whole, line_whole, link_whole, phases_whole, tick_apart}

-- ---- the pump as a command leaves its device, before the edit is made
abbrev obeyed_pump : Pump → Command → Pump
obeyed_pump p command =
    pump_with_link (pump_with_core p (obeying p command).core) (link_behind (obeying p command).edit (link_of p))

-- ---- every call keeps the number of phases
with_phase_count : (p : Pump) (n : ℕ) (x : Phase) → phase_count (with_phase p n x) ≡ phase_count p
unfolding with_phase
with_phase_count p n x = go (is_phase (phase_count p) n)
  where
    go : (t : Bool) → phase_count (if t then with_phases p (set p.phases (n - 1) x) else p) ≡ phase_count p
    go true = length-set p.phases (n - 1) x
    go false = refl

edited_count : (p : Pump) (n : ℕ) (edit : Edit) → phase_count (edited p n edit) ≡ phase_count p
edited_count p n Keep = refl
edited_count p n (Write x) = with_phase_count p n x
edited_count p n Renew = fresh_count (phase_count p)

text_count : (p : Pump) (asked : Asked) (s : Listened) → HearsText p asked s → phase_count s.pump ≡ phase_count p
text_count p asked s (other_address n) = refl
text_count p asked s (alarm_pending a z k) = refl
text_count p asked s (asks_limit z k r) = refl
text_count p asked s (sets_limit n z k r h) = refl
text_count p asked s (limit_too_great n z k r h) = refl
text_count p asked s (resets z k r) = fresh_count (phase_count p)
text_count p asked s (obeys command z k r) = edited_count (obeyed_pump p command) (in_hand (core_of p)) (obeying p command).edit

hears_count : (p : Pump) (b : ℕ) (s : Listened) → Hears p b s → phase_count s.pump ≡ phase_count p
hears_count p b s (collected e n) = refl
hears_count p b s (line_ends l e r h) = text_count (emptied p) (asked_in p.device.line) l h
hears_count p b s (packet_goes_on e k) = refl
hears_count p b s (packet_wrong e k) = refl
hears_count p b s (packet_good n l e k h) = text_count (pump_with_link p (cleared_link (taken p b).link)) _ l h

turn_count : (before : List ℕ) (n : ℕ) (p q : Pump) (a b c : ℕ) (x : Said) → InTurn before n p q a b c x → phase_count q ≡ phase_count p
turn_count before n p q a b c x (none y) = refl
turn_count before n p q a b c x (more m u v i j k o t free d) =
    ap phase_count d.new_state ∙ turn_count before m u v i j k said.Nothing t

does_count : (p : Pump) (call : Call) (o : Outcome) → Does p call o → phase_count o.report.pump ≡ phase_count p
does_count p (byte_in b buffer) o d = ap phase_count d.still.new_state ∙ hears_count p b d.said d.hears
does_count p (pin_at pin level) o d = ap phase_count d.still.new_state
does_count p (tick_in buffer) o d = ap phase_count d.new_state
does_count p (ticks_in n buffer) o d = turn_count buffer _ p _ _ _ _ _ d.in_turn

pub call_phases : (p : Pump) (call : Call) → phase_count (report_after p call).pump ≡ phase_count p
call_phases p call = go (call_meets p call)
  where
    go : Meets p call (outcome_of p call) → phase_count (report_after p call).pump ≡ phase_count p
    go (out.turned_down k r t) = ap phase_count t.same_state
    go (out.accepted n d) = does_count p call (outcome_of p call) d

-- ---- and a whole state whole
module _ (p : Pump) (w : Whole p) where
  abbrev look : ℕ → Phase
  look = phase_at p.phases

  abbrev n : ℕ
  n = in_hand (core_of p)

  table : Table (phase_count p) look
  table = table_here p w.sound

  core_kept : Kept (phase_count p) look (core_of p)
  core_kept = pump_core p w.sound

  -- what a command asks to be done to the phases
  least : 1 ≤ n
  least = go (is_operating (core_of p).run)
    where
      core : CoreClauses (phase_count p) (core_of p) (here_of p)
      core = core_clauses (phase_count p) (core_of p) (here_of p) core_kept

      go : (t : Bool) → 1 ≤ (if t then (core_of p).run.place.current else (core_of p).chosen)
      go true = (run_clauses (phase_count p) (core_of p).run core.under_way_lem).least
      go false = core.chosen_least

  placed_whole :
      (s : Core) (x : Phase)
      → is_sound_phase (phase_count p) x ≡ true
      → n ≤ phase_count p
      → Kept (phase_count p) (kept.table_with look n x) s
      → Whole (with_phase (pump_with_core p s) n x)
  unfolding with_phase
  placed_whole s x e most k =
      subst (λ t. Whole (if t then with_phases (pump_with_core p s) placed else pump_with_core p s))
      (sym (and_both (leb 1 n) (leb n (phase_count p)) (le-leb 1 n least) (le-leb n (phase_count p) most)))
      (phases_whole p placed s w (length-set p.phases (n - 1) x)
      (placed_sound (phase_count p) p.phases (n - 1) x (pump_phases p w.sound) e)
      (ap (is_sound_core (phase_count p) s) (placed_at p.phases n s.run.place.current x least most) ∙ k))
    where
      placed : List Phase
      placed = set p.phases (n - 1) x

  edited_whole : (s : Core) (edit : Edit) → WellBy (phase_count p) look (core_of p) s edit → Whole (edited (pump_with_core p s) n edit)
  edited_whole s Keep k = core_whole p w s k
  edited_whole s (Write x) k = placed_whole s x k.0 k.1 k.2
  edited_whole s Renew k =
      phases_whole p (fresh_phases (phase_count p)) s w (fresh_count (phase_count p)) (fresh_phases_lem (phase_count p) (phase_count p)) (k _)

  edge_whole : (level : Bool) (pin : ℕ) (s : Core) → Edge (core_of p) level pin s → Whole (pump_with_core p s)
  edge_whole level pin s two = core_whole p w _ (kept_pin_two (phase_count p) look table (core_of p) core_kept level)
  edge_whole level pin s four = core_whole p w _ (kept_pin_four (phase_count p) look table (core_of p) core_kept level)
  edge_whole level pin s six = core_whole p w _ (kept_pin_six (phase_count p) look table (core_of p) core_kept level)

  emptied_whole : Whole (emptied p)
  emptied_whole = line_whole p w empty_line refl empty_sound (empty_apart (emptied p).device refl)

-- an edit leaves the link as it is, and the line
placed_link : (p : Pump) (l : Link) (n : ℕ) (x : Phase) → with_phase (pump_with_link p l) n x ≡ pump_with_link (with_phase p n x) l
unfolding with_phase
placed_link p l n x = go (is_phase (phase_count p) n)
  where
    go :
        (t : Bool)
        → (if◌then◌else◌ {A = Pump} t (with_phases (pump_with_link p l) (set p.phases (n - 1) x)) (pump_with_link p l))
        ≡ pump_with_link (if◌then◌else◌ {A = Pump} t (with_phases p (set p.phases (n - 1) x)) p) l
    go true = refl
    go false = refl

placed_line : (p : Pump) (n : ℕ) (x : Phase) → (with_phase p n x).device.line ≡ p.device.line
unfolding with_phase
placed_line p n x = go (is_phase (phase_count p) n)
  where
    go : (t : Bool) → (if◌then◌else◌ {A = Pump} t (with_phases p (set p.phases (n - 1) x)) p).device.line ≡ p.device.line
    go true = refl
    go false = refl

edited_line : (p : Pump) (n : ℕ) (edit : Edit) → (edited p n edit).device.line ≡ p.device.line
edited_line p n Keep = refl
edited_line p n (Write x) = placed_line p n x
edited_line p n Renew = refl

edited_link : (p : Pump) (l : Link) (n : ℕ) (edit : Edit) → edited (pump_with_link p l) n edit ≡ pump_with_link (edited p n edit) l
edited_link p l n Keep = refl
edited_link p l n (Write x) = placed_link p l n x
edited_link p l n Renew = refl

-- ---- a text, in a pump whose line is empty
record LinkHeld (l : Link) : Type 0 where
  places : length l.bytes ≡ 40
  sound : is_sound_link l ≡ true

behind_held : (edit : Edit) (l : Link) → LinkHeld l → LinkHeld (link_behind edit l)
behind_held Keep l h = h
behind_held (Write x) l h = h
behind_held Renew l h = record { places = refl; sound = basic_sound }

module _ (p : Pump) (w : Whole p) (empty : p.device.line.len ≡ 0) where
  held : LinkHeld (link_of p)
  held = record { places = w.packet_places; sound = pump_link p w.sound }

  line_kept :
      (command : Command)
      → (edited (pump_with_core p (obeying p command).core) (in_hand (core_of p)) (obeying p command).edit).device.line.len ≡ 0
  line_kept command =
      ap (λ (l : Line). l.len) (edited_line (pump_with_core p (obeying p command).core) (in_hand (core_of p)) (obeying p command).edit) ∙ empty

  obeyed_whole : (command : Command) → is_writable (amount command) ≡ true → Whole (carried_out p command).pump
  obeyed_whole command sendable =
      let o = obeying p command in
      let q = edited (pump_with_core p o.core) (in_hand (core_of p)) o.edit in
      let after =
      edited_whole p w o.core o.edit
      (kept_obey (phase_count p) (look p w) (table p w) (core_of p) (core_kept p w) w.model.some _ command sendable) in
      let l = link_behind o.edit (link_of p) in
      let k = behind_held o.edit (link_of p) held in
      subst Whole (sym (edited_link (pump_with_core p o.core) l (in_hand (core_of p)) o.edit))
      (link_whole q after l k.places k.sound (empty_apart (pump_with_link q l).device (line_kept command)))

  text_whole :
      (asked : Asked)
      → ((command : Command) → asked.request ≡ request.Pump command → is_writable (amount command) ≡ true)
      → (s : Listened)
      → HearsText p asked s
      → Whole s.pump
  text_whole asked sendable s (other_address n) = w
  text_whole asked sendable s (alarm_pending a z k) =
      core_whole p w _ (kept_clear_alarm (phase_count p) (look p w) (core_of p) (core_kept p w))
  text_whole asked sendable s (asks_limit z k r) = w
  text_whole asked sendable s (sets_limit n z k r h) =
      link_whole p w (limited_to n) (limited_places n) (limited_sound n) (empty_apart (pump_with_link p (limited_to n)).device empty)
  text_whole asked sendable s (limit_too_great n z k r h) = w
  text_whole asked sendable s (resets z k r) = obeyed_whole c.Reset (sendable c.Reset r)
  text_whole asked sendable s (obeys command z k r) = obeyed_whole command (sendable command r)

-- ---- a byte
basic_apart : (v : Device) → is_safe v.link ≡ false → is_line_apart v ≡ true
basic_apart v e = ap (λ (t : Bool). not t || eqb v.line.len 0) e

taken_whole : (p : Pump) → Whole p → (b : ℕ) → Whole (pump_with_link p (taken p b).link)
taken_whole p w b =
    let sound = pump_link p w.sound in
    link_whole p w (taken p b).link (after_places (link_of p) b sound w.packet_places) (after_sound (link_of p) b sound)
    (ap (λ (t : Bool). not t || eqb p.device.line.len 0) (after_safe (link_of p) b) ∙ pump_apart p w.sound)

text_request : (s : List ℕ) (command : Command) → (asked_of s).request ≡ request.Pump command → request_of (unaddressed s) ≡ request.Pump command
unfolding asked_of
text_request s command e = e

hears_whole : (p : Pump) → Whole p → (b : ℕ) (s : Listened) → Hears p b s → Whole s.pump
hears_whole p w b s (collected e n) =
    let line = p.device.line in
    line_whole p w (after_byte line b).line (places_kept line b w.places) (byte_sound line b w.places (pump_line p w.sound))
    (basic_apart (pump_with_line p (after_byte line b).line).device e)
hears_whole p w b s (line_ends l e r h) =
    text_whole (emptied p) (emptied_whole p w) refl (asked_in p.device.line)
    (λ command k. (line_sendable p.device.line command k).number_writable) l h
hears_whole p w b s (packet_goes_on e k) = taken_whole p w b
hears_whole p w b s (packet_wrong e k) = taken_whole p w b
hears_whole p w b s (packet_good n l e k h) =
    let link = (taken p b).link in
    let q = pump_with_link p (cleared_link link) in
    let empty = line_rests p.device (pump_apart p w.sound) e in
    let kept =
    link_whole p w (cleared_link link) (cleared_places link)
    (cleared_sound link (after_sound (link_of p) b (pump_link p w.sound))) (empty_apart q.device empty) in
    text_whole q kept empty (asked_of (take n link.bytes))
    (λ command k.
    (request_sendable (unaddressed (take n link.bytes)) command (text_request (take n link.bytes) command k)).number_writable) l h

tick_whole : (p : Pump) → Whole p → (before : List ℕ) (o : Outcome) → TickDone p before o → Whole o.report.pump
tick_whole p w before o d =
    let kept = kept_tick (phase_count p) (look p w) (table p w) (core_of p) (core_kept p w) in
    let core = raised_kept p (tick_at p) (phase_count p) (look p w) d.core d.sends d.raises kept in
    subst Whole (sym d.new_state)
    (link_whole (pump_with_core p d.core) (core_whole p w d.core core) (link_tick (link_of p))
    (tick_places (link_of p) (pump_link p w.sound) w.packet_places) (tick_sound (link_of p) (pump_link p w.sound))
    (tick_apart p w.sound))

turn_whole : (before : List ℕ) (n : ℕ) (p q : Pump) (a b c : ℕ) (x : Said) → InTurn before n p q a b c x → Whole p → Whole q
turn_whole before n p q a b c x (none y) w = w
turn_whole before n p q a b c x (more m u v i j k o t free d) w =
    tick_whole v (turn_whole before m u v i j k said.Nothing t w) before o d

does_whole : (p : Pump) → Whole p → (call : Call) (o : Outcome) → Does p call o → Whole o.report.pump
does_whole p w (byte_in b buffer) o d = subst Whole (sym d.still.new_state) (hears_whole p w b d.said d.hears)
does_whole p w (pin_at pin level) o d =
    subst Whole (sym d.still.new_state) (edge_whole p w d.is_high pin d.core d.edge)
does_whole p w (tick_in buffer) o d = tick_whole p w buffer o d
does_whole p w (ticks_in n buffer) o d = turn_whole buffer _ p _ _ _ _ _ d.in_turn w

pub call_whole : (p : Pump) (call : Call) → Whole p → Whole (report_after p call).pump
call_whole p call w = go (call_meets p call)
  where
    go : Meets p call (outcome_of p call) → Whole (report_after p call).pump
    go (out.turned_down k r t) = subst Whole (sym t.same_state) w
    go (out.accepted n d) = does_whole p w call (outcome_of p call) d

-- ---- any number of calls
pub after_phases : (p : Pump) (calls : List Call) → phase_count (after p calls) ≡ phase_count p
unfolding after
after_phases p [] = refl
after_phases p (c ∷ calls) = after_phases (report_after p c).pump calls ∙ call_phases p c

pub after_whole : (p : Pump) (calls : List Call) → Whole p → Whole (after p calls)
unfolding after
after_whole p [] w = w
after_whole p (c ∷ calls) w = after_whole (report_after p c).pump calls (call_whole p c w)

-- ---- from power-up on
-- this model is one
pub model : Model model_phases
model = record { some = omega arith; few = omega arith }

pub phases_after : (n : ℕ) (calls : List Call) → phase_count (after (fresh_pump n) calls) ≡ n
phases_after n calls = after_phases (fresh_pump n) calls ∙ fresh_count n

pub whole_after : (n : ℕ) → Model n → (calls : List Call) → Whole (after (fresh_pump n) calls)
whole_after n m calls = after_whole (fresh_pump n) calls (fresh_whole n m)

pub sound_after : (n : ℕ) → Model n → (calls : List Call) → is_sound_pump (after (fresh_pump n) calls) ≡ true
sound_after n m calls = (whole_after n m calls).sound

-- ---- no call is refused because the state is not sound
sound_number : (p : Pump) → Sound p → (call : Call) (k : ℕ) → RefusedAs p call k → k ≡ 4 → ⊥
sound_number p s call k (not_sound any n) e = n s
sound_number p s call k (short_buffer b buffer t h) e = omega arith
sound_number p s call k (no_such_pin pin level t n) e = omega arith
sound_number p s call k (no_such_level pin level t y h) e = omega arith
sound_number p s call k (short_for_tick buffer t h) e = omega arith
sound_number p s call k (short_for_ticks n buffer t h) e = omega arith
sound_number p s call k (too_many n buffer t h m) e = omega arith

sound_taken : (p : Pump) → Sound p → (call : Call) → number_of (outcome_of p call) ≡ 4 → ⊥
sound_taken p s call e = go (call_meets p call)
  where
    go : Meets p call (outcome_of p call) → ⊥
    go (out.turned_down k r t) = sound_number p s call k r (sym t.number ∙ e)
    go (out.accepted n d) = omega (arith, does_number p call (outcome_of p call) d)

pub never_unsound : (n : ℕ) → Model n → (calls : List Call) (call : Call) → number_of (outcome_of (after (fresh_pump n) calls) call) ≡ 4 → ⊥
never_unsound n m calls call e =
    let p = after (fresh_pump n) calls in
    sound_taken p (sound_facts p (sound_after n m calls)) call e
