-- What Safe mode is worth on a noisy cable:
--     outside_nothing   outside a packet a byte that does not begin one changes nothing and is not answered
--     noise_only        bytes without a good packet in them make a pump say nothing, or `?COM`, and obey nothing
--     damaged_com       a packet damaged in its data and check, its length and frame whole, is answered `?COM`, once, and obeyed in nothing
--     packet_as_line    a good packet does what its data would do as a line that holds them
-- and of the time limit:
--     limit_set         SAF n leaves 1,000 n ticks
--     time_out_at       k ticks later the next one raises alarm T exactly where k + 1 were left
-- Assumes nothing.
use Rattle.std.specs.Prelude.{if◌then◌else◌, Option, Some, None}
use Prim.Native.Nat.{ℕ, zero, suc, ◌+◌, ◌-◌, ◌*◌, ◌≤◌}
use mathlib.Core.Path.{◌≡◌, refl, sym, ap, ◌∙◌, subst}
use mathlib.Core.Logic.{◌⊎◌, inl, inr, ◌↔◌}
use mathlib.Core.Bool.{Bool, true, false}
use mathlib.Core.List.{List, [], ◌∷◌, ◌++◌, map}
use lib.Dec.{eqb}
use lib.ListN.{length, take, set, replicate}
use borrow.Author.Tests.{eqb-true, eqb-false}
use Rattle.crc.specs.Noise.{Bytes}
use Rattle.words.specs.Functions.{is_phase}
use Rattle.words.specs.declared.answers.Said.{Said}
use Rattle.words.specs.declared.answers.Said.TheVariants as said
use Rattle.words.specs.declared.answers.Status.{Status}
use Rattle.words.specs.declared.answers.Alarm.{Alarm}
use Rattle.words.specs.declared.commands.Asked.{Asked}
use Rattle.words.specs.declared.commands.Command.{Command}
use Rattle.words.specs.declared.commands.Request.TheVariants as request
use Rattle.words.specs.declared.phases.Phase.{Phase}
use Rattle.program.specs.Runs.{pending}
use Rattle.program.specs.Statuses.{in_hand, status_run}
use Rattle.program.specs.declared.state.Core.{Core}
use Rattle.command.specs.declared.obeying.Edit.{Edit}
use Rattle.command.specs.declared.obeying.Edit.TheVariants.{Keep, Write, Renew}
use Rattle.line.specs.Lines.{empty_line, line_text}
use Rattle.line.specs.Requests.{asked_in, asked_of}
use Rattle.line.specs.declared.lines.Line.{Line}
use Rattle.line.proofs.Theorems.{asked_text}
use Rattle.packet.specs.Noise.{Noise}
use Rattle.packet.specs.Packets.{stx, check_bytes, Heard, nothing, wrong, good}
use Rattle.packet.specs.Streams.{Among, HoldsPacket}
use Rattle.packet.specs.declared.receiver.Outcome as outcome
use Rattle.packet.specs.declared.receiver.Outcome.TheVariants as packet
use Rattle.packet.specs.Follows as receiver
use Rattle.packet.proofs.Judging.{nothing_good, wrong_good}
use Rattle.packet.proofs.Theorems.{damaged, receiver_good_only}
use Rattle.link.specs.Link.{receiver_of, limited_to, is_safe, ticks_left, fires, link_tick, link_ticks, link_after, cleared_link}
use Rattle.link.specs.Streams.{heard_of, link_answers}
use Rattle.link.specs.declared.Link.{Link}
use Rattle.link.specs.declared.Safety.{Safety}
use Rattle.link.specs.declared.Taken.{Taken}
use Rattle.link.proofs.Hearing.{hears, means}
use Rattle.link.proofs.Modes.{stands}
use Rattle.link.proofs.Theorems as links
use Rattle.pump.specs.Calls.{saying, after_text, hear}
use Rattle.pump.specs.Device as device
use Rattle.pump.specs.Holder.{phase_count, phase_at, fresh_phases, with_phase, with_phases, edited}
use Rattle.pump.specs.declared.calls.Listened.{Listened}
use Rattle.pump.specs.declared.device.Told.{Told}
use Rattle.pump.specs.declared.device.Told.TheVariants as told
use Rattle.pump.specs.declared.holder.Pump.{Pump}
use Rattle.pump.proofs.Kept.{pump_link}
use Rattle.statement.specs.Facts.{core_of, link_of, run_of}
use Rattle.statement.specs.Histories.{tick_in, report_after, after, single_ticks, Every, Whole}
use Rattle.statement.specs.Outcomes.{pump_with_core, pump_with_link, quiet, carried_out, obeying, alarm_pending, obeys}
use Rattle.statement.specs.Safe.{sayings, behind, garbled, Untouched, Alike}
use Rattle.statement.proofs.Always.{call_whole}
use Rattle.statement.proofs.Doing.{does}
use Rattle.statement.proofs.Hearing.{text_other, text_is, told_by, in_packet, at_return}
use Rattle.statement.proofs.Joining.{after_last}
use Rattle.statement.proofs.Links.{safe_mode}

-- ---- outside a packet
pub outside_nothing :
    (p : Pump) (s : Safety) (b : ℕ) → (link_of p).safety ≡ Some s → s.part ≡ None → (b ≡ stx → ⊥) → hear p b ≡ quiet p
outside_nothing p s b e o n =
    in_packet p b (safe_mode (link_of p) s e)
    ∙ ap (λ (t : Taken). told_by p t.link t.outcome) (links.outside_ignored (link_of p) s b e o n)

-- ---- what is said where no packet is good
abbrev said_for : Pump → Heard → Said
said_for p nothing = said.Nothing
said_for p wrong = garbled p
said_for p (good d) = said.Nothing

abbrev pub NoneGood : List Heard → Type 0
NoneGood hs = (d : List ℕ) → Among (good d) hs → ⊥

-- one byte, of a pump with any link in Safe mode
module _ (p : Pump) (l : Link) (b : ℕ) (safe : is_safe l ≡ true) where
  one_byte :
      (x : outcome.Outcome)
      → (link_after l b).outcome ≡ x
      → ((d : List ℕ) → heard_of (link_after l b) ≡ good d → ⊥)
      → hear (pump_with_link p l) b ≡ record { pump = pump_with_link p (link_after l b).link; said = said_for p (heard_of (link_after l b)) }
  one_byte packet.Nothing k n =
      in_packet (pump_with_link p l) b safe
      ∙ ap (told_by (pump_with_link p l) (link_after l b).link) k
      ∙ ap (λ (h : Heard). record { pump = pump_with_link p (link_after l b).link; said = said_for p h })
      (sym (ap (receiver.heard_by (link_after l b).link.bytes) k))
  one_byte packet.Wrong k n =
      in_packet (pump_with_link p l) b safe
      ∙ ap (told_by (pump_with_link p l) (link_after l b).link) k
      ∙ ap (λ (h : Heard). record { pump = pump_with_link p (link_after l b).link; said = said_for p h })
      (sym (ap (receiver.heard_by (link_after l b).link.bytes) k))
  one_byte (packet.Good m) k n = absurd (n _ (ap (receiver.heard_by (link_after l b).link.bytes) k))

-- any bytes
pub said_without_good :
    (p : Pump) (l : Link) (bs : List ℕ)
    → is_safe l ≡ true
    → NoneGood (link_answers l bs)
    → sayings (pump_with_link p l) bs ≡ map (said_for p) (link_answers l bs)
unfolding sayings link_answers
said_without_good p l [] safe n = refl
said_without_good p l (b ∷ bs) safe n =
    let next = one_byte p l b safe (link_after l b).outcome refl (λ d e. n d (inl e)) in
    ap (λ (x : Listened). x.said ∷ sayings x.pump bs) next
    ∙ ap (λ (xs : List Said). said_for p (heard_of (link_after l b)) ∷ xs)
    (said_without_good p (link_after l b).link bs (links.after_safe l b ∙ safe) (λ d e. n d (inr e)))

pub left_without_good :
    (p : Pump) (l : Link) (bs : List ℕ)
    → is_safe l ≡ true
    → NoneGood (link_answers l bs)
    → Untouched p (behind (pump_with_link p l) bs)
unfolding behind link_answers
left_without_good p l [] safe n = record { phases = refl; core = refl; line = refl }
left_without_good p l (b ∷ bs) safe n =
    let next = one_byte p l b safe (link_after l b).outcome refl (λ d e. n d (inl e)) in
    subst (λ (x : Listened). Untouched p (behind x.pump bs)) (sym next)
    (left_without_good p (link_after l b).link bs (links.after_safe l b ∙ safe) (λ d e. n d (inr e)))

-- nothing, or `?COM`
abbrev pub OnlyCom : Pump → Said → Type 0
OnlyCom p x = (x ≡ said.Nothing) ⊎ (x ≡ garbled p)

only_com : (p : Pump) (hs : List Heard) → Every (OnlyCom p) (map (said_for p) hs)
only_com p [] = tt
only_com p (nothing ∷ hs) = (inl refl, only_com p hs)
only_com p (wrong ∷ hs) = (inr refl, only_com p hs)
only_com p (good d ∷ hs) = (inl refl, only_com p hs)

-- ---- from outside a packet, in a whole pump in Safe mode
module _ (p : Pump) (w : Whole p) (s : Safety) (e : (link_of p).safety ≡ Some s) (o : s.part ≡ None) where
  held : receiver.Sound (receiver_of (link_of p).bytes s.part)
  held = record { places = w.packet_places; tested = (stands (link_of p) s (pump_link p w.sound) e).received }

  pub noise_only :
      (bs : List ℕ)
      → ((d : List ℕ) → HoldsPacket bs d → ⊥)
      → Every (OnlyCom p) (sayings p bs) × Untouched p (behind p bs)
  noise_only bs n =
      let none : NoneGood (link_answers (link_of p) bs) =
      λ d m. n d (receiver_good_only (receiver_of (link_of p).bytes s.part) bs d held o (subst (Among (good d)) (hears bs (link_of p) s e) m)) in
      let safe = safe_mode (link_of p) s e in (
        subst (Every (OnlyCom p)) (sym (said_without_good p (link_of p) bs safe none)) (only_com p (link_answers (link_of p) bs)),
        left_without_good p (link_of p) bs safe none,
      )

  -- data and check come damaged: within two neighbouring bytes, a run of 16 bits, up to three bits, or an odd number of them
  module _ (d t : List ℕ) (few : length d ≤ 40) (sent : Bytes d) (came : Bytes t) (long : length t ≡ length (d ++ check_bytes d))
      (noise : Noise (d ++ check_bytes d) t) (differ : d ++ check_bytes d ≡ t → ⊥) where
    abbrev bytes : List ℕ
    bytes = stx ∷ (length d + 4) ∷ t

    answered : link_answers (link_of p) bytes ≡ replicate (length d + 3) nothing ++ (wrong ∷ [])
    answered = means (link_of p) s e o (pump_link p w.sound) w.packet_places (damaged d t few sent came long noise differ)

    none_good : (k : ℕ) (x : List ℕ) → Among (good x) (replicate k nothing ++ (wrong ∷ [])) → ⊥
    none_good zero x (inl m) = wrong_good m
    none_good zero x (inr m) = m
    none_good (suc k) x (inl m) = nothing_good m
    none_good (suc k) x (inr m) = none_good k x m

    said_nothing : (k : ℕ) → map (said_for p) (replicate k nothing ++ (wrong ∷ [])) ≡ replicate k said.Nothing ++ (garbled p ∷ [])
    said_nothing zero = refl
    said_nothing (suc k) = ap (λ (xs : List Said). said.Nothing ∷ xs) (said_nothing k)

    pub damaged_com :
        (sayings p bytes ≡ replicate (length d + 3) said.Nothing ++ (garbled p ∷ [])) × Untouched p (behind p bytes)
    damaged_com =
        let none : NoneGood (link_answers (link_of p) bytes) =
        λ x m. none_good (length d + 3) x (subst (Among (good x)) answered m) in
        let safe = safe_mode (link_of p) s e in (
          said_without_good p (link_of p) bytes safe none ∙ ap (map (said_for p)) answered ∙ said_nothing (length d + 3),
          left_without_good p (link_of p) bytes safe none,
        )

both_alike : {x y u v : Listened} → x ≡ u → y ≡ v → Alike u v → Alike x y
both_alike {x} {y} {u} {v} a b h =
    record {
      said = ap (λ (z : Listened). z.said) a ∙ h.said ∙ sym (ap (λ (z : Listened). z.said) b);
      phases = ap (λ (z : Listened). z.pump.phases) a ∙ h.phases ∙ sym (ap (λ (z : Listened). z.pump.phases) b);
      core = ap (λ (z : Listened). core_of z.pump) a ∙ h.core ∙ sym (ap (λ (z : Listened). core_of z.pump) b);
    }

placed_phases : (p q : Pump) (n : ℕ) (x : Phase) → p.phases ≡ q.phases → (with_phase p n x).phases ≡ (with_phase q n x).phases
unfolding with_phase
placed_phases p q n x e = phases_of p ∙ ap made e ∙ sym (phases_of q)
  where
    made : List Phase → List Phase
    made ps = if is_phase (length ps) n then set ps (n - 1) x else ps

    phases_of : (r : Pump)
        → (if◌then◌else◌ {A = Pump} (is_phase (phase_count r) n) (with_phases r (set r.phases (n - 1) x)) r).phases ≡ made r.phases
    phases_of r = go (is_phase (phase_count r) n)
      where
        go : (t : Bool)
            → (if◌then◌else◌ {A = Pump} t (with_phases r (set r.phases (n - 1) x)) r).phases
            ≡ (if t then set r.phases (n - 1) x else r.phases)
        go true = refl
        go false = refl

placed_core : (p : Pump) (n : ℕ) (x : Phase) → core_of (with_phase p n x) ≡ core_of p
unfolding with_phase
placed_core p n x = go (is_phase (phase_count p) n)
  where
    go : (t : Bool) → core_of (if◌then◌else◌ {A = Pump} t (with_phases p (set p.phases (n - 1) x)) p) ≡ core_of p
    go true = refl
    go false = refl

-- ---- a packet and a line with the same text: the frame, the line and the link apart, the pump does the same. SAF is asked of the link
abbrev pub beside : Pump → Line → Link → Pump
beside p l k = record { phases = p.phases; device = record { core = core_of p; line = l; link = k } }

same_saying : (p q : Pump) (t : Told) → p.phases ≡ q.phases → core_of p ≡ core_of q → Alike (saying p t) (saying q t)
same_saying p q t e k = record { said = told_same t; phases = e; core = k }
  where
    here : (ps qs : List Phase) (c d : Core) → ps ≡ qs → c ≡ d
        → status_run c.run (phase_at ps c.run.place.current).direction
        ≡ status_run d.run (phase_at qs d.run.place.current).direction
    here ps qs c d a b = rw (a, b) refl

    told_same : (x : Told) → (saying p x).said ≡ (saying q x).said
    told_same told.Nothing = refl
    told_same (told.Alarm a) = refl
    told_same (told.Reply r) =
        ap (λ (x : Status). said.Answer x r) (here p.phases q.phases (core_of p) (core_of q) e k)

edited_phases : (p q : Pump) (n : ℕ) (edit : Edit) → p.phases ≡ q.phases → (edited p n edit).phases ≡ (edited q n edit).phases
edited_phases p q n Keep e = e
edited_phases p q n (Write x) e = placed_phases p q n x e
edited_phases p q n Renew e = ap (λ (ps : List Phase). fresh_phases (length ps)) e

edited_core : (p : Pump) (n : ℕ) (edit : Edit) → core_of (edited p n edit) ≡ core_of p
edited_core p n Keep = refl
edited_core p n (Write x) = placed_core p n x
edited_core p n Renew = refl

module _ (p : Pump) (l m : Line) (k j : Link) (asked : Asked) (command : Command) (is : asked.request ≡ request.Pump command) where
  abbrev one : Pump
  one = beside p l k

  abbrev other : Pump
  other = beside p m j

  obeyed_alike : Alike (carried_out one command) (carried_out other command)
  obeyed_alike =
      let o = obeying p command in
      let n = in_hand (core_of p) in
      let a = pump_with_link (pump_with_core one o.core) (device.link_behind o.edit k) in
      let b = pump_with_link (pump_with_core other o.core) (device.link_behind o.edit j) in
      same_saying (edited a n o.edit) (edited b n o.edit) (told.Reply o.reply) (edited_phases a b n o.edit refl)
      (edited_core a n o.edit ∙ sym (edited_core b n o.edit))

  pub text_alike : Alike (after_text one asked) (after_text other asked)
  text_alike = go (eqb asked.address 0) refl (pending (run_of p)) refl
    where
      go : (t : Bool) → eqb asked.address 0 ≡ t → (x : Option Alarm) → pending (run_of p) ≡ x → Alike (after_text one asked) (after_text other asked)
      go false e x h =
          let n = eqb-false asked.address 0 e in
          both_alike (text_other one asked n) (text_other other asked n) (record { said = refl; phases = refl; core = refl })
      go true e (Some a) h =
          let z = eqb-true asked.address 0 e in
          both_alike (sym (text_is one asked _ (alarm_pending a z h))) (sym (text_is other asked _ (alarm_pending a z h)))
          (record { said = refl; phases = refl; core = refl })
      go true e None h =
          let z = eqb-true asked.address 0 e in
          both_alike (sym (text_is one asked _ (obeys command z h is))) (sym (text_is other asked _ (obeys command z h is))) obeyed_alike

-- the data of a good packet that ends with byte b, and the text of a line that a return ends
pub packet_as_line :
    (p : Pump) (l : Line) (k j : Link) (b n : ℕ) (command : Command)
    → is_safe k ≡ true
    → is_safe j ≡ false
    → (link_after k b).outcome ≡ packet.Good n
    → l.overlong ≡ false
    → line_text l ≡ take n (link_after k b).link.bytes
    → (asked_in l).request ≡ request.Pump command
    → Alike (hear (beside p empty_line k) b) (hear (beside p l j) 13)
packet_as_line p l k j b n command safe basic ended whole same is =
    let text = asked_text l whole ∙ ap asked_of same in
    let packet = in_packet (beside p empty_line k) b safe ∙ ap (told_by (beside p empty_line k) (link_after k b).link) ended in
    let line = at_return (beside p l j) 13 basic refl ∙ ap (after_text (beside p empty_line j)) text in
    both_alike packet line
    (text_alike p empty_line empty_line (cleared_link (link_after k b).link) j (asked_of (take n (link_after k b).link.bytes)) command
    (ap (λ (a : Asked). a.request) (sym text) ∙ is))

-- ---- the time limit
pub limit_set : (p : Pump) (n : ℕ) → ticks_left (link_of (pump_with_link p (limited_to n))) ≡ 1000 * n
limit_set p n = links.limited_left n

module _ (buffer : List ℕ) (roomy : 24 ≤ length buffer) where
  one_tick_lem : (p : Pump) → Whole p → link_of (report_after p (tick_in buffer)).pump ≡ link_tick (link_of p)
  one_tick_lem p w = ap link_of (does p (tick_in buffer) w.sound roomy).new_state

  -- ticks alone: the link has so many less, and the pump stays whole
  ticks_link : (p : Pump) → Whole p → (k : ℕ)
      → Whole (after p (single_ticks k buffer)) × (link_of (after p (single_ticks k buffer)) ≡ link_ticks k (link_of p))
  unfolding after single_ticks link_ticks
  ticks_link p w zero = (w, refl)
  ticks_link p w (suc k) =
      let before = ticks_link p w k in
      let q = after p (single_ticks k buffer) in (
        subst Whole (sym (after_last buffer k p)) (call_whole q (tick_in buffer) before.0),
        ap link_of (after_last buffer k p) ∙ one_tick_lem q before.0 ∙ ap link_tick before.1,
      )

  pub time_out_at :
      (p : Pump) → Whole p → (k : ℕ)
      → (fires (link_of (after p (single_ticks k buffer))) ≡ true) ↔ (k + 1 ≡ ticks_left (link_of p))
  time_out_at p w k =
      subst (λ (l : Link). (fires l ≡ true) ↔ (k + 1 ≡ ticks_left (link_of p))) (sym (ticks_link p w k).1) (links.fires_at k (link_of p))
