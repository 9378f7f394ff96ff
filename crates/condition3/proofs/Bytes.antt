-- A byte: the pump and the books agree behind it. In Basic mode it joins the line, or ends it; in Safe mode it joins the packet under way,
-- or makes it wrong, or good; and the text of a line or of a good packet is heard.
-- Assumes nothing.
use Rattle.std.specs.Prelude.{if◌then◌else◌, Option, None, Some}
use Prim.Native.Nat.{ℕ, ◌≤◌}
use mathlib.Core.Path.{◌≡◌, refl, sym, ap, ap₂, ◌∙◌, subst}
use mathlib.Core.Bool.{Bool, true, false}
use mathlib.Core.List.{List, [], ◌∷◌, ◌++◌}
use native.Mathlib.Omega.{arith}
use lib.Dec.{eqb, ltb}
use lib.ListN.{length, take}
use borrow.Author.Tests.{eq-eqb, ne_eqb, lt-ltb}
use Rattle.base.proofs.Choices.{false_true}
use Rattle.words.specs.declared.answers.Reply.TheVariants as reply
use Rattle.words.specs.declared.answers.Said.TheVariants as said
use Rattle.program.specs.Statuses.{status_run}
use Rattle.packet.specs.Follows as follows
use Rattle.packet.specs.Packets.{Heard}
use Rattle.packet.specs.Receiver as receiver
use Rattle.packet.specs.declared.receiver.Arrived.{Arrived}
use Rattle.packet.specs.declared.receiver.Outcome as told
use Rattle.packet.specs.declared.receiver.Outcome.TheVariants as outcome
use Rattle.link.specs.Link as link
use Rattle.link.specs.Link.{receiver_of, safe_in, cleared_link}
use Rattle.link.specs.declared.Link.{Link}
use Rattle.link.specs.declared.Safety.{Safety}
use Rattle.link.specs.declared.Taken.{Taken}
use Rattle.link.proofs.Modes.{not_safe, safe_after, stands}
use Rattle.link.proofs.Theorems.{good_cleared}
use Rattle.line.specs.Collected.{collect, characters, Holds}
use Rattle.line.specs.Lines.{empty_line, after_byte}
use Rattle.line.specs.Requests.{asked_of, asked_in}
use Rattle.line.specs.declared.lines.Line.{Line}
use Rattle.line.proofs.Theorems.{collected}
use Rattle.answer.proofs.Theorems.{answer_least}
use Rattle.pump.specs.Calls.{frame_of}
use Rattle.pump.specs.Holder.{here_of}
use Rattle.pump.specs.declared.calls.Listened.{Listened}
use Rattle.pump.specs.declared.holder.Pump.{Pump}
use Rattle.pump.proofs.Kept.{pump_link}
use Rattle.statement.specs.Facts.{run_of, link_of}
use Rattle.statement.specs.Histories.{byte_in, Whole, Event}
use Rattle.statement.specs.Outcomes as out
use Rattle.statement.specs.Outcomes.{Outcome, Still, ByteHeard, Hears, taken, pump_with_link}
use Rattle.condition3.specs.Books.{Books, Packet, outside, view_of, is_safe, deed, drops, packet_after, packet_by, packet_data}
use Rattle.condition3.specs.Stored.{place_in, SamePlace, SamePacket}
use Rattle.condition3.proofs.Answers.{nothing_plain, error_plain}
use Rattle.condition3.proofs.Noting.{Kept, noted_is}
use Rattle.condition3.proofs.Orders as orders
use Rattle.condition3.proofs.Orders.{Agree, pump_asked, collected_more, line_agrees, data_agree}
use Rattle.condition3.proofs.Packets.{none_booked, none_there, limited_outside, AnsweredBy, byte_packet, read_data, over_good}
use Rattle.condition3.proofs.Quiet.{seen, alike_same, stays}
use Rattle.condition3.proofs.Texts.{Answers, Lined, read, obeyed_is, unobeyed, text_steps, text_outside}
use Rattle.condition3.proofs.Ticks.{Stepped, Followed}
use Rattle.condition3.proofs.Views.{moving_on, view_safe}

module _ (p : Pump) (b : Books) (k : Kept p b) (packet : SamePacket (link_of p) b.packet b.quiet) (x : ℕ) (buffer : List ℕ)
    (room : 24 ≤ length buffer) (o : Outcome) where
  abbrev event : Event
  event = seen p (byte_in x buffer) o

  abbrev answered : Bool
  answered = ltb 0 o.report.length

  -- the packet in the books
  followed :
      (q : Pump)
      → Still q o
      → Stepped b event
      → SamePacket (link_of q) (packet_after b (is_safe (view_of p)) answered (byte_in x buffer)) 0
      → Followed b event
  followed q s steps same =
      record {
        stepped = steps;
        packet =
            subst (λ (y : Books). SamePacket (link_of o.report.pump) y.packet y.quiet)
            (sym (noted_is b event (deed b event) (drops b event) s.taken refl refl))
            (subst (λ (y : Pump). SamePacket (link_of y) (packet_after b (is_safe (view_of p)) answered (byte_in x buffer)) 0)
            (sym s.new_state) same);
      }

  seen_as : (t : Bool) → link.is_safe (link_of p) ≡ t → is_safe (view_of p) ≡ t
  seen_as t e = view_safe p k.whole.sound ∙ e

  -- ---- Basic mode
  module _ (basic : link.is_safe (link_of p) ≡ false) where
    place_outside : place_in (link_of p).safety ≡ None
    place_outside = ap place_in (not_safe (link_of p) basic)

    no_packet : b.packet ≡ outside
    no_packet =
        none_booked (link_of p).bytes b.packet b.quiet
        (subst (λ (m : Option Safety). SamePlace (link_of p).bytes (place_in m) b.packet b.quiet) (not_safe (link_of p) basic) packet)

    packet_stays : (l : Link) → place_in l.safety ≡ None → SamePacket l (packet_after b (is_safe (view_of p)) answered (byte_in x buffer)) 0
    packet_stays l h =
        subst (λ (y : Packet). SamePacket l y 0)
        (sym (ap (λ (t : Bool). if t then packet_by b.packet answered x else b.packet) (seen_as false basic) ∙ no_packet))
        (none_there l 0 h)

    abbrev line_by : Bool → Bool → List ℕ
    line_by safe ends = if safe then b.line else if ends then [] else b.line ++ x ∷ []

    kept_line : (x ≡ 13 → ⊥) → Lined p b k x buffer room o (after_byte p.device.line x).line
    kept_line n =
        ap (λ (l : Line). (after_byte l x).line) k.line
        ∙ sym (collected_more b.line x)
        ∙ sym (ap₂ (λ (s t : Bool). collect empty_line (line_by s t)) (seen_as false basic) (ne_eqb x 13 n))

    ended_line : x ≡ 13 → Lined p b k x buffer room o empty_line
    unfolding collect
    ended_line e = sym (ap₂ (λ (s t : Bool). collect empty_line (line_by s t)) (seen_as false basic) (eq-eqb x 13 e))

    -- what the observer reads in the line is what it asks for
    line_read : Agree (read p b k x buffer room o) (pump_asked (asked_in p.device.line).request)
    line_read =
        subst (λ (t : Bool). Agree (orders.said (if t then packet_data b.packet else characters b.line))
        (pump_asked (asked_in p.device.line).request))
        (sym (seen_as false basic))
        (line_agrees p.device.line (characters b.line)
        (subst (λ (l : Line). Holds l (characters b.line)) (sym k.line) (collected b.line)))

  -- ---- Safe mode
  module _ (safe : link.is_safe (link_of p) ≡ true) where
    line_stays : Lined p b k x buffer room o p.device.line
    line_stays =
        k.line
        ∙ sym
        (ap (λ (t : Bool). collect empty_line (if t then b.line else if eqb x 13 then [] else b.line ++ x ∷ [])) (seen_as true safe))

    packet_is : packet_after b (is_safe (view_of p)) answered (byte_in x buffer) ≡ packet_by b.packet answered x
    packet_is = ap (λ (t : Bool). if t then packet_by b.packet answered x else b.packet) (seen_as true safe)

    -- the link's mode, with the receiver in it
    module _ (s : Safety) (is : (link_of p).safety ≡ Some s) where
      abbrev a : Arrived
      a = receiver.after_byte (receiver_of (link_of p).bytes s.part) x

      sound : follows.Sound (receiver_of (link_of p).bytes s.part)
      sound = record { places = k.whole.packet_places; tested = (stands (link_of p) s (pump_link p k.whole.sound) is).received }

      outcome_is : (y : told.Outcome) → (taken p x).outcome ≡ y → a.outcome ≡ y
      outcome_is y e = sym (ap (λ (t : Taken). t.outcome) (safe_after (link_of p) s x is)) ∙ e

      heard_is : (y : told.Outcome) → (taken p x).outcome ≡ y → follows.heard a ≡ follows.heard_by (taken p x).link.bytes y
      heard_is y e =
          ap (follows.heard_by a.receiver.bytes) (outcome_is y e)
          ∙ ap (λ (t : Taken). follows.heard_by t.link.bytes y) (sym (safe_after (link_of p) s x is))

      joins :
          (y : told.Outcome)
          → (taken p x).outcome ≡ y
          → AnsweredBy (follows.heard_by (taken p x).link.bytes y) answered
          → SamePacket (taken p x).link (packet_after b (is_safe (view_of p)) answered (byte_in x buffer)) 0
      joins y e h =
          subst (λ (z : Packet). SamePacket (taken p x).link z 0) (sym packet_is)
          (byte_packet (link_of p) s is sound b.packet b.quiet packet x answered
          (subst (λ (z : Heard). AnsweredBy z answered) (sym (heard_is y e)) h))

      -- a good one: what the observer reads in it is what it asks for, and it is over
      module _ (n : ℕ) (e : (taken p x).outcome ≡ outcome.Good n) where
        abbrev d : List ℕ
        d = take n (taken p x).link.bytes

        data_is : Agree (read p b k x buffer room o) (pump_asked (asked_of d).request)
        data_is =
            subst
            (λ (t : Bool).
            Agree (orders.said (if t then packet_data b.packet else characters b.line)) (pump_asked (asked_of d).request))
            (sym (seen_as true safe))
            (subst (λ (u : List ℕ). Agree (orders.said u) (pump_asked (asked_of d).request))
            (sym (read_data (link_of p) s is sound b.packet b.quiet packet x d (heard_is (outcome.Good n) e)))
            (data_agree d))

        packet_over :
            (l : Link)
            → place_in l.safety ≡ None
            → SamePacket l (packet_after b (is_safe (view_of p)) answered (byte_in x buffer)) 0
        packet_over l h =
            subst (λ (z : Packet). SamePacket l z 0)
            (sym (packet_is ∙ over_good (link_of p) s is sound b.packet b.quiet packet x answered d (heard_is (outcome.Good n) e)))
            (none_there l 0 h)

        cleared_outside : place_in (cleared_link (taken p x).link).safety ≡ None
        cleared_outside =
            ap (λ (l : Link). place_in l.safety) (good_cleared (link_of p) x n (pump_link p k.whole.sound) e)
            ∙ limited_outside (link.limit_of (link_of p))

  -- ---- any byte
  heard_safely :
      (safe : link.is_safe (link_of p) ≡ true)
      → ((s : Safety) → (link_of p).safety ≡ Some s → Followed b event)
      → Followed b event
  unfolding link.is_safe
  heard_safely safe f = go (link_of p).safety refl
    where
      go : (m : Option Safety) → (link_of p).safety ≡ m → Followed b event
      go None e = false_true (sym (ap safe_in e) ∙ safe)
      go (Some s) e = f s e

  heard_steps :
      (l : Listened)
      → Hears p x l
      → Still l.pump o
      → Answers p b k x buffer room o l.said
      → Whole l.pump
      → Followed b event
  heard_steps l (out.collected basic n) s a w =
      followed _ s
      (unobeyed p b k x buffer room o _ s (obeyed_is p b k x buffer room o said.Nothing a ∙ nothing_plain) w (kept_line basic n) refl refl
      (moving_on p) (stays refl refl refl refl (alike_same _)))
      (packet_stays basic (link_of p) (place_outside basic))
  heard_steps l (out.line_ends m basic e h) s a w =
      let lined = ended_line basic e in
      let agrees = line_read basic in
      followed _ s (text_steps p b k x buffer room o empty_line (link_of p) lined (asked_in p.device.line) agrees m h s a w)
      (packet_stays basic (link_of m.pump)
      (text_outside p b k x buffer room o empty_line (link_of p) lined (asked_in p.device.line) agrees m h (place_outside basic)))
  heard_steps l (out.packet_goes_on safe e) s a w =
      heard_safely safe
      (λ y is.
      followed _ s
      (unobeyed p b k x buffer room o _ s (obeyed_is p b k x buffer room o said.Nothing a ∙ nothing_plain) w (line_stays safe) refl refl
      (moving_on p) (stays refl refl refl refl (alike_same _)))
      (joins safe y is outcome.Nothing e (ap (ltb 0) a.whole)))
  heard_steps l (out.packet_wrong safe e) s a w =
      let q = pump_with_link p (taken p x).link in
      let status = status_run (run_of q) (here_of q).direction in
      let some = lt-ltb 0 o.report.length (omega (arith, a.whole, answer_least (frame_of p) 0 status reply.Garbled)) in
      heard_safely safe
      (λ y is.
      followed q s
      (unobeyed p b k x buffer room o q s
      (obeyed_is p b k x buffer room o (said.Answer status reply.Garbled) a ∙ error_plain status reply.Garbled refl) w (line_stays safe)
      refl refl (moving_on p) (stays refl refl refl refl (alike_same _)))
      (joins safe y is outcome.Wrong e some))
  heard_steps l (out.packet_good n m safe e h) s a w =
      heard_safely safe
      (λ y is.
      let lk = cleared_link (taken p x).link in
      let agrees = data_is safe y is n e in
      let ask = asked_of (take n (taken p x).link.bytes) in
      followed _ s (text_steps p b k x buffer room o p.device.line lk (line_stays safe) ask agrees m h s a w)
      (packet_over safe y is n e (link_of m.pump)
      (text_outside p b k x buffer room o p.device.line lk (line_stays safe) ask agrees m h (cleared_outside safe y is n e))))

  pub byte_steps : ByteHeard p x buffer o → Whole o.report.pump → Followed b event
  byte_steps h w = heard_steps h.said h.hears h.still h.written (subst Whole h.still.new_state w)
