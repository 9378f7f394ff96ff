-- What a text and a byte make the pump say, as the relations HearsText and Hears and as the definitions of the calls: the two agree.
-- Assumes nothing.
use Rattle.std.specs.Prelude.{if◌then◌else◌, Option, Some, None}
use Prim.Native.Nat.{ℕ, ◌+◌, ◌≤◌, ◌<◌}
use mathlib.Core.Path.{◌≡◌, refl, sym, ap, ◌∙◌, subst}
use mathlib.Core.Bool.{Bool, true, false}
use lib.Dec.{leb, eqb}
use lib.ListN.{take}
use borrow.Author.Tests.{eqb-true, eqb-false, eq-eqb, ne_eqb, le-leb, lt-leb, leb-true, leb-false}
use Rattle.words.specs.declared.answers.Reply.TheVariants as reply
use Rattle.words.specs.declared.answers.Alarm.{Alarm}
use Rattle.words.specs.declared.commands.Asked.{Asked}
use Rattle.words.specs.declared.commands.Command.{Command}
use Rattle.words.specs.declared.commands.Request.{Request}
use Rattle.words.specs.declared.commands.Request.TheVariants as r
use Rattle.program.specs.Runs.{pending}
use Rattle.program.specs.Statuses.{in_hand}
use Rattle.line.specs.Characters.{is_return, is_dropped, arrival_of, raised}
use Rattle.line.specs.Lines.{after_arrival, after_byte}
use Rattle.line.specs.Requests.{asked_in, asked_of}
use Rattle.line.specs.declared.arriving.Arrival.{Arrival}
use Rattle.line.specs.declared.arriving.Arrival.TheVariants.{Dropped, Kept}
use Rattle.line.specs.declared.lines.Arrived.{Arrived}
use Rattle.line.specs.declared.lines.Line.{Line}
use Rattle.packet.specs.declared.receiver.Outcome as told
use Rattle.packet.specs.declared.receiver.Outcome.TheVariants as packet
use Rattle.link.specs.Link.{is_safe, limited_to, cleared_link}
use Rattle.link.specs.declared.Link.{Link}
use Rattle.pump.specs.Arriving.{line_arrival, packet_arrival, arrival}
use Rattle.pump.specs.Calls.{listened_to, after_text, heard_in, hear}
use Rattle.pump.specs.Device as device
use Rattle.pump.specs.Holder.{phase_count, phase_at}
use Rattle.pump.specs.declared.calls.Listened.{Listened}
use Rattle.pump.specs.declared.holder.Pump.{Pump}
use Rattle.statement.specs.Facts.{core_of, link_of, run_of}
use Rattle.statement.specs.Outcomes.{pump_with_line, pump_with_link, quiet, emptied, taken, carried_out}
use Rattle.statement.specs.Outcomes.{HearsText, other_address, alarm_pending, asks_limit, sets_limit, limit_too_great, resets, obeys}
use Rattle.statement.specs.Outcomes.{Hears, collected, line_ends, packet_goes_on, packet_wrong, packet_good}

-- ---- a text
module _ (p : Pump) (asked : Asked) where
  -- of ours, by what is pending, and by what is asked
  abbrev ours_with : Option Alarm → Listened
  ours_with x =
      listened_to p
      (device.ours_by p.device asked.request (phase_at p.phases (in_hand (core_of p)))
      (phase_at p.phases (in_hand (core_of p) + 1)).function (phase_count p) x)

  abbrev met_with : Request → Listened
  met_with x =
      listened_to p
      (device.met p.device x (phase_at p.phases (in_hand (core_of p))) (phase_at p.phases (in_hand (core_of p) + 1)).function
      (phase_count p))

  text_ours : asked.address ≡ 0 → after_text p asked ≡ ours_with (pending (run_of p))
  unfolding after_text device.hear_text device.ours
  text_ours e = simp (eq-eqb asked.address 0 e)

  pub text_other : (asked.address ≡ 0 → ⊥) → after_text p asked ≡ quiet p
  unfolding after_text device.hear_text
  text_other n = simp (ne_eqb asked.address 0 n)

  text_met : asked.address ≡ 0 → pending (run_of p) ≡ None → after_text p asked ≡ met_with asked.request
  text_met e k = text_ours e ∙ ap ours_with k

  met_limit : (n : ℕ) → n ≤ 255 → met_with (r.SetLimit n) ≡ listened_to p (device.replied (device.with_link p.device (limited_to n)) reply.Status)
  unfolding device.set_limit
  met_limit n h = simp (le-leb n 255 h)

  met_great : (n : ℕ) → 255 < n → met_with (r.SetLimit n) ≡ listened_to p (device.replied p.device reply.OutOfRange)
  unfolding device.set_limit
  met_great n h = simp (lt-leb n 255 h)

  met_command : (command : Command) → met_with (r.Pump command) ≡ carried_out p command
  unfolding device.obeyed
  met_command command = refl

  -- whatever the relation lets a text say is what the definitions say
  pub text_is : (l : Listened) → HearsText p asked l → l ≡ after_text p asked
  text_is l (other_address n) = sym (text_other n)
  text_is l (alarm_pending a z k) = sym (text_ours z ∙ ap ours_with k)
  text_is l (asks_limit z k e) = sym (text_met z k ∙ ap met_with e)
  text_is l (sets_limit n z k e h) = sym (text_met z k ∙ ap met_with e ∙ met_limit n h)
  text_is l (limit_too_great n z k e h) = sym (text_met z k ∙ ap met_with e ∙ met_great n h)
  text_is l (resets z k e) = sym (text_met z k ∙ ap met_with e ∙ met_command _)
  text_is l (obeys command z k e) = sym (text_met z k ∙ ap met_with e ∙ met_command command)

  -- and back
  met_heard : asked.address ≡ 0 → pending (run_of p) ≡ None → (x : Request) → asked.request ≡ x → HearsText p asked (met_with x)
  met_heard z k r.AskLimit e = asks_limit z k e
  met_heard z k (r.SetLimit n) e = go (leb n 255) refl
    where
      go : (t : Bool) → leb n 255 ≡ t → HearsText p asked (met_with (r.SetLimit n))
      go true h =
          let few = leb-true n 255 h in
          subst (HearsText p asked) (sym (met_limit n few)) (sets_limit n z k e few)
      go false h =
          let many = leb-false n 255 h in
          subst (HearsText p asked) (sym (met_great n many)) (limit_too_great n z k e many)
  met_heard z k (r.Pump command) e = subst (HearsText p asked) (sym (met_command command)) (obeys command z k e)

  ours_heard : asked.address ≡ 0 → (x : Option Alarm) → pending (run_of p) ≡ x → HearsText p asked (ours_with x)
  ours_heard z (Some a) k = alarm_pending a z k
  ours_heard z None k = met_heard z k asked.request refl

  pub text_heard : HearsText p asked (after_text p asked)
  text_heard = go (eqb asked.address 0) refl
    where
      go : (t : Bool) → eqb asked.address 0 ≡ t → HearsText p asked (after_text p asked)
      go true e =
          let z = eqb-true asked.address 0 e in
          subst (HearsText p asked) (sym (text_ours z)) (ours_heard z (pending (run_of p)) refl)
      go false e =
          let n = eqb-false asked.address 0 e in
          subst (HearsText p asked) (sym (text_other n)) (other_address n)

-- ---- what is heard of a byte, by the mode in which it came
abbrev heard_by : Pump → Arrived → Listened
heard_by p a = heard_in p (line_arrival p.device a)

abbrev pub told_by : Pump → Link → told.Outcome → Listened
told_by p l x = heard_in p (packet_arrival p.device l x)

-- ---- the return, and any other byte
returned : (l : Line) (b : ℕ) → b ≡ 13 → after_byte l b ≡ record { line = l; ended = true }
unfolding after_byte arrival_of is_return
returned l b e = simp (eq-eqb b 13 e)

not_ended : (l : Line) (b : ℕ) → (b ≡ 13 → ⊥) → (after_byte l b).ended ≡ false
unfolding after_byte arrival_of is_return
not_ended l b n = rw (ne_eqb b 13 n) (go (is_dropped b))
  where
    go : (t : Bool) → (after_arrival l (if◌then◌else◌ {A = Arrival} t Dropped (Kept (raised b)))).ended ≡ false
    go true = refl
    go false = refl

module _ (p : Pump) (b : ℕ) where
  abbrev line : Line
  line = p.device.line

  abbrev link : Link
  link = (taken p b).link

  in_line : is_safe (link_of p) ≡ false → hear p b ≡ heard_by p (after_byte line b)
  unfolding hear arrival
  in_line e = simp e

  pub in_packet : is_safe (link_of p) ≡ true → hear p b ≡ told_by p link (taken p b).outcome
  unfolding hear arrival
  in_packet e = simp e

  pub at_return : is_safe (link_of p) ≡ false → b ≡ 13 → hear p b ≡ after_text (emptied p) (asked_in line)
  at_return e r = in_line e ∙ ap (heard_by p) (returned line b r)

  at_other : is_safe (link_of p) ≡ false → (b ≡ 13 → ⊥) → hear p b ≡ quiet (pump_with_line p (after_byte line b).line)
  at_other e n = in_line e ∙ still
    where
      still : heard_by p (after_byte line b) ≡ quiet (pump_with_line p (after_byte line b).line)
      still = rw (not_ended line b n) refl

  -- ---- whatever the relation lets a byte say is what the definitions say
  pub hears_is : (l : Listened) → Hears p b l → l ≡ hear p b
  hears_is l (collected e n) = sym (at_other e n)
  hears_is l (line_ends x e r h) = text_is (emptied p) (asked_in line) x h ∙ sym (at_return e r)
  hears_is l (packet_goes_on e k) = sym (in_packet e ∙ ap (told_by p link) k)
  hears_is l (packet_wrong e k) = sym (in_packet e ∙ ap (told_by p link) k)
  hears_is l (packet_good n x e k h) =
      text_is (pump_with_link p (cleared_link link)) (asked_of (take n link.bytes)) x h ∙ sym (in_packet e ∙ ap (told_by p link) k)

  -- ---- and back
  hears_line : is_safe (link_of p) ≡ false → (t : Bool) → eqb b 13 ≡ t → Hears p b (hear p b)
  hears_line e true k =
      let r = eqb-true b 13 k in
      subst (Hears p b) (sym (at_return e r)) (line_ends _ e r (text_heard (emptied p) (asked_in line)))
  hears_line e false k =
      let n = eqb-false b 13 k in
      subst (Hears p b) (sym (at_other e n)) (collected e n)

  hears_packet : is_safe (link_of p) ≡ true → (x : told.Outcome) → (taken p b).outcome ≡ x → Hears p b (told_by p link x)
  hears_packet e packet.Nothing k = packet_goes_on e k
  hears_packet e packet.Wrong k = packet_wrong e k
  hears_packet e (packet.Good n) k =
      packet_good n _ e k (text_heard (pump_with_link p (cleared_link link)) (asked_of (take n link.bytes)))

  pub hears : Hears p b (hear p b)
  hears = go (is_safe (link_of p)) refl
    where
      go : (t : Bool) → is_safe (link_of p) ≡ t → Hears p b (hear p b)
      go true e = subst (Hears p b) (sym (in_packet e)) (hears_packet e (taken p b).outcome refl)
      go false e = hears_line e (eqb b 13) refl
