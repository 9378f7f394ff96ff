-- The calls by what was tested and what was called: the pin and the byte, and what each call refuses.
-- Assumes nothing.
use Rattle.std.specs.Prelude.{if◌then◌else◌, Option, None, Some, not}
use Prim.Native.Nat.{ℕ, ◌+◌, ◌≤◌, ◌<◌}
use mathlib.Core.Path.{◌≡◌, refl, sym, ap, ◌∙◌, subst}
use mathlib.Core.Logic.{◌⊎◌, inl, inr, ⊎_elim}
use mathlib.Core.Bool.{Bool, true, false}
use mathlib.Core.List.{List}
use native.Mathlib.Omega.{arith}
use lib.Dec.{leb, ltb, eqb}
use lib.ListN.{length}
use borrow.Author.Tests.{lt-ltb, le-ltb, ltb-false, ne_eqb}
use Rattle.base.proofs.Choices.{false_true}
use Rattle.words.specs.declared.answers.Said.{Said}
use Rattle.words.specs.declared.answers.Said.TheVariants.{Nothing}
use Rattle.words.specs.declared.commands.Asked.{Asked}
use Rattle.words.specs.declared.phases.Phase.{Phase}
use Rattle.program.specs.Runs.{is_operating}
use Rattle.program.specs.Statuses.{in_hand}
use Rattle.program.specs.declared.state.Core.{Core}
use Rattle.program.proofs.Parts.{core_clauses, run_clauses}
use Rattle.leap.specs.Leaps.{most_ticks}
use Rattle.line.specs.Lines.{empty_line, after_byte}
use Rattle.line.specs.Requests.{asked_in}
use Rattle.packet.specs.declared.receiver.Outcome as packet
use Rattle.packet.specs.declared.receiver.Outcome.TheVariants as o
use Rattle.link.specs.Link.{is_safe, is_sound_link, link_after}
use Rattle.link.specs.declared.Link.{Link}
use Rattle.answer.specs.Answers.{room, length_in, buffer_after}
use Rattle.answer.specs.declared.frame.Frame.{Frame}
use Rattle.answer.specs.declared.frame.Frame.TheVariants as frame
use Rattle.answer.specs.declared.frame.Frame.TheVariants.{Packet}
use Rattle.pump.specs.Arriving.{arrival, packet_arrival, is_whole}
use Rattle.pump.specs.Calls.{Handy, pin_call, silently, after_text, told_of, heard_in, hear, frame_in, frame_of, answered, byte_report, byte_buffer}
use Rattle.pump.specs.Device.{with_line, edge, hear_text, said}
use Rattle.pump.specs.Elapsing.{after_ticks, sent_in}
use Rattle.pump.specs.Going.{moves_in}
use Rattle.pump.specs.Holder.{phase_count, phase_at, here_of, with_device, edited, is_sound_pump}
use Rattle.pump.specs.Reports.{is_pin, of_pin, of_byte, of_ticks, is_refused, Outcome, unstepped, gone, gone_buffer}
use Rattle.pump.specs.declared.arriving.Arrival.{Arrival}
use Rattle.pump.specs.declared.arriving.Brought.{Brought}
use Rattle.pump.specs.declared.arriving.Brought.TheVariants as brought
use Rattle.pump.specs.declared.calls.Listened.{Listened}
use Rattle.pump.specs.declared.device.Device.{Device}
use Rattle.pump.specs.declared.device.Heard.{Heard}
use Rattle.pump.specs.declared.holder.Pump.{Pump}
use Rattle.pump.specs.declared.many.Going.{Going}
use Rattle.pump.specs.declared.reports.Refusal.{Refusal}
use Rattle.pump.specs.declared.reports.Report.{Report}
use Rattle.pump.specs.declared.reports.Refusal.TheVariants.{ShortBuffer, NoPin, NoLevel, Unsound, TooManyTicks}
use Rattle.pump.proofs.Kept.{pump_core, pump_link}

-- ---- what a sound pump lends to the rules
module _ (p : Pump) (few : phase_count p ≤ 99) (e : is_sound_pump p ≡ true) where
  handy : Handy p
  handy =
      let c = core_clauses (phase_count p) p.device.core (here_of p) (pump_core p e) in
      let r = run_clauses (phase_count p) p.device.core.run c.under_way_lem in
      record { current_few = omega (arith, few, r.most); chosen_few = omega (arith, few, c.chosen_most) }

-- no byte changes anything of that before it is heard
core_kept : (v : Device) (b : ℕ) → (arrival v b).device.core ≡ v.core
unfolding arrival
core_kept v b = go (is_safe v.link) (link_after v.link b).outcome (after_byte v.line b).ended
  where
    go : (t : Bool) (x : packet.Outcome) (u : Bool)
        → (if t
        then packet_arrival v (link_after v.link b).link x
        else (if u
        then record { device = with_line v empty_line; brought = brought.Text (asked_in (after_byte v.line b).line) }
        else record { device = with_line v (after_byte v.line b).line; brought = brought.Nothing })).device.core ≡ v.core
    go true o.Nothing u = refl
    go true o.Wrong u = refl
    go true (o.Good n) u = refl
    go false x true = refl
    go false x false = refl

pub handy_behind : (p : Pump) (b : ℕ) (a : Arrival) → Handy p → a ≡ arrival p.device b → Handy (with_device p a.device)
handy_behind p b a h e =
    let k : a.device.core ≡ p.device.core = ap (λ (x : Arrival). x.device.core) e ∙ core_kept p.device b in
    record {
      current_few = subst (λ (x : Core). x.run.place.current ≤ 100) (sym k) h.current_few;
      chosen_few = subst (λ (x : Core). x.chosen ≤ 100) (sym k) h.chosen_few;
    }

-- the phase in hand
hand_few : (p : Pump) → Handy p → (b : Bool) → is_operating p.device.core.run ≡ b → in_hand p.device.core ≤ 100
hand_few p h true k = rw k h.current_few
hand_few p h false k = rw k h.chosen_few

pub few_in_hand : (p : Pump) (n : ℕ) → Handy p → n ≡ in_hand p.device.core → n ≤ 100
few_in_hand p n h e = rw e (hand_few p h (is_operating p.device.core.run) refl)

-- ---- the refusal of a pin and of a byte, by what is tested
module _ (sound : Bool) (pin level : ℕ) where
  module _ (e : sound ≡ true) where
    module _ (h : (pin ≡ 2) ⊎ (pin ≡ 4) ⊎ (pin ≡ 6)) where
      is_pin_lem : is_pin pin ≡ true
      is_pin_lem = ⊎_elim (λ k. rw k refl) (⊎_elim (λ k. rw k refl) (λ k. rw k refl)) h

      pub no_level : 1 < level → Some NoLevel ≡ of_pin sound pin level
      unfolding of_pin
      no_level k = sym (simp (e, is_pin_lem, lt-ltb 1 level k))

      pub pin_accepted : level ≤ 1 → None ≡ of_pin sound pin level
      unfolding of_pin
      pin_accepted k = sym (simp (e, is_pin_lem, le-ltb 1 level k))

    pub no_pin : ((pin ≡ 2) ⊎ (pin ≡ 4) ⊎ (pin ≡ 6) → ⊥) → Some NoPin ≡ of_pin sound pin level
    unfolding of_pin
    no_pin n =
        sym (simp (e, ne_eqb pin 2 (λ k. n (inl k)), ne_eqb pin 4 (λ k. n (inr (inl k))), ne_eqb pin 6 (λ k. n (inr (inr k)))))

  pub pin_unsound : sound ≡ false → Some Unsound ≡ of_pin sound pin level
  unfolding of_pin
  pin_unsound e = sym (simp e)

pub ruleset pins = (no_level, pin_accepted, no_pin, pin_unsound)

module _ (sound : Bool) (size : ℕ) where
  pub short : sound ≡ true → size < room → Some ShortBuffer ≡ of_byte sound size
  unfolding of_byte
  short e k = sym (simp (e, lt-ltb size room k))

  pub byte_accepted : sound ≡ true → room ≤ size → None ≡ of_byte sound size
  unfolding of_byte
  byte_accepted e k = sym (simp (e, le-ltb size room k))

  pub byte_unsound : sound ≡ false → Some Unsound ≡ of_byte sound size
  unfolding of_byte
  byte_unsound e = sym (simp e)

pub ruleset bytes = (short, byte_accepted, byte_unsound)

module _ (sound : Bool) (size n : ℕ) where
  pub ticks_short : sound ≡ true → size < room → Some ShortBuffer ≡ of_ticks sound size n
  unfolding of_ticks
  ticks_short e k = sym (simp (e, lt-ltb size room k))

  pub too_many : sound ≡ true → room ≤ size → most_ticks < n → Some TooManyTicks ≡ of_ticks sound size n
  unfolding of_ticks
  too_many e h k = sym (simp (e, le-ltb size room h, lt-ltb most_ticks n k))

  pub ticks_accepted : sound ≡ true → room ≤ size → n ≤ most_ticks → None ≡ of_ticks sound size n
  unfolding of_ticks
  ticks_accepted e h k = sym (simp (e, le-ltb size room h, le-ltb most_ticks n k))

  pub ticks_unsound : sound ≡ false → Some Unsound ≡ of_ticks sound size n
  unfolding of_ticks
  ticks_unsound e = sym (simp e)

pub ruleset many = (ticks_short, too_many, ticks_accepted, ticks_unsound)

-- ---- what is not refused is of a sound state
pin_sound : (sound : Bool) (pin level : ℕ) → is_refused (of_pin sound pin level) ≡ false → sound ≡ true
unfolding of_pin
pin_sound true pin level h = refl
pin_sound false pin level h = false_true (sym h)

byte_sound : (sound : Bool) (size : ℕ) → is_refused (of_byte sound size) ≡ false → sound ≡ true
unfolding of_byte
byte_sound true size h = refl
byte_sound false size h = false_true (sym h)

-- ---- ticks that are not refused: the state is sound, the buffer has room, and they are not too many
pub record Taken (sound : Bool) (size n : ℕ) : Type 0 where
  pub accepted : of_ticks sound size n ≡ None
  pub of_sound : sound ≡ true
  pub roomy : room ≤ size
  pub few : n ≤ most_ticks

pub many_taken : (sound : Bool) (size n : ℕ) → is_refused (of_ticks sound size n) ≡ false → Taken sound size n
unfolding of_ticks
many_taken true size n h = by (ltb size room) refl (ltb most_ticks n) refl h
  where
    by :
        (t : Bool)
        → ltb size room ≡ t
        → (u : Bool)
        → ltb most_ticks n ≡ u
        → is_refused (if t then Some ShortBuffer else if u then Some TooManyTicks else None) ≡ false
        → Taken true size n
    by true k u m z = false_true (sym z)
    by false k true m z = false_true (sym z)
    by false k false m z =
        record { accepted = simp (k, m); of_sound = refl; roomy = ltb-false size room k; few = ltb-false most_ticks n m }
many_taken false size n h = false_true (sym h)

-- ---- a byte that is not refused finds a pump that the rules can rely on
pub byte_ready :
    (p : Pump) (u : Bool) (x : Option Refusal) (size : ℕ)
    → u ≡ is_sound_pump p
    → x ≡ of_byte u size
    → phase_count p ≤ 99
    → is_refused x ≡ false
    → Handy p × (is_sound_link p.device.link ≡ true)
byte_ready p u x size is k few h =
    let sound = sym is ∙ byte_sound u size (ap is_refused (sym k) ∙ h) in
    (handy p few sound, pump_link p sound)

-- where nothing is said nothing is written
pub silent_length : (f : Frame) (buffer : List ℕ) → 0 ≡ length_in f 0 Nothing buffer
unfolding length_in
silent_length f buffer = by (leb room (length buffer))
  where
    by : (t : Bool) → ◌≡◌ {A = ℕ} 0 (if t then 0 else 0)
    by true = refl
    by false = refl

pub silent_buffer : (f : Frame) (buffer : List ℕ) → buffer ≡ buffer_after f 0 Nothing buffer
unfolding buffer_after
silent_buffer f buffer = by (leb room (length buffer))
  where
    by : (t : Bool) → buffer ≡ (if t then buffer else buffer)
    by true = refl
    by false = refl

-- ---- what is not refused is accepted; a byte that brings nothing to its end has nothing to be heard
none_refused : (x : Option Refusal) → is_refused x ≡ false → x ≡ None
none_refused None e = refl
none_refused (Some x) e = false_true (sym e)

module _ (x : Option Refusal) (t : Bool) (e : is_refused x ≡ not t) where
  pub was_none : t ≡ true → is_refused x ≡ false
  was_none h = e ∙ ap not h

  pub was_some : t ≡ false → is_refused x ≡ true
  was_some h = e ∙ ap not h

none_brought : (x : Brought) → is_whole x ≡ false → x ≡ brought.Nothing
none_brought brought.Nothing e = refl
none_brought brought.Wrong e = false_true (sym e)
none_brought (brought.Text asked) e = false_true (sym e)

-- ---- the pin and the byte: refused, or done
module _ (p : Pump) (u : Bool) (s : u ≡ is_sound_pump p) (x : Option Refusal) where
  module _ (pin level : ℕ) (k : x ≡ of_pin u pin level) where
    pin_refusal : x ≡ of_pin (is_sound_pump p) pin level
    pin_refusal = k ∙ ap (λ (w : Bool). of_pin w pin level) s

    pin_tested : is_refused (of_pin (is_sound_pump p) pin level) ≡ is_refused x
    pin_tested = ap is_refused (sym pin_refusal)

    pub pin_handy : phase_count p ≤ 99 → is_refused x ≡ false → Handy p
    pin_handy few h = handy p few (pin_sound (is_sound_pump p) pin level (pin_tested ∙ h))

    pub pin_refused : is_refused x ≡ true → unstepped p 0 x ≡ pin_call p pin level
    unfolding pin_call
    pin_refused h = ap (unstepped p 0) pin_refusal ∙ sym (simp (pin_tested ∙ h))

    pub pin_done : (v : Device) → is_refused x ≡ false → v ≡ edge p.device pin (eqb level 1) → unstepped (with_device p v) 0 x ≡ pin_call p pin level
    unfolding pin_call
    pin_done v h e =
        ap (λ (w : Device). unstepped (with_device p w) 0 x) e
        ∙ ap (unstepped (with_device p (edge p.device pin (eqb level 1))) 0) (none_refused x h)
        ∙ sym (simp (pin_tested ∙ h))

  module _ (b : ℕ) (buffer : List ℕ) (k : x ≡ of_byte u (length buffer)) where
    byte_refusal : x ≡ of_byte (is_sound_pump p) (length buffer)
    byte_refusal = k ∙ ap (λ (w : Bool). of_byte w (length buffer)) s

    byte_tested : is_refused (of_byte (is_sound_pump p) (length buffer)) ≡ is_refused x
    byte_tested = ap is_refused (sym byte_refusal)

    abbrev byte_done : Outcome
    byte_done = record { report = byte_report p b buffer; buffer = byte_buffer p b buffer }

    pub byte_refused : is_refused x ≡ true → record { report = unstepped p 0 x; buffer = buffer } ≡ byte_done
    unfolding byte_report byte_buffer
    byte_refused h =
        ap (λ (y : Option Refusal). record { report = unstepped p 0 y; buffer = buffer }) byte_refusal ∙ sym (simp (byte_tested ∙ h))

    module _ (h : is_refused x ≡ false) (a : Arrival) (e : a ≡ arrival p.device b) (w : Bool) (is : w ≡ is_whole a.brought) where
      accepted : x ≡ None
      accepted = none_refused x h

      heard_as : heard_in p a ≡ hear p b
      unfolding hear
      heard_as = ap (heard_in p) e

      byte_as :
          (l : Listened)
          → l ≡ hear p b
          → record { report = answered l.pump (frame_of p) l.said buffer; buffer = buffer_after (frame_of p) 0 l.said buffer }
          ≡ byte_done
      unfolding byte_report byte_buffer
      byte_as l q =
          ap
          (λ (y : Listened).
          record { report = answered y.pump (frame_of p) y.said buffer; buffer = buffer_after (frame_of p) 0 y.said buffer })
          q
          ∙ sym (simp (byte_tested ∙ h))

      pub byte_silent : w ≡ false → record { report = unstepped (with_device p a.device) 0 x; buffer = buffer } ≡ byte_done
      byte_silent z =
          let quiet : silently (with_device p a.device) ≡ hear p b =
          sym (ap (told_of (with_device p a.device)) (none_brought a.brought (sym is ∙ z))) ∙ heard_as in
          (λ k.
          record {
            report = unstepped (with_device p a.device) (silent_length (frame_of p) buffer k) (accepted k);
            buffer = silent_buffer (frame_of p) buffer k;
          })
          ∙ byte_as _ quiet

      pub byte_answered :
          (l : Listened) (f : Frame) (n : ℕ) (after : List ℕ)
          → l ≡ told_of (with_device p a.device) a.brought
          → f ≡ frame_of p
          → n ≡ length_in f 0 l.said buffer
          → after ≡ buffer_after f 0 l.said buffer
          → record { report = unstepped l.pump n x; buffer = after } ≡ byte_done
      byte_answered l f n after q k i j =
          (λ m. record { report = unstepped l.pump (i m) (accepted m); buffer = j m })
          ∙ ap
          (λ (y : Frame).
          record { report = answered l.pump y l.said buffer; buffer = buffer_after y 0 l.said buffer })
          k
          ∙ byte_as l (q ∙ heard_as)

-- what the call hands back, by its parts
pub byte_parts :
    (r : Report) (q : Pump) (x : Option Refusal) (o : Outcome) (n : ℕ) (out : List ℕ) (p : Pump) (m : ℕ) (ms : List ℕ)
    → r ≡ unstepped q n x
    → q ≡ p
    → n ≡ m
    → out ≡ ms
    → record { report = unstepped p m x; buffer = ms } ≡ o
    → (r ≡ o.report) × (out ≡ o.buffer)
byte_parts r q x o n out p m ms e a l k z =
    let told = e ∙ (λ i. unstepped (a i) (l i) x) in
    (told ∙ ap (λ (y : Outcome). y.report) z, k ∙ ap (λ (y : Outcome). y.buffer) z)

pub frame_safe : (l : Link) (t : Bool) → t ≡ is_safe l → t ≡ true → Packet ≡ frame_in l
frame_safe l t e k = sym (simp (sym e ∙ k))

pub frame_basic : (l : Link) (t : Bool) → t ≡ is_safe l → t ≡ false → frame.Line ≡ frame_in l
frame_basic l t e k = sym (simp (sym e ∙ k))

-- ---- a whole text; what is said has the status after the command
pub listened_as :
    {count : ℕ} (p : Pump) (asked : Asked) (n : ℕ) (hand next current : Phase) (h : Heard) (held after : Pump) (x : Said)
    → phase_count p ≡ count
    → n ≡ in_hand p.device.core
    → hand ≡ phase_at p.phases n
    → next ≡ phase_at p.phases (n + 1)
    → h ≡ hear_text p.device asked hand next.function count
    → held ≡ with_device p h.device
    → after ≡ edited held n h.edit
    → current ≡ here_of after
    → x ≡ said after.device h.told current.direction
    → record { pump = after; said = x } ≡ after_text p asked
unfolding after_text
listened_as p asked n hand next current h held after x full a b d g k q e f = rw (f, e, q, k, g, b, d, a, full)

-- ---- ticks that are over: what they send is written
module _ (p : Pump) (g : Going) (n : ℕ) (buffer : List ℕ) (x : Said) (told : x ≡ sent_in n p.device g.core) where
  pub gone_as :
      (refusal : Option Refusal) (size : ℕ) (v : Device)
      → size ≡ length_in Packet 0 x buffer
      → v ≡ after_ticks n p.device g.core
      → record {
        pump = with_device p v;
        length = size;
        infused = g.infused;
        withdrawn = g.withdrawn;
        beeps = g.beeps;
        ticks = n;
        refusal = refusal;
        output = g.core.output;
      } ≡ gone p (moves_in g) n refusal buffer
  gone_as refusal size v a b = rw (b, a, told)

  pub gone_written : (after : List ℕ) → after ≡ buffer_after Packet 0 x buffer → after ≡ gone_buffer p (moves_in g) n buffer
  gone_written after e = e ∙ ap (λ (y : Said). buffer_after Packet 0 y buffer) told
