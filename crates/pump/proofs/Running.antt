-- Many ticks of the pump are as many of its core and of its link, up to one that sends an alarm, and stay sound; what is known with some
-- of them left.
-- Assumes nothing.
use Rattle.std.specs.Prelude.{if◌then◌else◌, Option, Some, None, is_some}
use Prim.Native.Nat.{ℕ, zero, suc, ◌+◌, ◌-◌, ◌*◌, ◌≤◌, ◌<◌}
use mathlib.Core.Path.{◌≡◌, refl, sym, ap, ◌∙◌, subst}
use mathlib.Core.Logic.{◌⊎◌, inl, inr}
use mathlib.Core.Bool.{Bool, true, false, ◌&&◌, ◌||◌, not}
use mathlib.Core.List.{List}
use native.Mathlib.Nat.{zero-add}
use native.Mathlib.Numerals.{add-one}
use native.Mathlib.Omega.{arith}
use lib.Dec.{ltb, eqb}
use lib.ListN.{length}
use borrow.Author.Tests.{le-leb, le-ltb, ltb-true, ltb-false, ne_eqb}
use Rattle.base.proofs.Choices.{and_left, and_right, false_true}
use Rattle.words.specs.declared.answers.Alarm.{Alarm}
use Rattle.words.specs.declared.answers.Alarm.TheVariants.{TimeOut}
use Rattle.words.specs.declared.answers.Said.{Said}
use Rattle.words.specs.declared.answers.Said.TheVariants as said
use Rattle.words.specs.declared.phases.Phase.{Phase}
use Rattle.program.specs.Runs.{pending}
use Rattle.program.specs.declared.state.Core.{Core}
use Rattle.tick.specs.Ticks.{tick}
use Rattle.tick.specs.declared.Moved.{Moved}
use Rattle.leap.specs.Leaps.{most_ticks, Moves, ticks}
use Rattle.soundness.proofs.Ticks.{kept_tick}
use Rattle.packet.specs.Packets.{packet_of}
use Rattle.link.specs.Link.{is_safe, ticks_left, link_ticks}
use Rattle.link.specs.declared.Link.{Link}
use Rattle.link.proofs.Soundness as links
use Rattle.link.proofs.Theorems.{ticks_safe}
use Rattle.answer.specs.Answers.{room, answer_of, length_in, buffer_after}
use Rattle.answer.specs.declared.frame.Frame.TheVariants.{Packet}
use Rattle.pump.specs.Calls.{tick_at, tick_call, tick_buffer, tick_done, and_tick, one_more, in_turn, ticks_call, ticks_buffer}
use Rattle.pump.specs.Elapsing.{is_alarmed, is_due, reach, is_watched, sent_in}
use Rattle.pump.specs.Going.{moves_in, Ongoing, Turned}
use Rattle.pump.specs.Holder.{phase_count, phase_at, with_device, is_sound_pump}
use Rattle.pump.specs.Reports.{of_byte, of_ticks, is_refused, Outcome, refused, unless_refused, reported, moved_by, moved_buffer}
use Rattle.pump.specs.Reports.{gone, gone_buffer}
use Rattle.pump.specs.declared.holder.Pump.{Pump}
use Rattle.pump.specs.declared.many.Going.{Going}
use Rattle.pump.specs.declared.reports.Refusal.{Refusal}
use Rattle.pump.proofs.Alarms as alarms
use Rattle.pump.proofs.Alarms.{Quiet, resting, quiet_none, quiet_before, quiet_sent, quiet_device, next_device, next_sent}
use Rattle.pump.proofs.Calling.{Taken, many_taken, silent_length, silent_buffer}
use Rattle.pump.proofs.Holding.{not_false}
use Rattle.pump.proofs.Kept.{with_pump_core, pump_phases, pump_core, pump_line, pump_link, pump_apart, pump_sound, table_here, core_sound}

abbrev look : Pump → ℕ → Phase
look p = phase_at p.phases

abbrev moves : Pump → ℕ → Moves
moves p i = ticks (look p) i p.device.core

-- ---- a tick of a sound pump, with room for what it sends, is what the rules give
module _ (p : Pump) (buffer : List ℕ) (sound : is_sound_pump p ≡ true) (roomy : room ≤ length buffer) where
  pub sound_tick : tick_call p buffer ≡ moved_by p (tick_at p) buffer
  unfolding tick_call of_byte
  sound_tick = simp (sound, le-ltb (length buffer) room roomy)

  pub sound_tick_buffer : tick_buffer p buffer ≡ moved_buffer p (tick_at p) buffer
  unfolding tick_buffer of_byte
  sound_tick_buffer = simp (sound, le-ltb (length buffer) room roomy)

-- ---- what some ticks come to, and what they come to where none sent an alarm
abbrev gone_of : Pump → ℕ → Option Refusal → List ℕ → Outcome
gone_of p i refusal buffer =
    record { report = gone p (moves p i) i refusal buffer; buffer = gone_buffer p (moves p i) i buffer }

abbrev pub rested : Pump → ℕ → Pump
rested p i = with_device p (resting (look p) p.device i)

abbrev quietly : Pump → ℕ → Option Refusal → List ℕ → Outcome
quietly p i refusal buffer =
    record {
      report =
          record {
            pump = rested p i;
            length = 0;
            infused = (moves p i).infused;
            withdrawn = (moves p i).withdrawn;
            beeps = (moves p i).beeps;
            ticks = i;
            refusal = refusal;
            output = (moves p i).core.output;
          };
      buffer = buffer;
    }

abbrev QuietFor : Pump → ℕ → Type 0
QuietFor p i = Quiet (look p) p.device i

quiet_gone : (p : Pump) (i : ℕ) (refusal : Option Refusal) (buffer : List ℕ) → QuietFor p i → gone_of p i refusal buffer ≡ quietly p i refusal buffer
quiet_gone p i refusal buffer q =
    λ k.
    record {
      report =
          record {
            pump = with_device p (quiet_device (look p) p.device i q k);
            length =
                (ap (λ (x : Said). length_in Packet 0 x buffer) (quiet_sent (look p) p.device i q) ∙ sym (silent_length Packet buffer)) k;
            infused = (moves p i).infused;
            withdrawn = (moves p i).withdrawn;
            beeps = (moves p i).beeps;
            ticks = i;
            refusal = refusal;
            output = (moves p i).core.output;
          };
      buffer =
          (ap (λ (x : Said). buffer_after Packet 0 x buffer) (quiet_sent (look p) p.device i q) ∙ sym (silent_buffer Packet buffer)) k;
    }

module _ (p : Pump) (sound : is_sound_pump p ≡ true) where
  -- a tick keeps a sound state sound
  pub ticks_sound : (i : ℕ) → is_sound_pump (with_pump_core p (moves p i).core) ≡ true
  unfolding ticks
  ticks_sound zero = sound
  ticks_sound (suc i) =
      core_sound p sound _
      (kept_tick (phase_count p) (look p) (table_here p sound) (moves p i).core
      (pump_core (with_pump_core p (moves p i).core) (ticks_sound i)))

  pub rested_sound : (i : ℕ) → is_sound_pump (rested p i) ≡ true
  rested_sound i =
      pump_sound (rested p i) (pump_phases p sound) (pump_core (with_pump_core p (moves p i).core) (ticks_sound i)) (pump_line p sound)
      (links.ticks_sound i p.device.link (pump_link p sound))
      (ap (λ (t : Bool). not t || eqb p.device.line.len 0) (ticks_safe i p.device.link) ∙ pump_apart p sound)

  module _ (buffer : List ℕ) (roomy : room ≤ length buffer) where
    -- one tick behind some that sent nothing
    one_more_lem : (i : ℕ) → QuietFor p i → one_more (quietly p i None buffer) ≡ gone_of p (suc i) None buffer
    unfolding ticks
    one_more_lem i q = ap (and_tick (quietly p i None buffer)) taken ∙ sums
      where
        m : Moved
        m = tick (moves p i).core (look p (moves p i).core.run.place.current)

        taken :
            tick_done (rested p i) buffer
            ≡ record { report = moved_by (rested p i) m buffer; buffer = moved_buffer (rested p i) m buffer }
        taken =
            λ k.
            record {
              report = sound_tick (rested p i) buffer (rested_sound i) roomy k;
              buffer = sound_tick_buffer (rested p i) buffer (rested_sound i) roomy k;
            }

        sums :
            and_tick (quietly p i None buffer)
            (record { report = moved_by (rested p i) m buffer; buffer = moved_buffer (rested p i) m buffer })
            ≡ gone_of p (suc i) None buffer
        sums =
            λ k.
            record {
              report =
                  record {
                    pump = with_device p (next_device (look p) p.device i q m.core k);
                    length = length_in Packet 0 (next_sent (look p) p.device i q m.core k) buffer;
                    infused = (moves p i).infused + m.infused;
                    withdrawn = (moves p i).withdrawn + m.withdrawn;
                    beeps = (moves p i).beeps + (if m.beep then 1 else 0);
                    ticks = add-one i k;
                    refusal = None;
                    output = m.core.output;
                  };
              buffer = buffer_after Packet 0 (next_sent (look p) p.device i q m.core k) buffer;
            }

    -- so many calls of a tick are so many ticks of the core and of the link
    in_turn_lem : (i : ℕ) → QuietFor p i → in_turn (suc i) p buffer ≡ gone_of p (suc i) None buffer
    unfolding in_turn ticks link_ticks
    in_turn_lem zero q = one_more_lem zero q
    in_turn_lem (suc i) q =
        ap one_more (in_turn_lem i (quiet_before (look p) p.device i q) ∙ quiet_gone p (suc i) None buffer q) ∙ one_more_lem (suc i) q

    pub ran_in_turn : (i : ℕ) → (0 < i → QuietFor p (i - 1)) → in_turn i p buffer ≡ gone_of p i None buffer
    unfolding in_turn ticks link_ticks
    ran_in_turn zero q = sym (quiet_gone p 0 None buffer (quiet_none (look p) p.device))
    ran_in_turn (suc i) q =
        let e : suc i - 1 ≡ i = omega arith in
        in_turn_lem i (subst (QuietFor p) e (q (omega arith)))

  -- behind a tick that sent an alarm there is none
  pub no_more :
      (buffer : List ℕ) (i j : ℕ)
      → eqb (in_turn i p buffer).report.length 0 ≡ false
      → in_turn (i + j) p buffer ≡ in_turn i p buffer
  unfolding in_turn
  no_more buffer i zero h = let e : i + 0 ≡ i = omega arith in ap (λ (n : ℕ). in_turn n p buffer) e
  no_more buffer i (suc j) h =
      let e : i + suc j ≡ suc (i + j) = omega arith in
      ap (λ (n : ℕ). in_turn n p buffer) e ∙ ap one_more (no_more buffer i j h) ∙ simp h

-- an alarm has some bytes
alarm_written : (a : Alarm) (buffer : List ℕ) → room ≤ length buffer → eqb (length_in Packet 0 (said.Alarm a) buffer) 0 ≡ false
unfolding length_in packet_of
alarm_written a buffer roomy =
    let told : length_in Packet 0 (said.Alarm a) buffer ≡ length (answer_of Packet 0 (said.Alarm a)) = simp (le-leb room (length buffer) roomy) in
    ap (λ (n : ℕ). eqb n 0) told ∙ ne_eqb (length (answer_of Packet 0 (said.Alarm a))) 0 (λ e. omega arith)

-- ---- what is known with so many of n ticks left; a tick gives at most 255 steps in a direction
pub record Ran (p : Pump) (n : ℕ) (g : Going) : Type 0 where
  pub inside : g.left ≤ n
  pub same : moves_in g ≡ moves p (n - g.left)
  pub infused_few : g.infused ≤ (n - g.left) * 255
  pub withdrawn_few : g.withdrawn ≤ (n - g.left) * 255
  pub beeps_few : g.beeps ≤ n - g.left

pub ran_none :
    (p : Pump) (n : ℕ) (g : Going) → g ≡ record { core = p.device.core; left = n; infused = 0; withdrawn = 0; beeps = 0 } → Ran p n g
unfolding ticks
ran_none p n g e =
    let none : n - n ≡ 0 = omega arith in
    rw e
    (record {
      inside = omega arith;
      same = sym (ap (moves p) none);
      infused_few = omega arith;
      withdrawn_few = omega arith;
      beeps_few = omega arith;
    })

-- ---- no alarm that would be sent was pending before the last of the ticks that are done
abbrev pub Calm : Pump → ℕ → Going → Type 0
Calm p n g = 0 < n - g.left → is_watched p.device ≡ true → pending (moves p (n - g.left - 1)).core.run ≡ None

pub calm_none :
    (p : Pump) (n : ℕ) (g : Going) → g ≡ record { core = p.device.core; left = n; infused = 0; withdrawn = 0; beeps = 0 } → Calm p n g
calm_none p n g e h w =
    let all : g.left ≡ n = ap (λ (x : Going). x.left) e in
    absurd (omega (arith, h, all))

-- none is pending where the code has looked
pub calm_at :
    (p : Pump) (s : Core) (watched alarmed : Bool)
    → watched ≡ is_watched p.device
    → alarmed ≡ is_alarmed s
    → (watched && alarmed) ≡ false
    → is_watched p.device ≡ true
    → pending s.run ≡ None
calm_at p s watched alarmed e k h w =
    alarms.not_raised (pending s.run) (ap not (sym k ∙ ap (λ (t : Bool). t && alarmed) (sym w ∙ sym e) ∙ h))

module _ (p : Pump) (n : ℕ) (g : Going) (ran : Ran p n g) (here : Phase) (is : here ≡ look p g.core.run.place.current) where
  -- some are left: a turn may rely on this
  pub ongoing : phase_count p ≤ 99 → is_sound_pump p ≡ true → n ≤ most_ticks → 0 < g.left → Ongoing g here
  ongoing few sound most some =
      let q = with_pump_core p g.core in
      let fine : is_sound_pump q ≡ true =
      subst (λ (x : Moves). is_sound_pump (with_pump_core p x.core) ≡ true) (sym ran.same) (ticks_sound p sound (n - g.left)) in
      record {
        some = some;
        few_left = omega (arith, ran.inside);
        phases = phase_count p;
        few = few;
        look = look p;
        table = table_here p sound;
        in_hand_lem = is;
        kept = pump_core q fine;
        infused_few = omega (arith, ran.inside, ran.infused_few);
        withdrawn_few = omega (arith, ran.inside, ran.withdrawn_few);
        beeps_few = omega (arith, ran.inside, ran.beeps_few);
      }

  pub calm_on : (r : Going) → Turned g here r → (is_watched p.device ≡ true → pending g.core.run ≡ None) → Calm p n r
  calm_on r t calm h w =
      let e : (n - g.left) + (g.left - r.left) - 1 ≡ n - r.left - 1 = omega (arith, t.fewer, ran.inside) in
      subst (λ i. pending (moves p i).core.run ≡ None) e
      (t.calm (look p) p.device.core (n - g.left) is ran.same (calm w))

  pub ran_on : (r : Going) → Turned g here r → Ran p n r
  ran_on r t =
      let e : (n - g.left) + (g.left - r.left) ≡ n - r.left = omega (arith, t.fewer, ran.inside) in
      record {
        inside = omega (arith, t.fewer, ran.inside);
        same = t.same (look p) p.device.core (n - g.left) is ran.same ∙ ap (moves p) e;
        infused_few = omega (arith, t.fewer, t.infused_few, ran.inside, ran.infused_few);
        withdrawn_few = omega (arith, t.fewer, t.withdrawn_few, ran.inside, ran.withdrawn_few);
        beeps_few = omega (arith, t.fewer, t.beeps_few, ran.inside, ran.beeps_few);
      }

-- ---- how far the ticks go
pub reach_few : (n : ℕ) (l : Link) → reach n l ≤ n
reach_few n l = go (ltb 0 (ticks_left l) && ltb (ticks_left l) n) refl
  where
    go : (t : Bool) → (ltb 0 (ticks_left l) && ltb (ticks_left l) n) ≡ t → (if t then ticks_left l else n) ≤ n
    go true e = let z = ltb-true (ticks_left l) n (and_right (ltb 0 (ticks_left l)) (ltb (ticks_left l) n) e) in omega arith
    go false e = omega arith

-- to the limit, or all of them short of it
reached : (n : ℕ) (l : Link)
    → ((0 < ticks_left l) × (reach n l ≡ ticks_left l)) ⊎ ((reach n l ≡ n) × (0 < ticks_left l → n ≤ ticks_left l))
reached n l = go (ltb 0 (ticks_left l)) refl (ltb (ticks_left l) n) refl
  where
    go :
        (t : Bool)
        → ltb 0 (ticks_left l) ≡ t
        → (u : Bool)
        → ltb (ticks_left l) n ≡ u
        → ((0 < ticks_left l) × ((if t && u then ticks_left l else n) ≡ ticks_left l))
        ⊎ (((if t && u then ticks_left l else n) ≡ n) × (0 < ticks_left l → n ≤ ticks_left l))
    go true e true f = inl (ltb-true 0 (ticks_left l) e, refl)
    go true e false f = inr (refl, λ h. ltb-false (ticks_left l) n f)
    go false e u f = inr (refl, λ h. let z = ltb-false 0 (ticks_left l) e in omega arith)

reach_most : (n : ℕ) (l : Link) → 0 < ticks_left l → reach n l ≤ ticks_left l
reach_most n l h = go (reached n l)
  where
    go : ((0 < ticks_left l) × (reach n l ≡ ticks_left l)) ⊎ ((reach n l ≡ n) × (0 < ticks_left l → n ≤ ticks_left l)) → reach n l ≤ ticks_left l
    go (inl w) = omega (arith, w.1)
    go (inr w) = let z = w.1 h in omega (arith, w.0)

-- ---- what is known when the ticks are over: they are all, or the last one sent an alarm; and none before it did
pub record Over (p : Pump) (n done : ℕ) : Type 0 where
  pub within : done ≤ n
  pub before : 0 < done → QuietFor p (done - 1)
  pub ends : (done ≡ n) ⊎ ((a : Alarm) × (sent_in done p.device (moves p done).core ≡ said.Alarm a))

-- ---- how a run of turns stops: none is left, or there is an alarm that is sent
pub data Stops (p : Pump) (g : Going) : Type 0 where
  ran_out : g.left ≤ 0 → Stops p g
  alarmed : is_watched p.device ≡ true → is_alarmed g.core ≡ true → Stops p g

pub stopped :
    (p : Pump) (g : Going) (watched alarm : Bool)
    → watched ≡ is_watched p.device
    → alarm ≡ is_alarmed g.core
    → (ltb 0 g.left && not (watched && alarm)) ≡ false
    → Stops p g
stopped p g watched alarm w a e = go (ltb 0 g.left) refl e
  where
    go : (t : Bool) → ltb 0 g.left ≡ t → (t && not (watched && alarm)) ≡ false → Stops p g
    go false k z = ran_out (ltb-false 0 g.left k)
    go true k z =
        let both = not_false (watched && alarm) z in
        alarmed (sym w ∙ and_left watched alarm both) (sym a ∙ and_right watched alarm both)

module _ (p : Pump) (n : ℕ) (g : Going) (ran : Ran p (reach n p.device.link) g)
    (calm : Calm p (reach n p.device.link) g) where
  abbrev span : ℕ
  span = reach n p.device.link

  abbrev done : ℕ
  done = span - g.left

  quiet_to : 0 < done → QuietFor p (done - 1)
  quiet_to some = record { calm = calm some; early = λ h. let z = reach_most n p.device.link h in omega arith }

  -- none is left: they are all, or the limit is reached
  all_end : g.left ≤ 0 → (done ≡ n) ⊎ ((a : Alarm) × (sent_in done p.device (moves p done).core ≡ said.Alarm a))
  all_end none =
      let all : span ≡ done = omega arith in
      subst (λ (i : ℕ). (i ≡ n) ⊎ ((a : Alarm) × (sent_in i p.device (moves p i).core ≡ said.Alarm a))) all
      (go (reached n p.device.link))
    where
      go : ((0 < ticks_left p.device.link) × (span ≡ ticks_left p.device.link))
          ⊎ ((span ≡ n) × (0 < ticks_left p.device.link → n ≤ ticks_left p.device.link))
          → (span ≡ n) ⊎ ((a : Alarm) × (sent_in span p.device (moves p span).core ≡ said.Alarm a))
      go (inr w) = inl w.0
      go (inl w) =
          let due : is_due span p.device.link ≡ true =
          alarms.due_at span (ticks_left p.device.link) (omega (arith, w.0, w.1)) w.1 in
          inr (TimeOut, alarms.due_sent p.device span (moves p span).core (alarms.timer_safe p.device.link w.0) due)

  -- an alarm of the program ended them
  alarm_ends :
      is_watched p.device ≡ true
      → is_alarmed g.core ≡ true
      → (a : Alarm) × (sent_in done p.device (moves p done).core ≡ said.Alarm a)
  alarm_ends w alarm = go (pending g.core.run) refl (is_due done p.device.link) refl
    where
      safe : is_safe p.device.link ≡ true
      safe = and_left (is_safe p.device.link) (not (is_alarmed p.device.core)) w

      none : pending p.device.core.run ≡ None
      none = alarms.not_raised (pending p.device.core.run) (and_right (is_safe p.device.link) (not (is_alarmed p.device.core)) w)

      at_end_lem : pending (moves p done).core.run ≡ pending g.core.run
      at_end_lem = sym (ap (λ (x : Moves). pending x.core.run) ran.same)

      go :
          (x : Option Alarm)
          → pending g.core.run ≡ x
          → (u : Bool)
          → is_due done p.device.link ≡ u
          → (a : Alarm) × (sent_in done p.device (moves p done).core ≡ said.Alarm a)
      go None e u d = false_true (sym (ap (is_some {T = Alarm}) e) ∙ alarm)
      go (Some a) e true d = (TimeOut, alarms.due_sent p.device done (moves p done).core safe d)
      go (Some a) e false d = (a, alarms.new_sent p.device done (moves p done).core safe a d none (at_end_lem ∙ e))

  over : Stops p g → Over p n done
  over (ran_out none) =
      record { within = let z = reach_few n p.device.link in omega arith; before = quiet_to; ends = all_end none }
  over (alarmed w a) =
      record { within = let z = reach_few n p.device.link in omega arith; before = quiet_to; ends = inr (alarm_ends w a) }

-- ---- what is refused runs no tick, and what is not runs all, or up to an alarm
module _ (p : Pump) (buffer : List ℕ) (n span : ℕ) (sound t : Bool) (refusal : Option Refusal) (is : sound ≡ is_sound_pump p)
    (k : refusal ≡ of_ticks sound (length buffer) n) (tested : t ≡ is_refused refusal) where
  refused_as : is_refused (of_ticks (is_sound_pump p) (length buffer) n) ≡ t
  refused_as = ap (λ (b : Bool). is_refused (of_ticks b (length buffer) n)) (sym is) ∙ ap is_refused (sym k) ∙ sym tested

  refusal_is : refusal ≡ of_ticks (is_sound_pump p) (length buffer) n
  refusal_is = k ∙ ap (λ (b : Bool). of_ticks b (length buffer) n) is

  -- where some are run the state is sound, and they are not too many
  pub allowed :
      ((t ≡ true) × (span ≡ 0)) ⊎ ((t ≡ false) × (span ≡ reach n p.device.link))
      → 0 < span
      → (is_sound_pump p ≡ true) × (span ≤ most_ticks)
  allowed (inl w) some = absurd (omega (arith, w.1))
  allowed (inr w) some =
      let m = many_taken (is_sound_pump p) (length buffer) n (refused_as ∙ w.0) in
      let z = reach_few n p.device.link in
      (m.of_sound, omega (arith, m.few, w.1))

  abbrev ticks_done : Outcome
  ticks_done = record { report = ticks_call p n buffer; buffer = ticks_buffer p n buffer }

  pub none_done : t ≡ true → gone_of p 0 refusal buffer ≡ ticks_done
  unfolding ticks_call ticks_buffer ticks link_ticks
  none_done w =
      quiet_gone p 0 refusal buffer (quiet_none (look p) p.device)
      ∙ ap (λ (x : Option Refusal). record { report = refused p x; buffer = buffer }) refusal_is
      ∙ sym (simp (refused_as ∙ w))

  pub all_done : t ≡ false → (done : ℕ) → Over p n done → gone_of p done refusal buffer ≡ ticks_done
  unfolding ticks_call ticks_buffer
  all_done w done over =
      ap (λ (x : Option Refusal). gone_of p done x buffer) (refusal_is ∙ m.accepted) ∙ sym turned ∙ go over.ends ∙ sym (simp (refused_as ∙ w))
    where
      m : Taken (is_sound_pump p) (length buffer) n
      m = many_taken (is_sound_pump p) (length buffer) n (refused_as ∙ w)

      turned : in_turn done p buffer ≡ gone_of p done None buffer
      turned = ran_in_turn p m.of_sound buffer m.roomy done over.before

      go : (done ≡ n) ⊎ ((a : Alarm) × (sent_in done p.device (moves p done).core ≡ said.Alarm a)) → in_turn done p buffer ≡ in_turn n p buffer
      go (inl e) = ap (λ (i : ℕ). in_turn i p buffer) e
      go (inr e) =
          let count : done + (n - done) ≡ n = omega (arith, over.within) in
          let some : eqb (in_turn done p buffer).report.length 0 ≡ false =
          ap (λ (o : Outcome). eqb o.report.length 0) turned
          ∙ ap (λ (x : Said). eqb (length_in Packet 0 x buffer) 0) e.1
          ∙ alarm_written e.0 buffer m.roomy in
          sym (no_more p m.of_sound buffer done (n - done) some) ∙ ap (λ (i : ℕ). in_turn i p buffer) count

module _ (p : Pump) (buffer : List ℕ) (n span : ℕ) (sound t : Bool) (refusal : Option Refusal) (is : sound ≡ is_sound_pump p)
    (k : refusal ≡ of_ticks sound (length buffer) n) (tested : t ≡ is_refused refusal)
    (g : Going) (ran : Ran p span g) (calm : Calm p span g) (stops : Stops p g) where
  abbrev told : Outcome
  told =
      record { report = gone p (moves_in g) (span - g.left) refusal buffer; buffer = gone_buffer p (moves_in g) (span - g.left) buffer }

  as_moved : told ≡ gone_of p (span - g.left) refusal buffer
  as_moved =
      ap
      (λ (x : Moves).
      record { report = gone p x (span - g.left) refusal buffer; buffer = gone_buffer p x (span - g.left) buffer })
      ran.same

  pub finished :
      ((t ≡ true) × (span ≡ 0)) ⊎ ((t ≡ false) × (span ≡ reach n p.device.link))
      → told ≡ record { report = ticks_call p n buffer; buffer = ticks_buffer p n buffer }
  finished (inl w) =
      let none : span - g.left ≡ 0 = omega (arith, w.1) in
      as_moved ∙ ap (λ (i : ℕ). gone_of p i refusal buffer) none ∙ none_done p buffer n span sound t refusal is k tested w.0
  finished (inr w) =
      let ended : Over p n (span - g.left) =
      subst (λ (x : ℕ). Over p n (x - g.left)) (sym w.1)
      (over p n g (subst (λ (x : ℕ). Ran p x g) w.1 ran) (subst (λ (x : ℕ). Calm p x g) w.1 calm) stops) in
      as_moved ∙ all_done p buffer n span sound t refusal is k tested w.0 (span - g.left) ended

-- ---- one tick is a call of one
one_sum : (p : Pump) (buffer : List ℕ) (t : Outcome) → and_tick (record { report = reported p 0; buffer = buffer }) t ≡ t
one_sum p buffer t =
    λ i.
    record {
      report =
          record {
            pump = t.report.pump;
            length = t.report.length;
            infused = zero-add t.report.infused i;
            withdrawn = zero-add t.report.withdrawn i;
            beeps = zero-add t.report.beeps i;
            ticks = zero-add t.report.ticks i;
            refusal = t.report.refusal;
            output = t.report.output;
          };
      buffer = t.buffer;
    }

one_refusal : (sound : Bool) (size : ℕ) → of_ticks sound size 1 ≡ of_byte sound size
unfolding of_ticks of_byte
one_refusal sound size = refl

one_done : (p : Pump) (buffer : List ℕ) → in_turn 1 p buffer ≡ tick_done p buffer
unfolding in_turn
one_done p buffer = one_sum p buffer (tick_done p buffer)

-- a refused tick is told by both calls alike
pub one_tick_lem : (p : Pump) (buffer : List ℕ) → ticks_call p 1 buffer ≡ tick_call p buffer
unfolding ticks_call tick_call
one_tick_lem p buffer =
    ap (λ (x : Option Refusal). unless_refused p x (in_turn 1 p buffer).report) (one_refusal (is_sound_pump p) (length buffer))
    ∙ ap (λ (o : Outcome). unless_refused p (of_byte (is_sound_pump p) (length buffer)) o.report) (one_done p buffer)
    ∙ go (is_refused (of_byte (is_sound_pump p) (length buffer)))
  where
    go : (t : Bool)
        → (if t
        then refused p (of_byte (is_sound_pump p) (length buffer))
        else (if t then refused p (of_byte (is_sound_pump p) (length buffer)) else moved_by p (tick_at p) buffer))
        ≡ (if t then refused p (of_byte (is_sound_pump p) (length buffer)) else moved_by p (tick_at p) buffer)
    go true = refl
    go false = refl

pub one_tick_buffer : (p : Pump) (buffer : List ℕ) → ticks_buffer p 1 buffer ≡ tick_buffer p buffer
unfolding ticks_buffer tick_buffer
one_tick_buffer p buffer =
    ap (λ (x : Option Refusal). if is_refused x then buffer else (in_turn 1 p buffer).buffer) (one_refusal (is_sound_pump p) (length buffer))
    ∙ ap (λ (o : Outcome). if is_refused (of_byte (is_sound_pump p) (length buffer)) then buffer else o.buffer) (one_done p buffer)
    ∙ go (is_refused (of_byte (is_sound_pump p) (length buffer)))
  where
    go : (t : Bool)
        → (if t then buffer else (if t then buffer else moved_buffer p (tick_at p) buffer)) ≡ (if t then buffer else moved_buffer p (tick_at p) buffer)
    go true = refl
    go false = refl
