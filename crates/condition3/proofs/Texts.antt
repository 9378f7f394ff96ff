-- A text that was heard, in a line or in a packet: the pump and the books agree behind it. Another address is passed over, an alarm
-- answered, SAF met by the link, any other command obeyed.
-- Assumes nothing.
use Rattle.std.specs.Prelude.{if◌then◌else◌, is_some, None}
use Prim.Native.Nat.{ℕ, ◌+◌, ◌*◌, ◌≤◌}
use mathlib.Core.Path.{◌≡◌, refl, sym, ap, ap₂, ◌∙◌, subst}
use mathlib.Core.Logic.{◌⊎◌, inl, inr}
use mathlib.Core.Bool.{Bool, true, false, ◌&&◌}
use mathlib.Core.List.{List}
use native.Mathlib.Omega.{arith}
use lib.Dec.{eqb}
use lib.ListN.{length, take, length-take}
use lib.Seq.{ext_get_or, get_or-take}
use borrow.Author.Tests.{eqb-true}
use Rattle.base.specs.Text.{text}
use Rattle.base.proofs.Choices.{and_false, false_true}
use Rattle.drive.specs.declared.directions.Direction.{Direction}
use Rattle.drive.specs.declared.directions.Direction.TheVariants.{Infuse, Withdraw}
use Rattle.words.specs.Commands.{command_number, asks_to_clear}
use Rattle.words.specs.Functions.{is_phase}
use Rattle.words.specs.declared.answers.Reply.{Reply}
use Rattle.words.specs.declared.answers.Reply.TheVariants as reply
use Rattle.words.specs.declared.answers.Said.{Said}
use Rattle.words.specs.declared.answers.Said.TheVariants as said
use Rattle.words.specs.declared.answers.Status.{Status}
use Rattle.words.specs.declared.commands.Asked.{Asked}
use Rattle.words.specs.declared.commands.Command.{Command}
use Rattle.words.specs.declared.commands.Command.TheVariants as c
use Rattle.words.specs.declared.phases.Phase.{Phase}
use Rattle.loops.specs.Loops.{opened}
use Rattle.dispense.specs.Ledgers.{total_of}
use Rattle.program.specs.Runs as runs
use Rattle.program.specs.Statuses.{in_hand, status_run}
use Rattle.program.specs.declared.state.Mode.{Mode}
use Rattle.program.specs.declared.state.Mode.TheVariants.{Stopped, Paused, Running}
use Rattle.program.specs.declared.state.Core.{Core}
use Rattle.command.specs.declared.obeying.Edit.{Edit}
use Rattle.command.specs.declared.obeying.Edit.TheVariants.{Keep, Write, Renew}
use Rattle.command.specs.declared.obeying.Obeyed.{Obeyed}
use Rattle.soundness.proofs.Runs.{by_test, phase_bounds}
use Rattle.link.specs.Link as link
use Rattle.link.specs.declared.Link.{Link}
use Rattle.line.specs.Collected.{collect, characters}
use Rattle.line.specs.Lines.{empty_line}
use Rattle.line.specs.Spelling.{is_text}
use Rattle.line.specs.declared.lines.Line.{Line}
use Rattle.answer.specs.Answers.{answer_of}
use Rattle.answer.specs.declared.frame.Frame.TheVariants as frame
use Rattle.answer.proofs.Theorems.{answer_length}
use Rattle.pump.specs.Calls.{frame_of}
use Rattle.pump.specs.Device.{link_behind}
use Rattle.pump.specs.Holder.{phase_count, phase_at, here_of, with_device, with_phase, edited}
use Rattle.pump.specs.declared.calls.Listened.{Listened}
use Rattle.pump.specs.declared.device.Device.{Device}
use Rattle.pump.specs.declared.holder.Pump.{Pump}
use Rattle.statement.specs.Facts.{core_of, run_of, link_of}
use Rattle.statement.specs.Histories.{byte_in, Whole, Event}
use Rattle.statement.specs.Outcomes as out
use Rattle.statement.specs.Outcomes.{Outcome, Still, Written, HearsText, obeying, carried_out, pump_with_core, pump_with_link}
use Rattle.statement.proofs.Placing.{placed_at}
use Rattle.condition3.specs.Books.{Books, is_obeyed, data_in, answer_data, clears, packet_data, line_after, told, step_at, view_of, is_safe}
use Rattle.condition3.specs.Books.{moves}
use Rattle.condition3.specs.Stored.{place_in}
use Rattle.condition3.proofs.Answers.{is_packet, words_of, unframed_words, plain, obeyed_as, nothing_plain, alarm_plain, status_plain}
use Rattle.condition3.proofs.Answers.{error_plain}
use Rattle.condition3.proofs.Noting.{Kept, Beside, Gone, restarts, none_cleared, none_restarted}
use Rattle.condition3.proofs.Obeying as deeds
use Rattle.condition3.proofs.Obeying.{AlikeBy, is_error, Deed, deed}
use Rattle.condition3.proofs.Orders as orders
use Rattle.condition3.proofs.Orders.{Agree, pump_asked, starts_by, clears_as_asked, starts_as_asked, reset_as_asked}
use Rattle.condition3.proofs.Packets.{limited_outside}
use Rattle.condition3.proofs.Pins.{totals_stay}
use Rattle.condition3.proofs.Quiet.{seen, Alike, alike_same, Turns, stays, quiet_step}
use Rattle.condition3.proofs.Ticks.{Stepped, none_told}
use Rattle.condition3.proofs.Turning.{TurnsTo, calm, turns_as}
use Rattle.condition3.proofs.Views.{is_stopped_in, view_moves, moving_on, view_safe}

-- ---- an alarm that is cleared
calm_on : (m : Mode) → is_stopped_in m ≡ false → is_stopped_in (runs.calm m) ≡ false
calm_on (Stopped alarm) e = e
calm_on Paused e = refl
calm_on Running e = refl

-- ---- what an edit of the phases leaves
edited_device : (p : Pump) (n : ℕ) (edit : Edit) → (edited p n edit).device ≡ p.device
unfolding with_phase
edited_device p n Keep = refl
edited_device p n (Write x) = by_test (λ (q : Pump). q.device ≡ p.device) (is_phase (phase_count p) n) (λ _. refl) (λ _. refl)
edited_device p n Renew = refl

edited_alike :
    (p : Pump) (n : ℕ) (edit : Edit)
    → AlikeBy (phase_at p.phases n) edit
    → (m : ℕ)
    → Alike (phase_at (edited p n edit).phases m) (phase_at p.phases m)
unfolding with_phase
edited_alike p n Keep h m = alike_same (phase_at p.phases m)
edited_alike p n (Write x) h m =
    by_test (λ (q : Pump). Alike (phase_at q.phases m) (phase_at p.phases m)) (is_phase (phase_count p) n)
    (λ e.
    let b = phase_bounds (phase_count p) n e in
    subst (λ (y : Phase). Alike y (phase_at p.phases m)) (sym (placed_at p.phases n m x b.0 b.1)) go)
    (λ _. alike_same (phase_at p.phases m))
  where
    go : Alike (if◌then◌else◌ {A = Phase} (eqb m n) x (phase_at p.phases m)) (phase_at p.phases m)
    go =
        by_test (λ (y : Phase). Alike y (phase_at p.phases m)) (eqb m n)
        (λ e. subst (λ (k : ℕ). Alike x (phase_at p.phases k)) (sym (eqb-true m n e)) h)
        (λ _. alike_same (phase_at p.phases m))
edited_alike p n Renew h m = absurd h

-- ---- the frame of an answer is that of the mode
framed : (p : Pump) → Whole p → is_safe (view_of p) ≡ is_packet (frame_of p)
framed p w = view_safe p w.sound ∙ go (link.is_safe (link_of p))
  where
    go : (t : Bool) → t ≡ is_packet (if t then frame.Packet else frame.Line)
    go true = refl
    go false = refl

-- SAF asks the pump for nothing
none_asked : (d : Direction) → asks_to_clear d c.Status ≡ false
none_asked Infuse = refl
none_asked Withdraw = refl

module _ (p : Pump) (b : Books) (k : Kept p b) (x : ℕ) (buffer : List ℕ) (room : 24 ≤ length buffer) (o : Outcome) where
  abbrev event : Event
  event = seen p (byte_in x buffer) o

  abbrev pub Answers : Said → Type 0
  Answers s = Written (answer_of (frame_of p) 0 s) buffer o

  -- ---- the answer's bytes are in the buffer
  answer_is : (s : Said) → Answers s → take o.report.length o.buffer ≡ answer_of (frame_of p) 0 s
  answer_is s w =
      let a = answer_of (frame_of p) 0 s in
      let n : length (take o.report.length o.buffer) ≡ length a =
      omega (arith, length-take o.report.length o.buffer, w.whole, w.same_size, answer_length (frame_of p) 0 s, room)
      in
      ext_get_or 0 (take o.report.length o.buffer) a n
      (λ i h.
      get_or-take o.report.length o.buffer i 0 (omega (arith, w.whole, n, h)) ∙ w.answer_bytes i (omega (arith, n, h)))

  words_are : (s : Said) → Answers s → answer_data event ≡ words_of s
  words_are s w = ap₂ data_in (framed p k.whole) (answer_is s w) ∙ unframed_words (frame_of p) s

  pub obeyed_is : (s : Said) → Answers s → is_obeyed event ≡ plain (words_of s)
  obeyed_is s w = obeyed_as event (words_of s) (words_are s w)

  -- ---- what clears nothing and starts nothing: a byte of a line or of a packet, another address, an alarm, SAF
  abbrev pub Lined : Line → Type 0
  Lined l = l ≡ collect empty_line (line_after b.line (is_safe (view_of p)) (byte_in x buffer))

  pub aside :
      (q : Pump)
      → Still q o
      → ((d : Direction) → clears d b event ≡ false)
      → restarts b event ≡ false
      → Whole q
      → Lined q.device.line
      → (core_of q).ledger ≡ (core_of p).ledger
      → (core_of q).pins ≡ (core_of p).pins
      → (moves (view_of p) ≡ true → is_stopped_in (run_of q).mode ≡ false)
      → Turns p q
      → Stepped b event
  aside q s n starts w l ledger pins on t =
      quiet_step p b k (byte_in x buffer) o q s w refl false false refl starts
      (record {
        four = ap (λ y. y.four) pins ∙ k.four;
        line = l;
        totals =
            λ d.
            totals_stay p b event d (n d)
            (none_told d o.report.infused o.report.withdrawn s.none_infused s.none_withdrawn)
            (total_of (core_of q).ledger d)
            (ap (λ y. total_of y d) ledger ∙ k.totals d);
      })
      (λ moving halt. false_true (sym (on moving) ∙ halt))
      (λ e. false_true e)
      (λ _ _. t)

  -- where no command is obeyed
  pub unobeyed :
      (q : Pump)
      → Still q o
      → is_obeyed event ≡ false
      → Whole q
      → Lined q.device.line
      → (core_of q).ledger ≡ (core_of p).ledger
      → (core_of q).pins ≡ (core_of p).pins
      → (moves (view_of p) ≡ true → is_stopped_in (run_of q).mode ≡ false)
      → Turns p q
      → Stepped b event
  unobeyed q s n w l ledger pins on t =
      aside q s (λ d. none_cleared d b event n) (none_restarted b event n) w l ledger pins on t

  -- ---- a text, heard by the pump with another line and link
  abbrev pub read : List ℕ
  read = orders.said (if is_safe (view_of p) then packet_data b.packet else characters b.line)

  module _ (line : Line) (lk : Link) (lined : Lined line) (ask : Asked) (agree : Agree read (pump_asked ask.request)) where
    abbrev q : Pump
    q = with_device p (record { core = core_of p; line = line; link = lk })

    -- what the observer reads in it is what it asks for
    clears_is : (command : Command) → pump_asked ask.request ≡ command → (d : Direction) (t : Bool) → is_obeyed event ≡ t
        → clears d b event ≡ (t && asks_to_clear d command)
    unfolding clears
    clears_is command is d t h =
        rw h (ap (λ (u : Bool). t && u) (clears_as_asked read command (subst (Agree read) is agree) d))

    abbrev starts : Bool
    starts = starts_by read

    restarts_is : (t : Bool) → is_obeyed event ≡ t → restarts b event ≡ (t && starts)
    restarts_is true h = rw h refl
    restarts_is false h = rw h refl

    not_restarting : starts ≡ false → restarts b event ≡ false
    not_restarting h =
        restarts_is (is_obeyed event) refl ∙ ap (λ (t : Bool). is_obeyed event && t) h ∙ and_false (is_obeyed event)

    -- ---- SAF leaves the pump
    module _ (limit : pump_asked ask.request ≡ c.Status) where
      not_starting : starts ≡ false
      not_starting = go (starts_as_asked read c.Status (subst (Agree read) limit agree))
        where
          go : (c.Status ≡ c.Malformed) ⊎ (starts ≡ eqb (command_number c.Status) 16) → starts ≡ false
          go (inl m) = absurd (omega (arith, ap command_number m))
          go (inr h) = h

      limit_steps : (l : Link) → Still (pump_with_link q l) o → Whole (pump_with_link q l) → Stepped b event
      limit_steps l s w =
          aside (pump_with_link q l) s
          (λ d.
          clears_is c.Status limit d (is_obeyed event) refl
          ∙ ap (λ (t : Bool). is_obeyed event && t) (none_asked d)
          ∙ and_false (is_obeyed event))
          (not_restarting not_starting) w lined refl refl (moving_on p) (stays refl refl refl refl (alike_same _))

    -- ---- a command
    module _ (asks : Command) (is : pump_asked ask.request ≡ asks) where
      abbrev hand : Phase
      hand = phase_at p.phases (in_hand (core_of p))

      abbrev did : Obeyed
      did = obeying q asks

      abbrev next : Pump
      next = (carried_out q asks).pump

      abbrev after : Pump
      after = pump_with_link (pump_with_core q did.core) (link_behind did.edit lk)

      agrees : Agree read asks
      agrees = subst (Agree read) is agree

      the_deed : Deed (core_of p) hand (calm p k.whole) asks did
      the_deed = deed (core_of p) hand (calm p k.whole) _ (phase_count p) asks

      device_is : next.device ≡ after.device
      device_is = edited_device after (in_hand (core_of p)) did.edit

      core_is : core_of next ≡ did.core
      core_is = ap (λ (v : Device). v.core) device_is

      -- the status behind it
      abbrev status : Status
      status = status_run (run_of next) (here_of next).direction

      module _ (s : Still next o) (w : Whole next) (a : Answers (carried_out q asks).said) where
        not_obeyed : is_error did.reply ≡ true → is_obeyed event ≡ false
        not_obeyed e = obeyed_is (carried_out q asks).said a ∙ error_plain status did.reply e

        is_obeyed_lem : did.reply ≡ reply.Status → is_obeyed event ≡ true
        is_obeyed_lem e =
            obeyed_is (carried_out q asks).said a ∙ ap (λ (r : Reply). plain (words_of (said.Answer status r))) e ∙ status_plain status

        none_given : (d : Direction) → told d event ≡ 0
        none_given d = none_told d o.report.infused o.report.withdrawn s.none_infused s.none_withdrawn

        total_is : (d : Direction) → total_of (core_of next).ledger d ≡ total_of did.core.ledger d
        total_is d = ap (λ (y : Core). total_of y.ledger d) core_is

        beside : Beside b event next
        beside =
            record {
              four = ap (λ (y : Core). y.pins.four) core_is ∙ ap (λ y. y.four) the_deed.pins ∙ k.four;
              line = ap (λ (v : Device). v.line) device_is ∙ lined;
              totals = λ d. go d (the_deed.left d);
            }
          where
            go :
                (d : Direction)
                → deeds.Left (core_of p) hand (calm p k.whole) d asks did
                → total_of (core_of next).ledger d
                ≡ (if clears d b event then 0 else b.given d + told d event * step_at (view_of p).diameter)
            go d (deeds.unasked n e) =
                totals_stay p b event d
                (clears_is asks is d (is_obeyed event) refl ∙ ap (λ (t : Bool). is_obeyed event && t) n ∙ and_false (is_obeyed event))
                (none_given d) _ (total_is d ∙ e ∙ k.totals d)
            go d (deeds.not_now n e) =
                totals_stay p b event d (none_cleared d b event (not_obeyed n)) (none_given d) _ (total_is d ∙ e ∙ k.totals d)
            go d (deeds.done n r e) =
                total_is d ∙ e
                ∙ sym
                (ap (λ (t : Bool). if t then 0 else b.given d + told d event * step_at (view_of p).diameter)
                (clears_is asks is d true (is_obeyed_lem r) ∙ n))

        -- the program goes on as it was, or the pump is stopped
        spared :
            deeds.Spares (core_of p) hand (calm p k.whole) did.core did.edit
            → is_stopped_in (run_of next).mode ≡ false
            → Turns p next
        spared sp on =
            turns_as p next (ap (λ (y : Core). y.syringe) core_is ∙ sp.syringe)
            (edited_alike after (in_hand (core_of p)) did.edit sp.phase)
            (subst (λ (y : Core). TurnsTo (run_of p) y.run) (sym core_is) sp.run)
            on

        -- in I or W it was *RESET if the pump is stopped
        silent : moves (view_of p) ≡ true → is_stopped_in (run_of next).mode ≡ true → is_text (text "*RESET") read ≡ true
        silent moving halt =
            reset_as_asked read asks agrees
            (the_deed.halts (sym (view_moves p) ∙ moving) (ap (λ (y : Core). is_stopped_in y.run.mode) (sym core_is) ∙ halt))

        steps_by :
            (r : Bool)
            → restarts b event ≡ r
            → (r ≡ true → Gone next)
            → (r ≡ false → is_stopped_in (run_of next).mode ≡ false → Turns p next)
            → Stepped b event
        steps_by r e gone turns = quiet_step p b k (byte_in x buffer) o next s w refl false r refl e beside silent gone turns

        goes_on : restarts b event ≡ false → (is_stopped_in (run_of next).mode ≡ false → Turns p next) → Stepped b event
        goes_on e turns = steps_by false e (λ z. false_true z) (λ _. turns)

        not_started : eqb (command_number asks) 16 ≡ false → restarts b event ≡ false
        not_started n = go (starts_as_asked read asks agrees)
          where
            go : (asks ≡ c.Malformed) ⊎ (starts ≡ eqb (command_number asks) 16) → restarts b event ≡ false
            go (inl m) = none_restarted b event (not_obeyed (ap (λ (y : Command). is_error (obeying p y).reply) m))
            go (inr h) = not_restarting (h ∙ n)

        started : eqb (command_number asks) 16 ≡ true → did.reply ≡ reply.Status → restarts b event ≡ true
        started n r = go (starts_as_asked read asks agrees)
          where
            go : (asks ≡ c.Malformed) ⊎ (starts ≡ eqb (command_number asks) 16) → restarts b event ≡ true
            go (inl m) = false_true (ap (λ (y : Command). eqb (command_number y) 16) (sym m) ∙ n)
            go (inr h) = restarts_is true (is_obeyed_lem r) ∙ h ∙ n

        moved_by : deeds.Moves (core_of p) hand (calm p k.whole) asks did → Stepped b event
        moved_by (deeds.goes n sp) =
            goes_on (not_started n)
            (λ on. spared (sp (ap (λ (y : Core). is_stopped_in y.run.mode) (sym core_is) ∙ on)) on)
        moved_by (deeds.declines e sp) = goes_on (none_restarted b event (not_obeyed e)) (spared sp)
        moved_by (deeds.restarts n r work loops trap) =
            steps_by true (started n r)
            (λ _.
            record {
              work = ap (λ (y : Core). y.run.place.work) core_is ∙ work;
              loops = ap (λ (y : Core). opened y.run.loops) core_is ∙ loops;
              trap = ap (λ (y : Core). is_some y.run.trap) core_is ∙ trap;
            })
            (λ z. false_true (sym z))

        command_steps : Stepped b event
        command_steps = moved_by the_deed.moves

    -- ---- any text
    pub text_steps : (l : Listened) → HearsText q ask l → Still l.pump o → Answers l.said → Whole l.pump → Stepped b event
    text_steps l (out.other_address n) s a w =
        unobeyed _ s (obeyed_is said.Nothing a ∙ nothing_plain) w lined refl refl (moving_on p) (stays refl refl refl refl (alike_same _))
    text_steps l (out.alarm_pending alarm z n) s a w =
        unobeyed _ s (obeyed_is (said.Alarm alarm) a ∙ alarm_plain alarm) w lined refl refl
        (λ moving. calm_on (run_of p).mode (moving_on p moving))
        (stays refl refl refl refl (alike_same _))
    text_steps l (out.asks_limit z n r) s a w = limit_steps (ap pump_asked r) lk s w
    text_steps l (out.sets_limit m z n r h) s a w = limit_steps (ap pump_asked r) _ s w
    text_steps l (out.limit_too_great m z n r h) s a w = limit_steps (ap pump_asked r) lk s w
    text_steps l (out.resets z n r) s a w = command_steps c.Reset (ap pump_asked r) s w a
    text_steps l (out.obeys command z n r) s a w = command_steps command (ap pump_asked r) s w a

    -- ---- no packet is under way behind it
    outside_by : (edit : Edit) → place_in lk.safety ≡ None → place_in (link_behind edit lk).safety ≡ None
    outside_by Keep h = h
    outside_by (Write y) h = h
    outside_by Renew h = refl

    pub text_outside : (l : Listened) → HearsText q ask l → place_in lk.safety ≡ None → place_in (link_of l.pump).safety ≡ None
    text_outside l (out.other_address n) h = h
    text_outside l (out.alarm_pending alarm z n) h = h
    text_outside l (out.asks_limit z n r) h = h
    text_outside l (out.sets_limit m z n r g) h = limited_outside m
    text_outside l (out.limit_too_great m z n r g) h = h
    text_outside l (out.resets z n r) h = refl
    text_outside l (out.obeys command z n r) h =
        ap (λ (v : Device). place_in v.link.safety) (device_is command (ap pump_asked r)) ∙ outside_by (obeying q command).edit h
