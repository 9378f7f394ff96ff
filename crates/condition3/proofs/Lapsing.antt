-- What the link adds to the work of a tick: a packet with no byte for 500 ticks is dropped; with the last tick of the time limit alarm T
-- stops the pump, once that work is done; and an alarm is sent. The pump and the books agree behind it.   (02, 2/12)
-- Assumes nothing.
use Rattle.std.specs.Prelude.{if◌then◌else◌, Option, Some, None}
use Prim.Native.Nat.{ℕ, ◌+◌, ◌*◌, ◌≤◌}
use mathlib.Core.Path.{◌≡◌, refl, sym, ap, ap₂, ◌∙◌, subst}
use mathlib.Core.Bool.{Bool, true, false, not, ◌&&◌, ◌||◌, or-true}
use mathlib.Core.List.{List, []}
use lib.Dec.{eqb, leb}
use lib.ListN.{length}
use Rattle.base.proofs.Choices.{and_false, false_true}
use Rattle.drive.specs.declared.directions.Direction.{Direction}
use Rattle.words.specs.declared.answers.Alarm.{Alarm}
use Rattle.words.specs.declared.answers.Alarm.TheVariants.{TimeOut}
use Rattle.words.specs.declared.answers.Said.{Said}
use Rattle.words.specs.declared.answers.Said.TheVariants as said
use Rattle.program.specs.Runs.{pending}
use Rattle.program.specs.declared.state.Core.{Core}
use Rattle.tick.specs.declared.Moved.{Moved}
use Rattle.link.specs.Link as link
use Rattle.link.specs.Link.{safe_in, left_in, ticks_left, fires, link_tick}
use Rattle.link.specs.declared.Safety.{Safety}
use Rattle.link.specs.declared.Link.{Link}
use Rattle.answer.specs.Answers.{room, length_in, buffer_after}
use Rattle.answer.specs.declared.frame.Frame.TheVariants.{Packet}
use Rattle.pump.specs.Calls.{tick_at}
use Rattle.pump.specs.Elapsing.{time_out, new_alarm, alarm_said, after_tick, sent}
use Rattle.pump.specs.Holder.{with_device}
use Rattle.pump.specs.declared.holder.Pump.{Pump}
use Rattle.pump.specs.declared.reports.Report.{Report}
use Rattle.pump.proofs.Running.{sound_tick, sound_tick_buffer}
use Rattle.statement.specs.Facts.{run_of}
use Rattle.statement.specs.Histories.{Whole, Event, Every, event_of, tick_in}
use Rattle.statement.specs.Outcomes.{pump_with_core}
use Rattle.condition3.specs.Books.{Books, Doing, nothing, visiting, Visit, View, view_of, moves, is_safe, Deed, other, enters, works}
use Rattle.condition3.specs.Books.{deed_by}
use Rattle.condition3.specs.Books.{deed, doing_by, made_by, all_visits, is_whole, noted, clears, drops, fires_by, is_obeyed, timed_out}
use Rattle.condition3.specs.Books.{stops}
use Rattle.condition3.specs.Books.{data_in, told, step_at, ruled_by, packet_after, new_visit, kind_of}
use Rattle.condition3.specs.Condition.{Fits, Goes}
use Rattle.condition3.specs.Stored.{SamePacket}
use Rattle.condition3.proofs.Answers.{words_of, told_length, words_read, obeyed_as, alarm_plain, timed_out_lem, not_timed_out}
use Rattle.condition3.proofs.AnyTick.{tick_works}
use Rattle.condition3.proofs.Noting.{Kept, noted_is, all_same, kept_by, makes_gone, gone_stopped, drops_is, none_cleared}
use Rattle.condition3.proofs.Noting.{none_restarted}
use Rattle.condition3.proofs.Packets.{tick_packet}
use Rattle.condition3.proofs.Quiet.{same_work, stays, alike_same}
use Rattle.condition3.proofs.Ticks.{Stepped, Followed, moved, unanswered}
use Rattle.condition3.proofs.Views.{is_stopped_in, view_safe, view_stopped}

-- ---- what a tick does, whatever the buffer
same_deed : (doing : Doing) (x : View) (a c : List ℕ) → deed_by doing x (tick_in a) ≡ deed_by doing x (tick_in c)
same_deed nothing x a c = refl
same_deed (visiting w) x a c = refl

-- in I or W it enters or works
abbrev is_other : Deed → Bool
is_other other = true
is_other (enters x) = false
is_other (works w x) = false

moving_deed : (doing : Doing) (x : View) (a : List ℕ) → moves x ≡ true → is_other (deed_by doing x (tick_in a)) ≡ false
moving_deed nothing x a h = ap (λ (t : Bool). is_other (if t then enters x else other)) h
moving_deed (visiting w) x a h = ap (λ (t : Bool). is_other (if t then works w x else other)) h

past_fits : (doing : Doing) (past : List Visit) → Every Fits (all_visits doing past) → Every Fits past
past_fits nothing past h = h
past_fits (visiting w) past h = h.1

-- ---- a tick that did the work m, with the core s behind it, the link l, and an answer of n bytes in the buffer
module _ (p : Pump) (b : Books) (k : Kept p b) (m : Moved) (worked : Stepped b (moved p m)) (given after : List ℕ) (l : Link) (n : ℕ) where
  abbrev q : Core → Pump
  q s = with_device p (record { core = s; line = p.device.line; link = l })

  abbrev lapsed : Core → Event
  lapsed s =
      record {
        before = p;
        call = tick_in given;
        report =
            record {
              pump = q s;
              length = n;
              infused = m.infused;
              withdrawn = m.withdrawn;
              beeps = if m.beep then 1 else 0;
              ticks = 1;
              refusal = None;
              output = m.core.output;
            };
        buffer = after;
      }

  abbrev raw : Event
  raw = moved p m

  abbrev done : Deed
  done = deed b raw

  deed_is : (s : Core) → deed b (lapsed s) ≡ done
  deed_is s = same_deed b.doing (view_of p) given []

  raw_obeyed : is_obeyed raw ≡ false
  raw_obeyed = unanswered raw refl

  raw_timed : timed_out raw ≡ false
  raw_timed = not_timed_out raw (go (is_safe (view_of p)))
    where
      go : (t : Bool) → data_in t [] ≡ []
      go true = refl
      go false = refl

  fires_as : (s : Core) (d : Deed) → fires_by b (lapsed s) d ≡ fires_by b raw d
  fires_as s other = refl
  fires_as s (enters x) = refl
  fires_as s (works w x) = refl

  drops_as : (s : Core) → is_obeyed (lapsed s) ≡ false → drops b (lapsed s) ≡ (fires_by b raw done || false || is_stopped_in s.run.mode)
  drops_as s o = drops_is b (lapsed s) done (fires_by b raw done) false (deed_is s) (fires_as s done) (none_restarted b (lapsed s) o)

  given_as :
      (s : Core) (d : Direction)
      → is_obeyed (lapsed s) ≡ false
      → (noted b raw).given d ≡ (if clears d b (lapsed s) then 0 else b.given d + told d (lapsed s) * step_at (view_of p).diameter)
  unfolding noted
  given_as s d o =
      ap (λ (t : Bool). if t then 0 else b.given d + told d raw * step_at (view_of p).diameter) (none_cleared d b raw raw_obeyed)
      ∙ sym (ap (λ (t : Bool). if t then 0 else b.given d + told d raw * step_at (view_of p).diameter) (none_cleared d b (lapsed s) o))

  ruled_as : (s : Core) (d : Direction) → told d (lapsed s) ≡ ruled_by d (b.given d) (deed b (lapsed s))
  ruled_as s d = worked.ruled d ∙ ap (ruled_by d (b.given d)) (sym (deed_is s))

  -- ---- no alarm T
  module _ (o : is_obeyed (lapsed m.core) ≡ false) (w : Whole (q m.core)) where
    abbrev e : Event
    e = lapsed m.core

    doing_as : (d : Deed) → doing_by b.doing e d ≡ doing_by b.doing raw d
    unfolding view_of
    doing_as other = refl
    doing_as (enters x) = refl
    doing_as (works w x) = refl

    abbrev t : Bool
    t = drops b raw

    raw_drops : drops b raw ≡ (fires_by b raw done || false || is_stopped_in m.core.run.mode)
    raw_drops = drops_is b raw done (fires_by b raw done) false refl refl (none_restarted b raw raw_obeyed)

    -- the books behind it are those behind its work
    abbrev filled : Doing → (Direction → ℕ) → Books
    filled now sums =
        record {
          doing = if is_whole now || t then nothing else now;
          past = if is_whole now || t then all_visits now b.past else b.past;
          loops = if t then [] else (made_by b.loops b.trap done).0;
          trap = not t && (made_by b.loops b.trap done).1;
          four = b.four;
          line = b.line;
          packet = packet_after b true true (tick_in []);
          quiet = b.quiet + 1;
          given = sums;
        }

    abbrev sums_of : Event → Direction → ℕ
    sums_of f d = if clears d b f then 0 else b.given d + told d raw * step_at (view_of p).diameter

    sums_as : sums_of e ≡ sums_of raw
    sums_as =
        λ i d.
        (ap (λ (t : Bool). if t then 0 else b.given d + told d raw * step_at (view_of p).diameter)
        (none_cleared d b e o ∙ sym (none_cleared d b raw raw_obeyed))) i

    noted_as : noted b e ≡ noted b raw
    noted_as =
        noted_is b e done t refl (deed_is m.core) (drops_as m.core o ∙ sym raw_drops)
        ∙ ap₂ filled (doing_as done) sums_as
        ∙ sym (noted_is b raw done t refl refl refl)

    kept_on : Kept (q m.core) (noted b raw)
    kept_on =
        let r = worked.kept in
        record {
          whole = w;
          work = same_work (pump_with_core p m.core) (q m.core) (noted b raw) r (stays refl refl refl refl (alike_same _));
          fits = r.fits;
          loops = r.loops;
          trap = r.trap;
          four = r.four;
          line = r.line;
          totals = r.totals;
        }

    goes_on : (d : Deed) → Goes b raw d → Goes b e d
    unfolding view_of
    goes_on other g = g
    goes_on (enters x) g =
        λ _. let it = g raw_timed in record { rat = it.rat; lps = it.lps; lop = it.lop; lpe = it.lpe }
    goes_on (works v x) g = (
      g.0,
      λ _ part free.
          let it = g.1 raw_timed part free in
          record { runs = it.runs; its_phase = it.its_phase; pumps = it.pumps; its_direction = it.its_direction },
    )

    goes_by : Stepped b e
    goes_by =
        record {
          kept = subst (Kept (q m.core)) (sym noted_as) kept_on;
          ruled = ruled_as m.core;
          goes = subst (Goes b e) (sym (deed_is m.core)) (goes_on done worked.goes);
          few = worked.few;
        }

  -- ---- alarm T
  module _ (o : is_obeyed (lapsed (time_out m.core)) ≡ false) (late : timed_out (lapsed (time_out m.core)) ≡ true)
      (w : Whole (q (time_out m.core))) where
    abbrev last : Event
    last = lapsed (time_out m.core)

    stopped_now : stops last ≡ true
    stopped_now = view_stopped (q (time_out m.core))

    drops_all : drops b last ≡ true
    drops_all = drops_as (time_out m.core) o ∙ or-true (fires_by b raw done || false)

    -- a visit that it worked is over, whole or not; none is begun
    fits_still : (d : Deed) → done ≡ d → Every Fits (all_visits (doing_by b.doing last d) b.past)
    fits_still other x = k.fits
    fits_still (enters x) is =
        subst (λ (y : Doing). Every Fits (all_visits y b.past))
        (sym
        (ap (λ (t : Bool). if◌then◌else◌ {A = Doing} (leb (kind_of x) 2 && not t) (visiting (new_visit x)) nothing) stopped_now
        ∙ ap (λ (t : Bool). if◌then◌else◌ {A = Doing} t (visiting (new_visit x)) nothing) (and_false (leb (kind_of x) 2))))
        (past_fits b.doing b.past k.fits)
    fits_still (works v x) is =
        let now = doing_by b.doing raw (works v x) in
        subst (Every Fits) (all_same (is_whole now || drops b raw) now b.past)
        (subst (λ (y : Books). Every Fits (all_visits y.doing y.past)) (noted_is b raw (works v x) (drops b raw) refl is refl)
        worked.kept.fits)

    goes_last : (d : Deed) → done ≡ d → Goes b raw d → Goes b last d
    goes_last other is g =
        λ moving _. false_true (sym (moving_deed b.doing (view_of p) [] moving) ∙ ap is_other is)
    goes_last (enters x) is g = λ out. false_true (sym out ∙ late)
    goes_last (works v x) is g = (g.0, λ out. false_true (sym out ∙ late))

    stopped_by : Stepped b last
    unfolding noted
    stopped_by =
        record {
          kept =
              kept_by b last done true refl (deed_is (time_out m.core)) drops_all w
              (makes_gone b last (q (time_out m.core))
              (record {
                four = worked.kept.four;
                line = k.line;
                totals = λ d. worked.kept.totals d ∙ given_as (time_out m.core) d o;
              })
              done (gone_stopped (q (time_out m.core)) w refl) (fits_still done refl));
          ruled = ruled_as (time_out m.core);
          goes = subst (Goes b last) (sym (deed_is (time_out m.core))) (goes_last done refl worked.goes);
          few = worked.few;
        }

-- ---- the call
fires_safe : (l : Link) → fires l ≡ true → link.is_safe l ≡ true
unfolding fires ticks_left link.is_safe
fires_safe l h = go l.safety refl
  where
    go : (x : Option Safety) → l.safety ≡ x → safe_in x ≡ true
    go None e = false_true (ap (λ (y : Option Safety). eqb (left_in y) 1) (sym e) ∙ h)
    go (Some s) e = refl

module _ (p : Pump) (b : Books) (k : Kept p b) (packet : SamePacket p.device.link b.packet b.quiet) (buffer : List ℕ)
    (roomy : room ≤ length buffer) where
  abbrev m : Moved
  m = tick_at p

  abbrev says : Said
  says = sent p.device m.core

  -- by whether alarm T comes, and by what is sent
  abbrev ends : Bool → Said → Event
  ends t x =
      lapsed p b k m (tick_works p b k) buffer (buffer_after Packet 0 x buffer) (link_tick p.device.link) (length_in Packet 0 x buffer)
      (if t then time_out m.core else m.core)

  event_is : event_of p (tick_in buffer) ≡ ends (fires p.device.link) says
  unfolding after_tick
  event_is =
      ap₂ (λ (r : Report) (s : List ℕ). record { before = p; call = tick_in buffer; report = r; buffer = s })
      (sound_tick p buffer k.whole.sound roomy) (sound_tick_buffer p buffer k.whole.sound roomy)

  abbrev safe : Bool
  safe = link.is_safe p.device.link

  -- an alarm is no answer to a command
  no_command : (t s : Bool) → safe ≡ s → (x : Option Alarm) → is_obeyed (ends t (if s then alarm_said x else said.Nothing)) ≡ false
  no_command t false e x = unanswered (ends t said.Nothing) (told_length Packet said.Nothing buffer roomy)
  no_command t true e None = unanswered (ends t said.Nothing) (told_length Packet said.Nothing buffer roomy)
  no_command t true e (Some a) =
      let event = ends t (said.Alarm a) in
      obeyed_as event (words_of (said.Alarm a))
      (words_read Packet (said.Alarm a) buffer roomy event (view_safe p k.whole.sound ∙ e) refl refl)
      ∙ alarm_plain a

  not_obeyed : (t : Bool) → is_obeyed (ends t says) ≡ false
  unfolding sent
  not_obeyed t =
      no_command t safe refl
      (if fires p.device.link then Some TimeOut else new_alarm (pending (run_of p)) (pending m.core.run))

  -- alarm T is sent
  is_late : fires p.device.link ≡ true → timed_out (ends true says) ≡ true
  unfolding sent
  is_late h =
      let on = fires_safe p.device.link h in
      let seen = view_safe p k.whole.sound ∙ on in
      let said_is : says ≡ said.Alarm TimeOut =
      ap₂
      (λ (s t : Bool).
      if s then alarm_said (if t then Some TimeOut else new_alarm (pending (run_of p)) (pending m.core.run)) else said.Nothing)
      on h
      in
      timed_out_lem (ends true says) seen
      (words_read Packet says buffer roomy (ends true says) seen refl refl ∙ ap words_of said_is)

  steps_by : (t : Bool) → fires p.device.link ≡ t → Whole (ends t says).report.pump → Stepped b (ends t says)
  steps_by false h w = goes_by p b k m (tick_works p b k) buffer _ _ _ (not_obeyed false) w
  steps_by true h w = stopped_by p b k m (tick_works p b k) buffer _ _ _ (not_obeyed true) (is_late h) w

  pub tick_steps : Whole (event_of p (tick_in buffer)).report.pump → Followed b (event_of p (tick_in buffer))
  unfolding noted
  tick_steps w =
      subst (Followed b) (sym event_is)
      (record {
        stepped = steps_by (fires p.device.link) refl (subst (λ (e : Event). Whole e.report.pump) event_is w);
        packet = tick_packet p.device.link b.packet b.quiet packet;
      })
