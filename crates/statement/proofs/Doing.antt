-- What an accepted call does is what the relation Does says.
-- Assumes nothing.
use Prim.Native.Nat.{ℕ, zero, suc, ◌+◌, ◌-◌, ◌≤◌}
use mathlib.Core.Path.{◌≡◌, refl, sym, ap, ◌∙◌, subst}
use mathlib.Core.Logic.{inl, inr}
use mathlib.Core.Bool.{Bool, true, false}
use mathlib.Core.List.{List, [], ◌++◌}
use native.Mathlib.Numerals.{add-one}
use native.Mathlib.Omega.{arith}
use lib.Dec.{eqb}
use lib.ListN.{length, get_or, drop, get_or-append}
use lib.Seq.{get_or-append-add, get_or-drop}
use borrow.Author.Tests.{le-leb, le-ltb, ne_eqb}
use Rattle.base.proofs.Choices.{false_true}
use Rattle.words.specs.declared.answers.Said.{Said}
use Rattle.words.specs.declared.answers.Said.TheVariants as said
use Rattle.program.specs.declared.state.Core.{Core}
use Rattle.soundness.proofs.Ticks.{kept_tick}
use Rattle.answer.specs.Answers.{answer_of, length_in, buffer_after}
use Rattle.answer.specs.declared.frame.Frame.{Frame}
use Rattle.answer.specs.declared.frame.Frame.TheVariants.{Packet}
use Rattle.answer.proofs.Theorems.{length_kept, answer_least, alarm_length}
use Rattle.link.specs.Link.{link_tick}
use Rattle.link.proofs.Soundness.{tick_sound}
use Rattle.pump.specs.Calls.{tick_at, tick_done, and_tick, one_more, in_turn, ticks_call, ticks_buffer, pin_call, hear, frame_of, answered}
use Rattle.pump.specs.Calls.{byte_report, byte_buffer}
use Rattle.pump.specs.Device.{edge_of, edge}
use Rattle.pump.specs.Elapsing.{after_tick, sent}
use Rattle.pump.specs.Holder.{phase_count, phase_at, is_sound_pump}
use Rattle.pump.specs.Reports.{refusal_number, of_pin, of_byte, of_ticks, reported, moved_by, moved_buffer}
use Rattle.pump.specs.declared.holder.Pump.{Pump}
use Rattle.pump.proofs.Calling.{silent_length, silent_buffer}
use Rattle.pump.proofs.Kept.{pump_core, pump_link, core_sound, table_here}
use Rattle.pump.proofs.Running.{sound_tick, sound_tick_buffer}
use Rattle.statement.specs.Facts.{core_of, link_of}
use Rattle.statement.specs.Histories.{Call, byte_in, pin_at, tick_in, ticks_in}
use Rattle.statement.specs.Outcomes.{Outcome, outcome_of, Pin, Still, Written, TickDone, Level, low, high, Edge, two, four, six}
use Rattle.statement.specs.Outcomes.{RefusedAs, InTurn, none, more, TicksDone, Levelled, ByteHeard, Does, pump_with_core}
use Rattle.statement.proofs.Hearing.{hears}
use Rattle.statement.proofs.Raising.{raises, raised_kept, raised_output}
use Rattle.statement.proofs.Refusals.{Fine, pin_test, refused_down, refused_some}
use Rattle.statement.proofs.Wholes.{linked_sound, tick_apart}

still : (q : Pump) (n : ℕ) (buffer : List ℕ) → Still q (record { report = reported q n; buffer = buffer })
still q n buffer =
    record { taken = refl; new_state = refl; none_infused = refl; none_withdrawn = refl; no_beep = refl; no_tick_lem = refl; level = refl }

-- ---- something is said
abbrev is_some : Said → Bool
is_some said.Nothing = false
is_some (said.Alarm a) = true
is_some (said.Answer x r) = true

-- ---- what is written
past : (a b : List ℕ) (i : ℕ) → length a ≤ i → get_or (a ++ drop (length a) b) i 0 ≡ get_or b i 0
past a b i k =
    let e : length a + (i - length a) ≡ i = omega arith in
    ap (λ x. get_or (a ++ drop (length a) b) x 0) (sym e) ∙ get_or-append-add a (drop (length a) b) (i - length a) 0
    ∙ get_or-drop (length a) b (i - length a) 0
    ∙ ap (λ x. get_or b x 0) e

module _ (before : List ℕ) (h : 24 ≤ length before) where
  length_in_lem : (f : Frame) (s : Said) → length_in f 0 s before ≡ length (answer_of f 0 s)
  unfolding length_in
  length_in_lem f s = simp (le-leb 24 (length before) h)

  buffer_in : (f : Frame) (s : Said) → buffer_after f 0 s before ≡ answer_of f 0 s ++ drop (length (answer_of f 0 s)) before
  unfolding buffer_after
  buffer_in f s = simp (le-leb 24 (length before) h)

  written :
      (f : Frame) (s : Said) (o : Outcome)
      → o.report.length ≡ length_in f 0 s before
      → o.buffer ≡ buffer_after f 0 s before
      → Written (answer_of f 0 s) before o
  written f s o k e =
      let a : List ℕ = answer_of f 0 s in
      record {
        whole = k ∙ length_in_lem f s;
        same_size = ap length e ∙ length_kept f 0 s before;
        answer_bytes = λ i k. ap (λ x. get_or x i 0) (e ∙ buffer_in f s) ∙ get_or-append a (drop (length a) before) 0 i k;
        other_bytes = λ i k j. ap (λ x. get_or x i 0) (e ∙ buffer_in f s) ∙ past a before i k;
      }

  -- ---- a tick
  module _ (p : Pump) (e : is_sound_pump p ≡ true) where
    abbrev moved : Outcome
    moved = record { report = moved_by p (tick_at p) before; buffer = moved_buffer p (tick_at p) before }

    tick_moved : outcome_of p (tick_in before) ≡ moved
    tick_moved = λ i. record { report = sound_tick p before e h i; buffer = sound_tick_buffer p before e h i }

    moved_does : TickDone p before moved
    unfolding after_tick
    moved_does =
        record {
          core = (after_tick p.device (tick_at p).core).core;
          sends = sent p.device (tick_at p).core;
          raises = raises p (tick_at p);
          taken = refl;
          new_state = refl;
          infused = refl;
          withdrawn = refl;
          one_beep = λ k. rw k refl;
          no_beep = λ k. rw k refl;
          one_tick_lem = refl;
          level = refl;
          written = written Packet (sent p.device (tick_at p).core) moved refl refl;
        }

    tick_does : TickDone p before (outcome_of p (tick_in before))
    tick_does = subst (TickDone p before) (sym tick_moved) moved_does

    pub moved_sound : is_sound_pump moved.report.pump ≡ true
    unfolding after_tick moved_does
    moved_sound =
        let kept = kept_tick (phase_count p) (phase_at p.phases) (table_here p e) (core_of p) (pump_core p e) in
        let d = moved_does in
        let core = raised_kept p (tick_at p) (phase_count p) (phase_at p.phases) d.core d.sends d.raises kept in
        linked_sound (pump_with_core p d.core) (link_tick (link_of p)) (core_sound p e d.core core) (tick_sound (link_of p) (pump_link p e))
        (tick_apart p e)

    not_refused : (k : ℕ) → RefusedAs p (tick_in before) k → ⊥
    not_refused k r = refused_some p (tick_in before) k r (sym (refused_down p (tick_in before) k r).number ∙ tick_does.taken)

  -- ---- many ticks: each of them finds a sound state
  module _ (p : Pump) (e : is_sound_pump p ≡ true) where
    pub record Turned (n : ℕ) (o : Outcome) : Type 0 where
      pub sends : Said
      pub relation :
          InTurn before o.report.ticks p o.report.pump o.report.infused o.report.withdrawn o.report.beeps sends
      pub kept : is_sound_pump o.report.pump ≡ true
      pub within : o.report.ticks ≤ n
      pub all : sends ≡ said.Nothing → o.report.ticks ≡ n
      pub number : refusal_number o.report.refusal ≡ 0
      pub level : o.report.output ≡ (core_of o.report.pump).output
      pub told : o.report.length ≡ length_in Packet 0 sends before
      pub behind : o.buffer ≡ buffer_after Packet 0 sends before

    -- one more, where nothing was sent yet
    moved_on : (n : ℕ) (o : Outcome) (t : Turned n o) → t.sends ≡ said.Nothing → Turned (suc n) (and_tick o (moved o.report.pump t.kept))
    unfolding after_tick moved_does
    moved_on n o t k =
        let q = o.report.pump in
        let d = moved_does q t.kept in
        let after = and_tick o (moved q t.kept) in
        record {
          sends = d.sends;
          relation =
              subst
              (λ (i : ℕ).
              InTurn before i p after.report.pump after.report.infused after.report.withdrawn after.report.beeps d.sends)
              (sym (add-one o.report.ticks))
              (more o.report.ticks p q _ _ _ (moved q t.kept) (subst (InTurn before o.report.ticks p q _ _ _) k t.relation)
              (not_refused q t.kept) d);
          kept = moved_sound q t.kept;
          within = omega (arith, t.within);
          all = λ z. omega (arith, t.all k);
          number = refl;
          level = sym (raised_output q (tick_at q) d.core d.sends d.raises);
          told = refl;
          behind = refl;
        }

    -- behind one that was sent there is none
    ended_on : (n : ℕ) (o : Outcome) (t : Turned n o) → (t.sends ≡ said.Nothing → ⊥) → Turned (suc n) o
    ended_on n o t k =
        record {
          sends = t.sends;
          relation = t.relation;
          kept = t.kept;
          within = omega (arith, t.within);
          all = λ z. absurd (k z);
          number = t.number;
          level = t.level;
          told = t.told;
          behind = t.behind;
        }

    -- the buffer is as it was, and the length 0, exactly where nothing was sent
    sent_length : (x : Said) → (x ≡ said.Nothing → ⊥) → eqb (length_in Packet 0 x before) 0 ≡ false
    sent_length said.Nothing k = absurd (k refl)
    sent_length (said.Alarm a) k =
        ap (λ (n : ℕ). eqb n 0) (length_in_lem Packet (said.Alarm a))
        ∙ ne_eqb (length (answer_of Packet 0 (said.Alarm a))) 0 (λ z. omega (arith, alarm_length Packet 0 a))
    sent_length (said.Answer x r) k =
        ap (λ (n : ℕ). eqb n 0) (length_in_lem Packet (said.Answer x r))
        ∙ ne_eqb (length (answer_of Packet 0 (said.Answer x r))) 0 (λ z. omega (arith, answer_least Packet 0 x r))

    more_quiet : (o : Outcome) → o.report.length ≡ 0 → o.buffer ≡ before → one_more o ≡ and_tick o (tick_done o.report.pump before)
    more_quiet o k z =
        let next : one_more o ≡ and_tick o (tick_done o.report.pump o.buffer) = rw k refl in
        next ∙ ap (λ (x : List ℕ). and_tick o (tick_done o.report.pump x)) z

    more_none : (o : Outcome) → eqb o.report.length 0 ≡ false → one_more o ≡ o
    more_none o k = rw k refl

    one_on : (n : ℕ) (o : Outcome) → Turned n o → Turned (suc n) (one_more o)
    one_on n o t = go t.sends refl
      where
        sent_some : (t.sends ≡ said.Nothing → ⊥) → Turned (suc n) (one_more o)
        sent_some k =
            subst (Turned (suc n)) (sym (more_none o (ap (λ (x : ℕ). eqb x 0) t.told ∙ sent_length t.sends k))) (ended_on n o t k)

        go : (x : Said) → t.sends ≡ x → Turned (suc n) (one_more o)
        go said.Nothing k =
            let quiet = t.told ∙ ap (λ (x : Said). length_in Packet 0 x before) k ∙ sym (silent_length Packet before) in
            let same = t.behind ∙ ap (λ (x : Said). buffer_after Packet 0 x before) k ∙ sym (silent_buffer Packet before) in
            subst (Turned (suc n))
            (sym (more_quiet o quiet same ∙ ap (and_tick o) (tick_moved o.report.pump t.kept)))
            (moved_on n o t k)
        go (said.Alarm a) k = sent_some (λ z. false_true (ap is_some (sym z ∙ k)))
        go (said.Answer x r) k = sent_some (λ z. false_true (ap is_some (sym z ∙ k)))

    pub turns : (n : ℕ) → Turned n (in_turn n p before)
    unfolding in_turn
    turns zero =
        record {
          sends = said.Nothing;
          relation = none p;
          kept = e;
          within = omega arith;
          all = λ z. refl;
          number = refl;
          level = refl;
          told = silent_length Packet before;
          behind = silent_buffer Packet before;
        }
    turns (suc n) = one_on n (in_turn n p before) (turns n)

    many_taken : (n : ℕ) → n ≤ 1_000_000 → outcome_of p (ticks_in n before) ≡ in_turn n p before
    unfolding ticks_call ticks_buffer of_ticks
    many_taken n k = rw (e, le-ltb (length before) 24 h, le-ltb 1_000_000 n k) refl

    ticks_do : (n : ℕ) → n ≤ 1_000_000 → TicksDone p n before (outcome_of p (ticks_in n before))
    ticks_do n k =
        let t = turns n in
        subst (TicksDone p n before) (sym (many_taken n k))
        (record {
          sends = t.sends;
          taken = t.number;
          in_turn = t.relation;
          within = t.within;
          all = t.all;
          level = t.level;
          written = written Packet t.sends (in_turn n p before) t.told t.behind;
        })

-- ---- a pin at its level
level_of : (n : ℕ) → n ≤ 1 → Level n (eqb n 1)
level_of zero h = low
level_of (suc zero) h = high
level_of (suc (suc n)) h = absurd (omega arith)

edge_at : (s : Core) (level : Bool) (pin : ℕ) → Pin pin → Edge s level pin (edge_of s pin level)
edge_at s level pin (inl e) = subst (λ n. Edge s level n (edge_of s n level)) (sym e) two
edge_at s level pin (inr (inl e)) = subst (λ n. Edge s level n (edge_of s n level)) (sym e) four
edge_at s level pin (inr (inr e)) = subst (λ n. Edge s level n (edge_of s n level)) (sym e) six

module _ (p : Pump) (pin level : ℕ) (k : Pin pin) (h : level ≤ 1) where
  abbrev core : Core
  core = edge_of (core_of p) pin (eqb level 1)

  pin_taken : is_sound_pump p ≡ true → pin_call p pin level ≡ reported (pump_with_core p core) 0
  unfolding pin_call of_pin edge
  pin_taken e = rw (e, pin_test pin k, le-ltb 1 level h) refl

  pin_does : is_sound_pump p ≡ true → Levelled p pin level (outcome_of p (pin_at pin level))
  pin_does e =
      subst (λ r. Levelled p pin level (record { report = r; buffer = [] })) (sym (pin_taken e))
      (record {
        is_high = eqb level 1;
        core = core;
        at_level = level_of level h;
        edge = edge_at (core_of p) (eqb level 1) pin k;
        still = still (pump_with_core p core) 0 [];
        silent = record { no_answer = refl; same_buffer = refl };
      })

-- ---- a byte
module _ (before : List ℕ) (h : 24 ≤ length before) (p : Pump) (b : ℕ) (e : is_sound_pump p ≡ true) where
  report_heard : byte_report p b before ≡ answered (hear p b).pump (frame_of p) (hear p b).said before
  unfolding byte_report of_byte
  report_heard = simp (e, le-ltb (length before) 24 h) refl

  buffer_heard : byte_buffer p b before ≡ buffer_after (frame_of p) 0 (hear p b).said before
  unfolding byte_buffer of_byte
  buffer_heard = simp (e, le-ltb (length before) 24 h) refl

  byte_does : ByteHeard p b before (outcome_of p (byte_in b before))
  byte_does =
      let l = hear p b in
      subst (ByteHeard p b before) (sym (λ i. record { report = report_heard i; buffer = buffer_heard i }))
      (record {
        said = l;
        hears = hears p b;
        still = still l.pump _ _;
        written = written before h (frame_of p) l.said _ refl refl;
      })

pub does : (p : Pump) (call : Call) → is_sound_pump p ≡ true → Fine call → Does p call (outcome_of p call)
does p (byte_in b buffer) e h = byte_does buffer h p b e
does p (pin_at pin level) e h = pin_does p pin level h.0 h.1 e
does p (tick_in buffer) e h = tick_does buffer h p e
does p (ticks_in n buffer) e h = ticks_do buffer h.0 p e n h.1
