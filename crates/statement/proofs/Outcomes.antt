-- The relation of specs/Outcomes.antt is the graph of the calls:
--     call_meets       every call meets it
--     outcome_unique   two outcomes that meet it are equal
--     meets_iff        so an outcome meets it exactly where it is the call's
-- Assumes nothing.
use Rattle.std.specs.Prelude.{Option, None, Some}
use Prim.Native.Nat.{ℕ, zero, suc, ◌+◌, ◌<◌}
use mathlib.Core.Path.{◌≡◌, refl, sym, ap, ap₂, ◌∙◌, subst}
use mathlib.Core.Logic.{◌↔◌}
use mathlib.Core.Bool.{Bool, true, false}
use mathlib.Core.List.{List}
use native.Mathlib.Omega.{arith}
use lib.Dec.{ltb, eqb}
use lib.ListN.{length, get_or}
use lib.Seq.{ext_get_or}
use borrow.Author.Tests.{ltb-true, ltb-false}
use Rattle.words.specs.declared.answers.Said.{Said}
use Rattle.words.specs.declared.answers.Said.TheVariants as said
use Rattle.program.specs.declared.state.Core.{Core}
use Rattle.link.specs.Link.{link_tick}
use Rattle.answer.specs.Answers.{answer_of}
use Rattle.answer.specs.declared.frame.Frame.{Frame}
use Rattle.answer.specs.declared.frame.Frame.TheVariants.{Packet}
use Rattle.pump.specs.Calls.{tick_at, tick_call, frame_of}
use Rattle.pump.specs.Device.{edge_of}
use Rattle.pump.specs.Elapsing.{sent}
use Rattle.pump.specs.Reports.{refusal_number}
use Rattle.pump.specs.declared.calls.Listened.{Listened}
use Rattle.pump.specs.declared.holder.Pump.{Pump}
use Rattle.pump.specs.declared.reports.Refusal.{Refusal}
use Rattle.pump.specs.declared.reports.Refusal.TheVariants.{ShortBuffer, NoPin, NoLevel, Unsound, TooManyTicks}
use Rattle.pump.specs.declared.reports.Report.{Report}
use Rattle.statement.specs.Facts.{core_of, link_of}
use Rattle.statement.specs.Histories.{Call, byte_in, pin_at, tick_in, ticks_in, buffer_before, after, event_of, trace, single_ticks}
use Rattle.statement.specs.Many.{sum_of}
use Rattle.statement.specs.Outcomes as out
use Rattle.statement.specs.Outcomes.{Outcome, outcome_of, number_of, TurnedDown, Still, Written, TickDone}
use Rattle.statement.specs.Outcomes.{RefusedAs, InTurn, none, more, TicksDone}
use Rattle.statement.specs.Outcomes.{Level, low, high, Edge, two, four, six, pump_with_core, pump_with_link, Does, Meets}
use Rattle.statement.proofs.Hearing.{hears_is}
use Rattle.statement.proofs.Joining.{after_last, trace_last, sum_last}
use Rattle.statement.proofs.Raising.{raises_is}
use Rattle.statement.proofs.Refusals.{Verdict, turns_down, takes, verdict, refused_down, refused_some}
use Rattle.statement.proofs.Doing.{does}

-- ---- every call meets the relation
pub does_number : (p : Pump) (call : Call) (o : Outcome) → Does p call o → number_of o ≡ 0
does_number p (byte_in b buffer) o d = d.still.taken
does_number p (pin_at pin level) o d = d.still.taken
does_number p (tick_in buffer) o d = d.taken
does_number p (ticks_in n buffer) o d = d.taken

pub call_meets : (p : Pump) (call : Call) → Meets p call (outcome_of p call)
call_meets p call = go (verdict p call)
  where
    go : Verdict p call → Meets p call (outcome_of p call)
    go (turns_down k r) = out.turned_down k r (refused_down p call k r)
    go (takes e f) =
        let d = does p call e f in
        out.accepted
        (λ k r. refused_some p call k r (sym (refused_down p call k r).number ∙ does_number p call (outcome_of p call) d))
        d

-- ---- refusals of one number are equal
abbrev refusal_at : ℕ → Option Refusal
refusal_at zero = None
refusal_at (suc zero) = Some ShortBuffer
refusal_at (suc (suc zero)) = Some NoPin
refusal_at (suc (suc (suc zero))) = Some NoLevel
refusal_at (suc (suc (suc (suc zero)))) = Some Unsound
refusal_at (suc (suc (suc (suc (suc n))))) = Some TooManyTicks

at_number : (x : Option Refusal) → refusal_at (refusal_number x) ≡ x
at_number None = refl
at_number (Some ShortBuffer) = refl
at_number (Some NoPin) = refl
at_number (Some NoLevel) = refl
at_number (Some Unsound) = refl
at_number (Some TooManyTicks) = refl

number_tells : (x y : Option Refusal) → refusal_number x ≡ refusal_number y → x ≡ y
number_tells x y e = sym (at_number x) ∙ ap refusal_at e ∙ at_number y

-- ---- two outcomes that meet it are equal
both : {A : Type 0} {x y z : A} → x ≡ z → y ≡ z → x ≡ y
both a b = a ∙ sym b

same_outcome :
    (y z : Outcome)
    → y.report.pump ≡ z.report.pump
    → y.report.length ≡ z.report.length
    → y.report.infused ≡ z.report.infused
    → y.report.withdrawn ≡ z.report.withdrawn
    → y.report.beeps ≡ z.report.beeps
    → y.report.ticks ≡ z.report.ticks
    → number_of y ≡ number_of z
    → y.report.output ≡ z.report.output
    → y.buffer ≡ z.buffer
    → y ≡ z
same_outcome y z a b c d e t f g h =
    let k = number_tells y.report.refusal z.report.refusal f in
    λ i.
    record {
      report = record { pump = a i; length = b i; infused = c i; withdrawn = d i; beeps = e i; ticks = t i; refusal = k i; output = g i };
      buffer = h i;
    }

module _ (y z : Outcome) where
  turned_unique : (p : Pump) (k : ℕ) (before : List ℕ) → TurnedDown p k before y → TurnedDown p k before z → y ≡ z
  turned_unique p k before a b =
      same_outcome y z (both a.same_state b.same_state) (both a.no_answer b.no_answer)
      (both a.none_infused b.none_infused) (both a.none_withdrawn b.none_withdrawn) (both a.no_beep b.no_beep)
      (both a.no_tick_lem b.no_tick_lem) (both a.number b.number) (both a.same_level b.same_level)
      (both a.same_buffer b.same_buffer)

  still_unique : (q : Pump) → Still q y → Still q z → y.report.length ≡ z.report.length → y.buffer ≡ z.buffer → y ≡ z
  still_unique q a b e h =
      same_outcome y z (both a.new_state b.new_state) e (both a.none_infused b.none_infused)
      (both a.none_withdrawn b.none_withdrawn) (both a.no_beep b.no_beep) (both a.no_tick_lem b.no_tick_lem)
      (both a.taken b.taken) (both a.level b.level) h

  written_unique : (answer before : List ℕ) → Written answer before y → Written answer before z → y.buffer ≡ z.buffer
  written_unique answer before a b =
      ext_get_or 0 y.buffer z.buffer (both a.same_size b.same_size) (λ i h. byte i h (ltb i (length answer)) refl)
    where
      byte : (i : ℕ) → i < length y.buffer → (t : Bool) → ltb i (length answer) ≡ t → get_or y.buffer i 0 ≡ get_or z.buffer i 0
      byte i h true e =
          let k = ltb-true i (length answer) e in
          both (a.answer_bytes i k) (b.answer_bytes i k)
      byte i h false e =
          let k = ltb-false i (length answer) e in
          both (a.other_bytes i k (omega (arith, a.same_size))) (b.other_bytes i k (omega (arith, a.same_size)))

  beeps_same :
      (p : Pump) (before : List ℕ)
      → TickDone p before y
      → TickDone p before z
      → (t : Bool)
      → (tick_at p).beep ≡ t
      → y.report.beeps ≡ z.report.beeps
  beeps_same p before a b true e = both (a.one_beep e) (b.one_beep e)
  beeps_same p before a b false e = both (a.no_beep e) (b.no_beep e)

  -- what is written tells an outcome, where the rest is the same
  answered_unique :
      (f : Frame) (before : List ℕ) (u v : Said)
      → u ≡ v
      → Written (answer_of f 0 u) before y
      → Written (answer_of f 0 v) before z
      → (y.report.length ≡ z.report.length) × (y.buffer ≡ z.buffer)
  answered_unique f before u v e a b =
      let w = subst (λ (x : Said). Written (answer_of f 0 x) before z) (sym e) b in
      (both a.whole w.whole, written_unique (answer_of f 0 u) before a w)

  ticked_unique : (p : Pump) (before : List ℕ) → TickDone p before y → TickDone p before z → y ≡ z
  ticked_unique p before a b =
      let c = raises_is p (tick_at p) a.core a.sends a.raises in
      let d = raises_is p (tick_at p) b.core b.sends b.raises in
      let w = answered_unique Packet before a.sends b.sends (both c.1 d.1) a.written b.written in
      same_outcome y z
      (a.new_state
      ∙ ap (λ (s : Core). pump_with_link (pump_with_core p s) (link_tick (link_of p))) (both c.0 d.0)
      ∙ sym b.new_state)
      w.0 (both a.infused b.infused) (both a.withdrawn b.withdrawn) (beeps_same p before a b (tick_at p).beep refl)
      (both a.one_tick_lem b.one_tick_lem) (both a.taken b.taken) (both a.level b.level) w.1

-- ---- so many ticks lead to one state, with one sum of each, and send one thing
pub ticked_is :
    (p : Pump) (before : List ℕ) (o : Outcome)
    → ((k : ℕ) → RefusedAs p (tick_in before) k → ⊥)
    → TickDone p before o
    → o ≡ outcome_of p (tick_in before)
ticked_is p before o free d = go (verdict p (tick_in before))
  where
    go : Verdict p (tick_in before) → o ≡ outcome_of p (tick_in before)
    go (turns_down k r) = absurd (free k r)
    go (takes e f) = ticked_unique o (outcome_of p (tick_in before)) p before d (does p (tick_in before) e f)

-- where ticks lead, and what the last of them sent
abbrev led : List ℕ → Pump → ℕ → Pump
led before p n = after p (single_ticks n before)

abbrev last_sent : List ℕ → Pump → ℕ → Said
last_sent before p zero = said.Nothing
last_sent before p (suc n) = sent (led before p n).device (tick_at (led before p n)).core

pub record Turned (before : List ℕ) (n : ℕ) (p q : Pump) (infused withdrawn beeps : ℕ) (x : Said) : Type 0 where
  pub leads : q ≡ led before p n
  pub sum_infused : infused ≡ sum_of (λ r. r.infused) (trace p (single_ticks n before))
  pub sum_withdrawn : withdrawn ≡ sum_of (λ r. r.withdrawn) (trace p (single_ticks n before))
  pub sum_beeps : beeps ≡ sum_of (λ r. r.beeps) (trace p (single_ticks n before))
  pub sum_ticks : n ≡ sum_of (λ r. r.ticks) (trace p (single_ticks n before))
  pub sum_length : length (answer_of Packet 0 x) ≡ sum_of (λ r. r.length) (trace p (single_ticks n before))
  pub sends : x ≡ last_sent before p n
  pub quiet_before : (i : ℕ) → i < n → last_sent before p i ≡ said.Nothing

module _ (before : List ℕ) (p : Pump) (told : Report → ℕ) where
  sum_next :
      (n : ℕ) (q : Pump) (a : ℕ) (o : Outcome)
      → q ≡ led before p n
      → a ≡ sum_of told (trace p (single_ticks n before))
      → o.report ≡ tick_call q before
      → a + told o.report ≡ sum_of told (trace p (single_ticks (suc n) before))
  sum_next n q a o l e k =
      ap₂ (λ (x : ℕ) (r : Report). x + told r) e (k ∙ ap (λ (x : Pump). tick_call x before) l)
      ∙ sym (sum_last told (trace p (single_ticks n before)) (event_of (led before p n) (tick_in before)))
      ∙ ap (sum_of told) (sym (trace_last before n p))

early : (before : List ℕ) (p : Pump) (n i : ℕ)
    → ((j : ℕ) → j < n → last_sent before p j ≡ said.Nothing)
    → last_sent before p n ≡ said.Nothing
    → i < suc n
    → last_sent before p i ≡ said.Nothing
early before p n i below here k = go (ltb i n) refl
  where
    go : (t : Bool) → ltb i n ≡ t → last_sent before p i ≡ said.Nothing
    go true e = below i (ltb-true i n e)
    go false e = let z : i ≡ n = omega (arith, ltb-false i n e) in ap (last_sent before p) z ∙ here

turned_one :
    (before : List ℕ) (n : ℕ) (p q : Pump) (a b c : ℕ) (o : Outcome)
    → Turned before n p q a b c said.Nothing
    → o.report ≡ tick_call q before
    → (d : TickDone q before o)
    → Turned before (suc n) p o.report.pump (a + o.report.infused) (b + o.report.withdrawn) (c + o.report.beeps) d.sends
turned_one before n p q a b c o t k d =
    let l = t.leads in
    let one : n + o.report.ticks ≡ suc n = omega (arith, d.one_tick_lem) in
    let none : 0 + o.report.length ≡ length (answer_of Packet 0 d.sends) = omega (arith, d.written.whole) in
    record {
      leads = ap (λ (r : Report). r.pump) (k ∙ ap (λ (x : Pump). tick_call x before) l) ∙ sym (after_last before n p);
      sum_infused = sum_next before p (λ r. r.infused) n q a o l t.sum_infused k;
      sum_withdrawn = sum_next before p (λ r. r.withdrawn) n q b o l t.sum_withdrawn k;
      sum_beeps = sum_next before p (λ r. r.beeps) n q c o l t.sum_beeps k;
      sum_ticks = sym one ∙ sum_next before p (λ r. r.ticks) n q n o l t.sum_ticks k;
      sum_length = sym none ∙ sum_next before p (λ r. r.length) n q 0 o l t.sum_length k;
      sends =
          (raises_is q (tick_at q) d.core d.sends d.raises).1
          ∙ ap (λ (x : Pump). sent x.device (tick_at x).core) l;
      quiet_before = λ i h. early before p n i t.quiet_before (sym t.sends) h;
    }

pub in_turn_is :
    (before : List ℕ) (n : ℕ) (p q : Pump) (a b c : ℕ) (x : Said) → InTurn before n p q a b c x → Turned before n p q a b c x
unfolding after trace single_ticks sum_of
in_turn_is before n p q a b c x (none y) =
    record {
      leads = refl;
      sum_infused = refl;
      sum_withdrawn = refl;
      sum_beeps = refl;
      sum_ticks = refl;
      sum_length = refl;
      sends = refl;
      quiet_before = λ i h. absurd (omega arith);
    }
in_turn_is before n p q a b c x (more m u v i j k o t free d) =
    turned_one before m u v i j k o (in_turn_is before m u v i j k said.Nothing t)
    (ap (λ (z : Outcome). z.report) (ticked_is v before o free d)) d

-- ---- a call of many ticks ends at one number of them
module _ (y z : Outcome) (p : Pump) (n : ℕ) (before : List ℕ) (a : TicksDone p n before y) (b : TicksDone p n before z) where
  abbrev TurnedOf : (o : Outcome) → TicksDone p n before o → Type 0
  TurnedOf o d =
      Turned before o.report.ticks p o.report.pump o.report.infused o.report.withdrawn o.report.beeps d.sends

  s : TurnedOf y a
  s = in_turn_is before _ p _ _ _ _ _ a.in_turn

  t : TurnedOf z b
  t = in_turn_is before _ p _ _ _ _ _ b.in_turn

  not_fewer : y.report.ticks < z.report.ticks → ⊥
  not_fewer h =
      let quiet = s.sends ∙ t.quiet_before y.report.ticks h in
      let all = a.all quiet in
      omega (arith, b.within)

  not_more : z.report.ticks < y.report.ticks → ⊥
  not_more h =
      let quiet = t.sends ∙ s.quiet_before z.report.ticks h in
      let all = b.all quiet in
      omega (arith, a.within)

  same_count : y.report.ticks ≡ z.report.ticks
  same_count = go (ltb y.report.ticks z.report.ticks) refl (ltb z.report.ticks y.report.ticks) refl
    where
      go :
          (f : Bool)
          → ltb y.report.ticks z.report.ticks ≡ f
          → (g : Bool)
          → ltb z.report.ticks y.report.ticks ≡ g
          → y.report.ticks ≡ z.report.ticks
      go true e g k = absurd (not_fewer (ltb-true y.report.ticks z.report.ticks e))
      go false e true k = absurd (not_more (ltb-true z.report.ticks y.report.ticks k))
      go false e false k =
          omega (arith, ltb-false y.report.ticks z.report.ticks e, ltb-false z.report.ticks y.report.ticks k)

  sum_same : (told : Report → ℕ)
      → sum_of told (trace p (single_ticks y.report.ticks before)) ≡ sum_of told (trace p (single_ticks z.report.ticks before))
  sum_same told = ap (λ (k : ℕ). sum_of told (trace p (single_ticks k before))) same_count

  many_unique : y ≡ z
  many_unique =
      let leads = s.leads ∙ ap (led before p) same_count ∙ sym t.leads in
      let w =
      answered_unique y z Packet before a.sends b.sends (s.sends ∙ ap (last_sent before p) same_count ∙ sym t.sends) a.written
      b.written in
      same_outcome y z leads w.0 (s.sum_infused ∙ sum_same (λ r. r.infused) ∙ sym t.sum_infused)
      (s.sum_withdrawn ∙ sum_same (λ r. r.withdrawn) ∙ sym t.sum_withdrawn)
      (s.sum_beeps ∙ sum_same (λ r. r.beeps) ∙ sym t.sum_beeps) same_count (both a.taken b.taken)
      (a.level ∙ ap (λ (q : Pump). (core_of q).output) leads ∙ sym b.level) w.1

-- the level and the core are those of the arguments
edge_is : (s : Core) (level : Bool) (pin : ℕ) (core : Core) → Edge s level pin core → core ≡ edge_of s pin level
edge_is s level pin core two = refl
edge_is s level pin core four = refl
edge_is s level pin core six = refl

level_is : (n : ℕ) (level : Bool) → Level n level → level ≡ eqb n 1
level_is n level low = refl
level_is n level high = refl

levelled_is : (p : Pump) (pin n : ℕ) (o : Outcome) (l : out.Levelled p pin n o) → l.core ≡ edge_of (core_of p) pin (eqb n 1)
levelled_is p pin n o l =
    edge_is (core_of p) l.is_high pin l.core l.edge ∙ ap (edge_of (core_of p) pin) (level_is n l.is_high l.at_level)

does_unique : (p : Pump) (call : Call) (y z : Outcome) → Does p call y → Does p call z → y ≡ z
does_unique p (byte_in b buffer) y z a k =
    let same = hears_is p b k.said k.hears ∙ sym (hears_is p b a.said a.hears) in
    let w = subst (λ (s : Listened). Written (answer_of (frame_of p) 0 s.said) buffer z) same k.written in
    still_unique y z a.said.pump a.still (subst (λ (s : Listened). Still s.pump z) same k.still)
    (both a.written.whole w.whole) (written_unique y z _ buffer a.written w)
does_unique p (pin_at pin level) y z a b =
    let same = levelled_is p pin level z b ∙ sym (levelled_is p pin level y a) in
    still_unique y z (pump_with_core p a.core) a.still (subst (λ s. Still (pump_with_core p s) z) same b.still)
    (both a.silent.no_answer b.silent.no_answer) (both a.silent.same_buffer b.silent.same_buffer)
does_unique p (tick_in buffer) y z a b = ticked_unique y z p buffer a b
does_unique p (ticks_in n buffer) y z a b = many_unique y z p n buffer a b

pub outcome_unique : (p : Pump) (call : Call) (y z : Outcome) → Meets p call y → Meets p call z → y ≡ z
outcome_unique p call y z (out.turned_down k r a) (out.turned_down j q b) =
    turned_unique y z p k (buffer_before call) a
    (subst (λ n. TurnedDown p n (buffer_before call) z) (sym (refused_down p call j q).number ∙ (refused_down p call k r).number) b)
outcome_unique p call y z (out.turned_down k r a) (out.accepted n b) = absurd (n k r)
outcome_unique p call y z (out.accepted n a) (out.turned_down j q b) = absurd (n j q)
outcome_unique p call y z (out.accepted n a) (out.accepted m b) = does_unique p call y z a b

-- so the relation is the graph of the calls
pub meets_iff : (p : Pump) (call : Call) (y : Outcome) → Meets p call y ↔ (y ≡ outcome_of p call)
meets_iff p call y =
    (λ m. outcome_unique p call y (outcome_of p call) m (call_meets p call), λ e. subst (Meets p call) (sym e) (call_meets p call))
