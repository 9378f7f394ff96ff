-- Condition 3 holds after any sequence of calls from power-up, refused ones and calls of many ticks among them, whatever the number of
-- phases. The events are taken tick by tick: a call of many ticks is the single ticks that it did.   (02, 1/12)
--     condition3         of a pump of n phases, 1 to 99
--     condition3_here    of this model
--     stored_as_booked   what the pump stores and no query shows is what the observer has in his books
--     line_after         so the line holds the characters since the last return, up to 40, and is over-long where there are more
-- Assumes nothing.
use Rattle.std.specs.Prelude.{if◌then◌else◌}
use Prim.Native.Nat.{ℕ, ◌+◌, ◌≤◌}
use mathlib.Core.Path.{◌≡◌, refl, sym, ap, ◌∙◌, subst}
use mathlib.Core.Bool.{Bool, false}
use mathlib.Core.List.{List, [], ◌∷◌}
use native.Mathlib.Omega.{arith}
use lib.ListN.{length-take}
use lib.Dec.{eqb}
use borrow.Author.Tests.{ne_eqb}
use Rattle.base.specs.Text.{letter}
use Rattle.base.proofs.Choices.{false_true}
use Rattle.drive.specs.declared.directions.Direction.{Direction}
use Rattle.drive.specs.declared.directions.Direction.TheVariants.{Infuse, Withdraw}
use Rattle.dispense.specs.Ledgers.{total_of}
use Rattle.line.specs.Collected.{collect, characters, Holds}
use Rattle.line.specs.declared.lines.Line.{Line}
use Rattle.line.proofs.Theorems.{collected}
use Rattle.pump.specs.Holder.{model_phases, fresh_pump}
use Rattle.pump.specs.declared.holder.Pump.{Pump}
use Rattle.statement.specs.Facts.{Sound, core_of, run_of, link_of, loops_of}
use Rattle.statement.specs.Histories.{Call, byte_in, pin_at, tick_in, ticks_in, report_after, buffer_before, after, Event, event_of, trace}
use Rattle.statement.specs.Histories.{tick_by_tick, Every, Model}
use Rattle.statement.specs.Outcomes.{outcome_of, number_of, TurnedDown}
use Rattle.statement.proofs.Always.{model, call_whole}
use Rattle.statement.proofs.Doing.{does}
use Rattle.statement.proofs.Refusals.{Verdict, turns_down, takes, verdict, refused_down, refused_some}
use Rattle.statement.proofs.Singly.{Single, singly, singly_single, singly_after, singly_trace}
use Rattle.statement.proofs.Soundness.{sound_facts}
use Rattle.statement.proofs.Wholes.{fresh_whole}
use Rattle.condition3.specs.Books.{Books, blank, books, noted, view_of, is_taken, Deed, other, deed_by, deed, of_way, told, ruled_by}
use Rattle.condition3.specs.Condition.{Throughout, Dispensed, Goes, ThreeLoops, Condition3}
use Rattle.condition3.specs.Stored.{Stored, SamePacket}
use Rattle.condition3.proofs.Bytes.{byte_steps}
use Rattle.condition3.proofs.Lapsing.{tick_steps}
use Rattle.condition3.proofs.Noting.{Kept, not_noted}
use Rattle.condition3.proofs.Pins.{pin_steps}
use Rattle.condition3.proofs.Ticks.{Stepped, Followed, none_told}
use Rattle.condition3.proofs.Views.{view_stopped, moving_on}

-- ---- the pump and the books agree, on the program and on the packet under way
record Held (p : Pump) (b : Books) : Type 0 where
  kept : Kept p b
  packet : SamePacket (link_of p) b.packet b.quiet

held_by : (b : Books) (e : Event) → Followed b e → Held e.report.pump (noted b e)
held_by b e f = record { kept = f.stepped.kept; packet = f.packet }

-- ---- one call
-- a refused call leaves the pump and the books
refused_steps :
    (p : Pump) (b : Books)
    → Held p b
    → (call : Call) (n : ℕ)
    → (n ≡ 0 → ⊥)
    → TurnedDown p n (buffer_before call) (outcome_of p call)
    → Followed b (event_of p call)
refused_steps p b h call n some t =
    record {
      stepped =
          record {
            kept = subst (Kept (report_after p call).pump) (sym stays) (subst (λ (q : Pump). Kept q b) (sym t.same_state) h.kept);
            ruled =
                λ d.
                none_told d (report_after p call).infused (report_after p call).withdrawn t.none_infused t.none_withdrawn
                ∙ ap (ruled_by d (b.given d)) (sym idle);
            goes =
                subst (Goes b (event_of p call)) (sym idle)
                (λ moving halt.
                false_true
                (sym (view_stopped p ∙ moving_on p moving)
                ∙ ap (λ (q : Pump). eqb (view_of q).status (letter "S")) (sym t.same_state)
                ∙ halt));
            few = omega (arith, t.none_infused, t.none_withdrawn);
          };
      packet =
          subst (λ (y : Books). SamePacket (link_of (report_after p call).pump) y.packet y.quiet) (sym stays)
          (subst (λ (q : Pump). SamePacket (link_of q) b.packet b.quiet) (sym t.same_state) h.packet);
    }
  where
    refused : is_taken (event_of p call) ≡ false
    refused = ne_eqb (number_of (outcome_of p call)) 0 (λ e. some (sym t.number ∙ e))

    stays : noted b (event_of p call) ≡ b
    stays = not_noted b (event_of p call) refused

    idle : deed b (event_of p call) ≡ other
    idle = ap (λ (t : Bool). if◌then◌else◌ {A = Deed} t (deed_by b.doing (view_of p) call) other) refused

call_steps : (p : Pump) (b : Books) → Held p b → (call : Call) → Single call → Followed b (event_of p call)
call_steps p b h (byte_in x buffer) single = go (verdict p (byte_in x buffer))
  where
    go : Verdict p (byte_in x buffer) → Followed b (event_of p (byte_in x buffer))
    go (turns_down n r) = refused_steps p b h (byte_in x buffer) n (refused_some p _ n r) (refused_down p _ n r)
    go (takes e f) =
        byte_steps p b h.kept h.packet x buffer f (outcome_of p (byte_in x buffer)) (does p (byte_in x buffer) e f)
        (call_whole p (byte_in x buffer) h.kept.whole)
call_steps p b h (pin_at pin level) single = go (verdict p (pin_at pin level))
  where
    go : Verdict p (pin_at pin level) → Followed b (event_of p (pin_at pin level))
    go (turns_down n r) = refused_steps p b h (pin_at pin level) n (refused_some p _ n r) (refused_down p _ n r)
    go (takes e f) =
        pin_steps p b h.kept h.packet pin level (outcome_of p (pin_at pin level)) (does p (pin_at pin level) e f)
        (call_whole p (pin_at pin level) h.kept.whole)
call_steps p b h (tick_in buffer) single = go (verdict p (tick_in buffer))
  where
    go : Verdict p (tick_in buffer) → Followed b (event_of p (tick_in buffer))
    go (turns_down n r) = refused_steps p b h (tick_in buffer) n (refused_some p _ n r) (refused_down p _ n r)
    go (takes e f) = tick_steps p b h.kept h.packet buffer f (call_whole p (tick_in buffer) h.kept.whole)
call_steps p b h (ticks_in n buffer) single = absurd single

-- ---- any number of single calls: the books and the pump, and what holds of every event with the books before it
held_after : (p : Pump) (b : Books) (cs : List Call) → Every Single cs → Held p b → Held (after p cs) (books b (trace p cs))
unfolding after trace books
held_after p b [] s h = h
held_after p b (c ∷ cs) s h =
    let e = event_of p c in held_after e.report.pump (noted b e) cs s.1 (held_by b e (call_steps p b h c s.0))

module _ (P : Books → Event → Type 0) (each : (b : Books) (e : Event) → Stepped b e → P b e) where
  throughout : (p : Pump) (b : Books) (cs : List Call) → Every Single cs → Held p b → Throughout P b (trace p cs)
  unfolding trace
  throughout p b [] s h = tt
  throughout p b (c ∷ cs) s h =
      let e = event_of p c in
      let f = call_steps p b h c s.0 in
      (each b e f.stepped, throughout e.report.pump (noted b e) cs s.1 (held_by b e f))

-- what asks nothing of the books holds of every event
every : (P : Event → Type 0) (b : Books) (es : List Event) → Throughout (λ b e. P e) b es → Every P es
every P b [] h = tt
every P b (e ∷ es) h = (h.0, every P (noted b e) es h.1)

-- ---- from power-up
fresh_held : (n : ℕ) → Model n → Held (fresh_pump n) blank
unfolding collect
fresh_held n m =
    record {
      kept =
          record {
            whole = fresh_whole n m;
            work = tt;
            fits = tt;
            loops = refl;
            trap = refl;
            four = refl;
            line = refl;
            totals = none_yet;
          };
      packet = tt;
    }
  where
    none_yet : (d : Direction) → total_of (core_of (fresh_pump n)).ledger d ≡ 0
    none_yet Infuse = refl
    none_yet Withdraw = refl

-- ---- after single calls, with their events; all of it
record Holding (last : Pump) (events : List Event) : Type 0 where
  held : Held last (books blank events)
  ruled : (d : Direction) → Throughout (λ b e. told d e ≡ ruled_by d (b.given d) (deed b e)) blank events
  goes : Throughout (λ b e. Goes b e (deed b e)) blank events
  few : Throughout (λ b e. told Infuse e + told Withdraw e ≤ 4) blank events

single_holding : (n : ℕ) → Model n → (cs : List Call) → Every Single cs → Holding (after (fresh_pump n) cs) (trace (fresh_pump n) cs)
single_holding n m cs h =
    let fresh = fresh_held n m in
    record {
      held = held_after (fresh_pump n) blank cs h fresh;
      ruled =
          λ d. throughout (λ b e. told d e ≡ ruled_by d (b.given d) (deed b e)) (λ b e s. s.ruled d) (fresh_pump n) blank cs h fresh;
      goes = throughout (λ b e. Goes b e (deed b e)) (λ b e s. s.goes) (fresh_pump n) blank cs h fresh;
      few = throughout (λ b e. told Infuse e + told Withdraw e ≤ 4) (λ b e s. s.few) (fresh_pump n) blank cs h fresh;
    }

-- ---- and so after any calls, tick by tick
module _ (n : ℕ) (m : Model n) (cs : List Call) where
  abbrev pub last : Pump
  last = after (fresh_pump n) cs

  abbrev pub events : List Event
  events = tick_by_tick (trace (fresh_pump n) cs)

  holding : Holding last events
  holding =
      let p = fresh_pump n in
      subst (λ (q : Pump). Holding q events) (singly_after p cs)
      (subst (Holding (after p (singly p cs))) (singly_trace p cs) (single_holding n m (singly p cs) (singly_single p cs)))

  given : (d : Direction) → Dispensed d last events
  given d = record { total = in_ledger d ∙ holding.held.kept.totals d; ruled = holding.ruled d }
    where
      in_ledger :
          (d : Direction)
          → of_way d (core_of last).ledger.totals.infused (core_of last).ledger.totals.withdrawn ≡ total_of (core_of last).ledger d
      in_ledger Infuse = refl
      in_ledger Withdraw = refl

  three_loops : ThreeLoops (loops_of last) (books blank events).loops
  three_loops =
      let sound : Sound last = sound_facts last holding.held.kept.whole.sound in
      record {
        booked = holding.held.kept.loops;
        three = omega (arith, length-take (run_of last).loops.count (run_of last).loops.slots, sound.three_loops);
        different = sound.different_phases;
      }

  pub condition3 : Condition3 (after (fresh_pump n) cs) (tick_by_tick (trace (fresh_pump n) cs))
  condition3 =
      record {
        given = given;
        visits_fit = holding.held.kept.fits;
        none_silent = holding.goes;
        three_loops = three_loops;
        four_steps = every (λ e. told Infuse e + told Withdraw e ≤ 4) blank events holding.few;
      }

  pub line_after : Holds last.device.line (characters (books blank events).line)
  line_after =
      subst (λ (l : Line). Holds l (characters (books blank events).line)) (sym holding.held.kept.line)
      (collected (books blank events).line)

  pub stored_as_booked : Stored last (books blank events)
  stored_as_booked =
      let kept = holding.held.kept in
      record {
        work = kept.work;
        loops = kept.loops;
        trap = kept.trap;
        four = kept.four;
        line = line_after;
        packet = holding.held.packet;
        totals = kept.totals;
      }

pub condition3_here : (cs : List Call) → Condition3 (after (fresh_pump model_phases) cs) (tick_by_tick (trace (fresh_pump model_phases) cs))
condition3_here cs = condition3 model_phases model cs
