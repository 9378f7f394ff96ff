-- A level of a pin: the pump and the books agree behind it.
-- Assumes nothing.
use Rattle.std.specs.Prelude.{if◌then◌else◌, Option, Some, None, is_some}
use Prim.Native.Nat.{ℕ, ◌+◌, ◌*◌}
use mathlib.Core.Path.{◌≡◌, refl, sym, ap, ◌∙◌, subst}
use mathlib.Core.Bool.{Bool, true, false, not, ◌&&◌, or-false}
use native.Mathlib.Omega.{arith}
use lib.Dec.{eqb}
use Rattle.base.specs.Text.{letter}
use Rattle.base.proofs.Choices.{and_left, and_false, false_true}
use Rattle.drive.specs.declared.directions.Direction.{Direction}
use Rattle.dispense.specs.Ledgers.{total_of}
use Rattle.program.specs.Cores.{with_run}
use Rattle.program.specs.Edges.{with_four, pin_two, pin_four, pin_six, falls, spring_by, spring_in, spring}
use Rattle.program.specs.Runs.{fire}
use Rattle.program.specs.declared.state.Core.{Core}
use Rattle.program.specs.declared.state.Mode.{Mode}
use Rattle.program.specs.declared.state.Mode.TheVariants.{Stopped, Paused, Running}
use Rattle.soundness.proofs.Runs.{by_test}
use Rattle.pump.specs.declared.holder.Pump.{Pump}
use Rattle.statement.specs.Facts.{core_of, run_of, link_of}
use Rattle.statement.specs.Histories.{pin_at, Whole, Event}
use Rattle.statement.specs.Outcomes.{Outcome, Level, low, high, Edge, two, four, six, Levelled, Still, pump_with_core}
use Rattle.condition3.specs.Books.{Books, clears, deed, drops, fires_by, other, view_of, moves, step_at, told}
use Rattle.condition3.specs.Stored.{SamePacket}
use Rattle.condition3.proofs.Noting.{Kept, Beside, Gone, none_cleared, none_restarted, noted_is}
use Rattle.condition3.proofs.Quiet.{seen, alike_same, quiet_step}
use Rattle.condition3.proofs.Ticks.{Stepped, Followed, none_told, unanswered}
use Rattle.condition3.proofs.Turning.{TurnsTo, keeps, calm, turns_foot, foot_on, turns_as}
use Rattle.condition3.proofs.Views.{is_stopped_in, is_paused_in, view_paused, view_moves, moving_on}

-- ---- no step: the totals stay
pub totals_stay :
    (p : Pump) (b : Books) (e : Event)
    → (d : Direction)
    → clears d b e ≡ false
    → told d e ≡ 0
    → (x : ℕ)
    → x ≡ b.given d
    → x ≡ (if clears d b e then 0 else b.given d + told d e * step_at (view_of e.before).diameter)
totals_stay p b e d c t x h = rw (c, t) (h ∙ omega arith)

module _ (p : Pump) (b : Books) (k : Kept p b) (pin level : ℕ) (o : Outcome) (s : Core) (still : Still (pump_with_core p s) o)
    (silent : o.report.length ≡ 0) (w : Whole (pump_with_core p s)) (same-ledger : s.ledger ≡ (core_of p).ledger) where
  abbrev event : Event
  event = seen p (pin_at pin level) o

  beside : s.pins.four ≡ (if eqb pin 4 then eqb level 1 else b.four) → Beside b event (pump_with_core p s)
  beside h =
      record {
        four = h;
        line = k.line;
        totals =
            λ d.
            totals_stay p b event d (none_cleared d b event (unanswered event silent))
            (none_told d o.report.infused o.report.withdrawn still.none_infused still.none_withdrawn)
            (total_of s.ledger d)
            (ap (λ x. total_of x d) same-ledger ∙ k.totals d);
      }

  level_steps :
      (f : Bool)
      → fires_by b event other ≡ f
      → s.pins.four ≡ (if eqb pin 4 then eqb level 1 else b.four)
      → s.syringe ≡ (core_of p).syringe
      → (f ≡ true → Gone (pump_with_core p s))
      → (f ≡ false → TurnsTo (run_of p) s.run)
      → (moves (view_of p) ≡ true → is_stopped_in s.run.mode ≡ false)
      → Stepped b event
  level_steps f fires h y gone turns on =
      quiet_step p b k (pin_at pin level) o (pump_with_core p s) still w refl f false fires (none_restarted b event (unanswered event silent))
      (beside h)
      (λ moving halt. false_true (sym (on moving) ∙ halt))
      (λ e. gone (sym (or-false f) ∙ e))
      (λ e runs. turns_as p (pump_with_core p s) y (λ n. alike_same _) (turns (sym (or-false f) ∙ e)) runs)

module _ (p : Pump) (b : Books) (k : Kept p b) (o : Outcome) (silent : o.report.length ≡ 0) where
  abbrev Levels : ℕ → ℕ → Core → Type 0
  Levels pin level s = Still (pump_with_core p s) o → Whole (pump_with_core p s) → Stepped b (seen p (pin_at pin level) o)

  -- ---- pins 2 and 6 leave pin 4, and fire nothing
  two_steps : (level : ℕ) (is_high : Bool) → Levels 2 level (pin_two (core_of p) is_high)
  unfolding pin_two
  two_steps level is_high =
      by_test (Levels 2 level) (falls (core_of p).pins.two is_high)
      (λ _ still w.
      level_steps p b k 2 level o _ still silent w refl false refl k.four refl (λ e. false_true e)
      (λ _. turns_foot (run_of p) (calm p k.whole))
      (λ moving. foot_on (run_of p) (sym (view_moves p) ∙ moving)))
      (λ _ still w.
      level_steps p b k 2 level o _ still silent w refl false refl k.four refl (λ e. false_true e) (λ _. keeps refl refl refl)
      (moving_on p))

  six_steps : (level : ℕ) (is_high : Bool) → Levels 6 level (pin_six (core_of p) is_high)
  unfolding pin_six
  six_steps level is_high still w =
      level_steps p b k 6 level o _ still silent w refl false refl k.four refl (λ e. false_true e) (λ _. keeps refl refl refl)
      (moving_on p)

  -- ---- pin 4: a falling edge fires a set trap, unless the pump is paused; a stopped one has none
  abbrev fired : Bool
  fired = fires_by b (seen p (pin_at 4 0) o) other

  fired_by : (t u : Bool) → (core_of p).pins.four ≡ t → is_paused_in (run_of p).mode ≡ u → fired ≡ (t && (is_some (run_of p).trap && not u))
  fired_by t u x y =
      ap (λ (z : Bool). z && (b.trap && not (eqb (view_of p).status (letter "P")))) (sym k.four ∙ x)
      ∙ ap (λ (z : Bool). t && (z && not (eqb (view_of p).status (letter "P")))) (sym k.trap)
      ∙ ap (λ (z : Bool). t && (is_some (run_of p).trap && not z)) (view_paused p ∙ y)

  falling : (core_of p).pins.four ≡ true → Levels 4 0 (with_run (with_four (core_of p) false) (spring (run_of p)))
  unfolding spring fire
  falling four-high = by_mode (run_of p).mode refl
    where
      by_trap :
          (run_of p).mode ≡ Running
          → (t : Option ℕ)
          → (run_of p).trap ≡ t
          → Levels 4 0 (with_run (with_four (core_of p) false) (spring_by (run_of p) t))
      by_trap m None e still w =
          level_steps p b k 4 0 o _ still silent w refl false
          (fired_by true false four-high (ap is_paused_in m) ∙ ap (λ (x : Option ℕ). is_some x && true) e)
          refl refl (λ z. false_true z) (λ _. keeps refl refl refl) (moving_on p)
      by_trap m (Some n) e still w =
          level_steps p b k 4 0 o _ still silent w refl true
          (fired_by true false four-high (ap is_paused_in m) ∙ ap (λ (x : Option ℕ). is_some x && true) e)
          refl refl (λ _. record { work = refl; loops = refl; trap = refl }) (λ z. false_true (sym z)) (moving_on p)

      by_mode : (m : Mode) → (run_of p).mode ≡ m → Levels 4 0 (with_run (with_four (core_of p) false) (spring_in (run_of p) m))
      by_mode (Stopped alarm) m =
          λ still w.
          level_steps p b k 4 0 o _ still silent w refl false
          (fired_by true false four-high (ap is_paused_in m) ∙ ap (λ (x : Option ℕ). is_some x && true) (calm p k.whole alarm m).no_trap)
          refl refl (λ z. false_true z) (λ _. keeps refl refl refl) (moving_on p)
      by_mode Paused m =
          λ still w.
          level_steps p b k 4 0 o _ still silent w refl false
          (fired_by true true four-high (ap is_paused_in m) ∙ and_false (is_some (run_of p).trap))
          refl refl (λ z. false_true z) (λ _. keeps refl refl refl) (moving_on p)
      by_mode Running m = by_trap m (run_of p).trap refl

  four_steps : (level : ℕ) (is_high : Bool) → Level level is_high → Levels 4 level (pin_four (core_of p) is_high)
  unfolding pin_four
  four_steps level is_high low =
      by_test (Levels 4 0) (falls (core_of p).pins.four false)
      (λ e. falling (and_left (core_of p).pins.four true e))
      (λ e still w.
      let was_low : (core_of p).pins.four ≡ false = not_falling (core_of p).pins.four e in
      level_steps p b k 4 0 o _ still silent w refl false (fired_by false (is_paused_in (run_of p).mode) was_low refl) refl refl
      (λ z. false_true z) (λ _. keeps refl refl refl) (moving_on p))
    where
      not_falling : (t : Bool) → (t && true) ≡ false → t ≡ false
      not_falling true h = h
      not_falling false h = refl
  four_steps level is_high high =
      by_test (Levels 4 1) (falls (core_of p).pins.four true)
      (λ e. false_true (sym (and_false (core_of p).pins.four) ∙ e))
      (λ e still w.
      level_steps p b k 4 1 o _ still silent w refl false refl refl refl (λ z. false_true z) (λ _. keeps refl refl refl) (moving_on p))

  edge_steps : (pin level : ℕ) (is_high : Bool) (s : Core) → Level level is_high → Edge (core_of p) is_high pin s → Levels pin level s
  edge_steps pin level is_high s l two = two_steps level is_high
  edge_steps pin level is_high s l four = four_steps level is_high l
  edge_steps pin level is_high s l six = six_steps level is_high

pub pin_steps :
    (p : Pump) (b : Books)
    → Kept p b
    → SamePacket (link_of p) b.packet b.quiet
    → (pin level : ℕ) (o : Outcome)
    → Levelled p pin level o
    → Whole o.report.pump
    → Followed b (seen p (pin_at pin level) o)
pin_steps p b k packet pin level o l w =
    let e = seen p (pin_at pin level) o in
    record {
      stepped =
          edge_steps p b k o l.silent.no_answer pin level l.is_high l.core l.at_level l.edge l.still
          (subst Whole l.still.new_state w);
      packet =
          subst (λ (y : Books). SamePacket (link_of o.report.pump) y.packet y.quiet)
          (sym (noted_is b e (deed b e) (drops b e) l.still.taken refl refl))
          (subst (λ (y : Pump). SamePacket (link_of y) b.packet b.quiet) (sym l.still.new_state) packet);
    }
