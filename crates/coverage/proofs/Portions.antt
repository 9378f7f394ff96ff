-- `T n` is n ticks: from a whole pump
--     elapse_taken      none of its calls is refused
--     elapse_by_ticks   its calls, taken apart, are n single ticks, one after the other, whichever of them end a call   (02, 1/12, 2/12)
--     elapse_after      and they lead where n single ticks lead
-- Assumes nothing.
use Rattle.std.specs.Prelude.{if◌then◌else◌, Option, None, Some}
use Prim.Native.Nat.{ℕ, zero, suc, ◌+◌, ◌-◌, ◌≤◌, ◌<◌, min}
use mathlib.Core.Path.{◌≡◌, refl, sym, ap, ◌∙◌}
use mathlib.Core.Bool.{Bool, true, false}
use mathlib.Core.List.{List, [], ◌∷◌, ◌++◌, append-nil, map}
use native.Mathlib.Omega.{arith}
use lib.Dec.{eqb}
use borrow.Author.Tests.{eqb-true, eqb-false}
use Rattle.pump.specs.Reports.{refusal_number, is_refused}
use Rattle.pump.specs.declared.holder.Pump.{Pump}
use Rattle.pump.specs.declared.reports.Refusal.{Refusal}
use Rattle.pump.specs.declared.reports.Refusal.TheVariants.{ShortBuffer, NoPin, NoLevel, Unsound, TooManyTicks}
use Rattle.script.specs.Items.{elapse}
use Rattle.player.specs.Elapsing.{million, zeros, portion, call_for, left_after, portions_by, portions}
use Rattle.player.proofs.Done.{few_done, some_done}
use Rattle.statement.specs.Histories.{Call, after, trace, single_ticks, tick_by_tick, Whole}
use Rattle.statement.specs.Outcomes.{outcome_of, TicksDone}
use Rattle.statement.proofs.Always.{call_whole}
use Rattle.statement.proofs.Doing.{does}
use Rattle.statement.proofs.Joining.{ticks_both}
use Rattle.statement.proofs.Singly.{singly, singly_after, singly_trace}
use Rattle.coverage.specs.Calls.{ticks_for, calls_of}
use Rattle.coverage.specs.Telling.{some_refused}

portion_is : (left : ℕ) → portion left ≡ min left million
unfolding portion
portion_is left = refl

-- no refusal has the number 0
unnumbered : (x : Option Refusal) → refusal_number x ≡ 0 → is_refused x ≡ false
unnumbered None e = refl
unnumbered (Some ShortBuffer) e = absurd (omega (arith, e))
unnumbered (Some NoPin) e = absurd (omega (arith, e))
unnumbered (Some NoLevel) e = absurd (omega (arith, e))
unnumbered (Some Unsound) e = absurd (omega (arith, e))
unnumbered (Some TooManyTicks) e = absurd (omega (arith, e))

-- ---- one call for what is left: it is taken, and does some of it
module _ (p : Pump) (w : Whole p) (left : ℕ) where
  asked : portion left ≤ million
  asked = omega (arith, portion_is left)

  done : TicksDone p (portion left) zeros (outcome_of p (ticks_for (portion left)))
  done = does p (ticks_for (portion left)) w.sound (omega arith, asked)

  one_taken : is_refused (call_for p left).refusal ≡ false
  one_taken = unnumbered (call_for p left).refusal done.taken

  few : (call_for p left).ticks ≤ left
  few = omega (arith, portion_is left, few_done p (portion left) zeros)

  some : 0 < left → 1 ≤ (call_for p left).ticks
  some h = some_done p (portion left) zeros (omega (arith, portion_is left)) one_taken

  still : left_after left (call_for p left) ≡ left - (call_for p left).ticks
  unfolding left_after
  still = simp one_taken

  next_whole : Whole (call_for p left).pump
  next_whole = call_whole p (ticks_for (portion left)) w

-- ---- as many calls as it takes
taken_by_lem : (k left : ℕ) (p : Pump) → Whole p → some_refused (trace p (map ticks_for (portions_by k left p))) ≡ false
unfolding portions_by trace some_refused
taken_by_lem zero left p w = refl
taken_by_lem (suc k) left p w =
    go (eqb (left_after left (call_for p left)) 0)
    (taken_by_lem k (left_after left (call_for p left)) (call_for p left).pump (next_whole p w left))
  where
    go :
        (t : Bool)
        → some_refused (trace (call_for p left).pump (map ticks_for (portions_by k (left_after left (call_for p left)) (call_for p left).pump)))
        ≡ false
        → some_refused
        (trace p
        (map ticks_for (portion left ∷ (if t then [] else portions_by k (left_after left (call_for p left)) (call_for p left).pump))))
        ≡ false
    go true h = rw (one_taken p w left) refl
    go false h = rw (one_taken p w left) h

single_by :
    (k left : ℕ) (p : Pump) → Whole p → left < k → singly p (map ticks_for (portions_by k left p)) ≡ single_ticks left zeros
unfolding portions_by singly
single_by zero left p w h = absurd (omega arith)
single_by (suc k) left p w h =
    go (eqb (left_after left (call_for p left)) 0) refl
    (single_by k (left_after left (call_for p left)) (call_for p left).pump (next_whole p w left))
  where
    positive : (n : ℕ) → (left_after n (call_for p n) ≡ 0 → ⊥) → 0 < n
    positive zero m = absurd (m (still p w zero ∙ omega arith))
    positive (suc n) m = omega arith

    go :
        (t : Bool)
        → eqb (left_after left (call_for p left)) 0 ≡ t
        → (left_after left (call_for p left) < k
        → singly (call_for p left).pump (map ticks_for (portions_by k (left_after left (call_for p left)) (call_for p left).pump))
        ≡ single_ticks (left_after left (call_for p left)) zeros)
        → singly p (map ticks_for (portion left ∷ (if t then [] else portions_by k (left_after left (call_for p left)) (call_for p left).pump)))
        ≡ single_ticks left zeros
    go true e others =
        let none = eqb-true (left_after left (call_for p left)) 0 e in
        let all : (call_for p left).ticks ≡ left = omega (arith, still p w left, few p w left) in
        append-nil (single_ticks (call_for p left).ticks zeros) ∙ ap (λ (n : ℕ). single_ticks n zeros) all
    go false e others =
        let more = eqb-false (left_after left (call_for p left)) 0 e in
        let d = (call_for p left).ticks in
        let rest = left_after left (call_for p left) in
        let there : 0 < left = positive left more in
        let fewer : rest < k = omega (arith, still p w left, some p w left there, h) in
        let whole : d + rest ≡ left = omega (arith, still p w left, few p w left) in
        ap (λ (cs : List Call). single_ticks d zeros ++ cs) (others fewer)
        ∙ sym (ticks_both zeros d rest)
        ∙ ap (λ (n : ℕ). single_ticks n zeros) whole

-- ---- the portions of n
pub elapse_taken : (n : ℕ) (p : Pump) → Whole p → some_refused (trace p (calls_of p (elapse n))) ≡ false
unfolding calls_of portions
elapse_taken n p w = taken_by_lem (suc n) n p w

elapse_single : (n : ℕ) (p : Pump) → Whole p → singly p (calls_of p (elapse n)) ≡ single_ticks n zeros
unfolding calls_of portions
elapse_single n p w = single_by (suc n) n p w (omega arith)

pub elapse_by_ticks : (n : ℕ) (p : Pump) → Whole p → tick_by_tick (trace p (calls_of p (elapse n))) ≡ trace p (single_ticks n zeros)
elapse_by_ticks n p w = sym (singly_trace p (calls_of p (elapse n))) ∙ ap (trace p) (elapse_single n p w)

pub elapse_after : (n : ℕ) (p : Pump) → Whole p → after p (calls_of p (elapse n)) ≡ after p (single_ticks n zeros)
elapse_after n p w = sym (singly_after p (calls_of p (elapse n))) ∙ ap (after p) (elapse_single n p w)
