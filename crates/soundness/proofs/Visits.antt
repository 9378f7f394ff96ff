-- A visit that is begun is sound, and one that goes on after a working tick stays so.
-- Assumes nothing.
use Rattle.std.specs.Prelude.{if◌then◌else◌, Option}
use Prim.Native.Nat.{ℕ, zero, suc, ◌+◌, ◌<◌}
use mathlib.Core.Path.{◌≡◌, refl, sym, ◌∙◌}
use mathlib.Core.Logic.{◌⊎◌, inl, inr}
use mathlib.Core.Bool.{true, false, ◌&&◌}
use native.Mathlib.Nat.{mod-lt}
use native.Mathlib.Omega.{arith}
use lib.Dec.{leb, ltb, eqb}
use borrow.Author.Tests.{leb-false, lt-ltb, ne_eqb}
use Rattle.base.proofs.Choices.{false_true}
use Rattle.drive.specs.Syringe.{step_threshold, step_target}
use Rattle.drive.specs.declared.syringe.Syringe.{Syringe}
use Rattle.words.specs.Functions.{is_rate_phase}
use Rattle.words.specs.declared.phases.Phase.{Phase}
use Rattle.dispense.specs.Rates.{is_usable_rate}
use Rattle.dispense.specs.Visits.{steps_of, given_of, store_of, worked_of, is_done}
use Rattle.dispense.specs.declared.rates.Rate.{Rate}
use Rattle.dispense.specs.declared.visits.Visit.{Visit}
use Rattle.program.specs.Sound.{is_sound_visit}
use Rattle.program.proofs.Parts.{visit_clauses, visit_sound}

positive : (n : ℕ) → ltb 0 (suc n) ≡ true
positive n = lt-ltb 0 (suc n) (omega arith)

-- a continuous visit counts none, and any other has given fewer steps than its target
none_given : (volume most : ℕ) → (ltb 0 volume && eqb most 0) ≡ false → (0 < most) ⊎ (volume ≡ 0) × (zero ≡ 0)
none_given zero most h = inr (refl, refl)
none_given (suc m) zero h = false_true (sym h ∙ simp (positive m))
none_given (suc m) (suc n) h = inl (omega arith)

pub begun_sound :
    (d : Syringe) (p : Phase) (rate : Option Rate)
    → 0 < step_threshold d
    → is_usable_rate d rate ≡ true
    → is_rate_phase p.function ≡ true
    → (ltb 0 p.volume && eqb (step_target d p.volume) 0) ≡ false
    → is_sound_visit d p rate (record { given = 0; target = step_target d p.volume; store = 0 }) ≡ true
begun_sound d p rate h u k b =
    visit_sound d p rate _
    (record { store_below = h; aimed = refl; fewer_given = none_given p.volume _ b; rate_usable = u; in_rate_phase = k })

-- steps given stay below the target of a visit that is not done
below :
    (most given more : ℕ) {A : Type 0}
    → (given < most) ⊎ A × (given ≡ 0)
    → (ltb 0 most && leb most (if eqb most 0 then given else more)) ≡ false
    → ((if eqb most 0 then given else more) < most) ⊎ A × ((if eqb most 0 then given else more) ≡ 0)
below zero given more h d = h
below (suc n) given more h d =
    let some : eqb (suc n) 0 ≡ false = ne_eqb (suc n) 0 (λ e. absurd (omega arith)) in
    inl (simp some (leb-false (suc n) more (simp (positive n, some) at d)))

pub worked_sound :
    (d : Syringe) (p : Phase) (rate : Option Rate) (v : Visit) (hourly : ℕ)
    → 0 < step_threshold d
    → is_sound_visit d p rate v ≡ true
    → is_done (worked_of v hourly (step_threshold d)) ≡ false
    → is_sound_visit d p rate (worked_of v hourly (step_threshold d)) ≡ true
unfolding worked_of given_of store_of is_done
worked_sound d p rate v hourly h s n =
    let c = visit_clauses d p rate v s in
    visit_sound d p rate _
    (record {
      store_below = mod-lt (v.store + hourly) h;
      aimed = c.aimed;
      fewer_given = below v.target v.given (v.given + steps_of v hourly (step_threshold d)) c.fewer_given n;
      rate_usable = c.rate_usable;
      in_rate_phase = c.in_rate_phase;
    })
