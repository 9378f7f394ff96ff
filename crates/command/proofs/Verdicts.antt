-- A verdict by what was found in range, and by the current rate.
-- Assumes nothing.
use Rattle.std.specs.Prelude.{Result, Ok, Err, ⊤, is_ok, IsErrAnd, if◌then◌else◌, Option}
use Rattle.std.proofs.lemmas.Result.{err_from_is_err_and}
use Prim.Native.Nat.{ℕ}
use mathlib.Core.Path.{◌≡◌, sym, ap, ◌∙◌}
use mathlib.Core.Bool.{Bool, true, false}
use Rattle.base.proofs.Choices.{false_true}
use Rattle.drive.specs.Rates.{is_usable}
use Rattle.drive.specs.declared.rates.RateUnit.{RateUnit}
use Rattle.drive.specs.declared.syringe.Syringe.{Syringe}
use Rattle.words.specs.declared.answers.Declined.{Declined}
use Rattle.words.specs.declared.answers.Declined.TheVariants.{NotApplicable}
use Rattle.dispense.specs.declared.rates.Rate.{Rate}
use Rattle.command.specs.Judging.{if_in_range, judge_idle, judge_rate}
use Rattle.command.proofs.Choosing as choosing

module _ (r : Result ⊤ Declined) where
  pub in_range : (t u : Bool) → r ≡ if_in_range u → u ≡ t → r ≡ if_in_range t
  in_range t u e q = e ∙ ap if_in_range q

  pub usable_in :
      (d : Syringe) (x : ℕ) (unit v : RateUnit) (t : Bool) → r ≡ if_in_range t → t ≡ is_usable d x v → v ≡ unit → r ≡ if_in_range (is_usable d x unit)
  usable_in d x unit v t e p q = e ∙ ap if_in_range p ∙ ap (λ (k : RateUnit). if_in_range (is_usable d x k)) q

  pub judged_by : (d : Syringe) (x : ℕ) (rate k : Option Rate) → rate ≡ k → r ≡ judge_rate d x k → r ≡ judge_rate d x rate
  judged_by d x rate k e q = q ∙ ap (judge_rate d x) (sym e)

-- ---- what is judged first: whether it applies now
pub idle_passes :
    (j r v : Result ⊤ Declined) (t : Bool) (x : ⊤) → j ≡ judge_idle t → j ≡ Ok x → r ≡ v → r ≡ (if t then Err NotApplicable else v)
unfolding judge_idle
idle_passes j r v true x p e q = false_true (ap is_ok (sym p ∙ e))
idle_passes j r v false x p e q = q

pub idle_declines :
    (j r v : Result ⊤ Declined) (t : Bool) (d : Declined)
    → j ≡ judge_idle t
    → j ≡ Err d
    → IsErrAnd r (λ y. y ≡ d)
    → r ≡ (if t then Err NotApplicable else v)
unfolding judge_idle
idle_declines j r v true d p e h = let q = err_from_is_err_and r h in q.1 ∙ ap Err q.2 ∙ sym e ∙ p
idle_declines j r v false d p e h = false_true (sym (ap is_ok (sym p ∙ e)))

pub ruleset judging = (in_range, usable_in, judged_by, choosing.choices)
