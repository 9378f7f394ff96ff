-- The observer's volumes, targets and rates are those of the drive, though he works them out by himself; and a visit that is whole gave as
-- many steps as fit.
-- Assumes nothing.
use Rattle.std.specs.Prelude.{if◌then◌else◌, Some}
use Prim.Native.Nat.{ℕ, zero, suc, ◌+◌, ◌*◌, ◌/◌, ◌≤◌, ◌<◌}
use mathlib.Core.Path.{◌≡◌, refl, sym, ap, ap₂, ◌∙◌}
use mathlib.Core.Bool.{Bool, true, false, ◌&&◌}
use native.Mathlib.Nat.{lt-div-mul-add, div-mul-le_self, mul-le-mul, le_refl}
use native.Mathlib.Omega.{arith}
use lib.Dec.{leb, ltb, eqb}
use borrow.Author.Tests.{ltb-true, ltb-false, lt-ltb, le-ltb, leb-true, lt-leb, ne_eqb}
use Rattle.base.proofs.Choices.{and_left, and_right}
use Rattle.drive.specs.Rates as drive
use Rattle.drive.specs.Rates.{hourly_rate}
use Rattle.drive.specs.Syringe.{step_volume, step_threshold, step_target, volume_in_fl, volume_unit, thousandth}
use Rattle.drive.specs.declared.rates.RateUnit.{RateUnit}
use Rattle.drive.specs.declared.rates.RateUnit.TheVariants.{Um, Mm, Uh, Mh}
use Rattle.drive.specs.declared.syringe.Syringe.{Syringe}
use Rattle.drive.specs.declared.syringe.VolumeUnit.TheVariants.{Microlitre, Millilitre}
use Rattle.drive.proofs.Bounds.{step_volume_ge}
use Rattle.dispense.specs.declared.rates.Rate.{Rate}
use Rattle.condition3.specs.Books.{Visit, step_at, volume_at, in_unit, hourly, is_usable_at}
use Rattle.condition3.specs.Condition.{Fits}

pub volume_same : (y : Syringe) (volume : ℕ) → volume_in_fl y volume ≡ volume_at y.diameter volume
unfolding volume_in_fl volume_unit
volume_same y volume = ap (λ (k : ℕ). volume * k) (go (leb y.diameter 14_000))
  where
    go : (t : Bool) → thousandth (if t then Microlitre else Millilitre) ≡ (if t then 1_000_000 else 1_000_000_000)
    go true = refl
    go false = refl

pub step_same : (y : Syringe) → step_volume y ≡ step_at y.diameter
unfolding step_volume
step_same y = refl

pub step_some : (y : Syringe) → 100 ≤ y.diameter → 0 < step_at y.diameter
step_some y h = omega (arith, step_same y, step_volume_ge y h)

pub target_same : (y : Syringe) (volume : ℕ) → step_target y volume ≡ volume_at y.diameter volume / step_at y.diameter
unfolding step_target
target_same y volume = ap₂ (λ (a c : ℕ). a / c) (volume_same y volume) (step_same y)

unit_same : (rate : ℕ) (unit : RateUnit) → hourly_rate rate unit ≡ in_unit unit rate
unfolding hourly_rate
unit_same rate Um = refl
unit_same rate Mm = refl
unit_same rate Uh = refl
unit_same rate Mh = refl

pub rate_same : (rate : Rate) → hourly_rate rate.thousandths rate.unit ≡ hourly (Some rate)
rate_same rate = unit_same rate.thousandths rate.unit

-- ---- a usable rate, in either's terms
positive_same : (rate : ℕ) (unit : RateUnit) → ltb 0 (in_unit unit rate) ≡ ltb 0 rate
positive_same rate unit = go (ltb 0 rate) refl unit
  where
    go : (t : Bool) → ltb 0 rate ≡ t → (unit : RateUnit) → ltb 0 (in_unit unit rate) ≡ ltb 0 rate
    go true e Um = lt-ltb 0 (rate * 60_000_000) (omega (arith, ltb-true 0 rate e)) ∙ sym e
    go true e Mm = lt-ltb 0 (rate * 60_000_000_000) (omega (arith, ltb-true 0 rate e)) ∙ sym e
    go true e Uh = lt-ltb 0 (rate * 1_000_000) (omega (arith, ltb-true 0 rate e)) ∙ sym e
    go true e Mh = lt-ltb 0 (rate * 1_000_000_000) (omega (arith, ltb-true 0 rate e)) ∙ sym e
    go false e Um = le-ltb 0 (rate * 60_000_000) (omega (arith, ltb-false 0 rate e)) ∙ sym e
    go false e Mm = le-ltb 0 (rate * 60_000_000_000) (omega (arith, ltb-false 0 rate e)) ∙ sym e
    go false e Uh = le-ltb 0 (rate * 1_000_000) (omega (arith, ltb-false 0 rate e)) ∙ sym e
    go false e Mh = le-ltb 0 (rate * 1_000_000_000) (omega (arith, ltb-false 0 rate e)) ∙ sym e

pub usable_same :
    (y : Syringe) (rate : Rate) → is_usable_at y.diameter (Some rate) ≡ drive.is_usable y rate.thousandths rate.unit
unfolding drive.is_usable step_threshold step_volume
usable_same y rate =
    ap₂ (λ (a c : Bool). a && c) (positive_same rate.thousandths rate.unit)
    (ap (λ (n : ℕ). leb n (4 * (3_600_000 * step_at y.diameter))) (sym (rate_same rate)))

-- ---- a volume above 0, and a target of 0, in either's terms
some_same : (t : Bool) (volume : ℕ) → ltb 0 (volume * (if t then 1_000_000 else 1_000_000_000)) ≡ ltb 0 volume
some_same t volume = go (ltb 0 volume) refl t
  where
    go : (x : Bool) → ltb 0 volume ≡ x → (t : Bool) → ltb 0 (volume * (if t then 1_000_000 else 1_000_000_000)) ≡ ltb 0 volume
    go true e true = lt-ltb 0 (volume * 1_000_000) (omega (arith, ltb-true 0 volume e)) ∙ sym e
    go true e false = lt-ltb 0 (volume * 1_000_000_000) (omega (arith, ltb-true 0 volume e)) ∙ sym e
    go false e true = le-ltb 0 (volume * 1_000_000) (omega (arith, ltb-false 0 volume e)) ∙ sym e
    go false e false = le-ltb 0 (volume * 1_000_000_000) (omega (arith, ltb-false 0 volume e)) ∙ sym e

none_same : (n : ℕ) → leb n 0 ≡ eqb n 0
none_same zero = refl
none_same (suc n) = lt-leb (suc n) 0 (omega arith) ∙ sym (ne_eqb (suc n) 0 (λ e. omega arith))

pub entry_same :
    (y : Syringe) (volume : ℕ)
    → (ltb 0 (volume_at y.diameter volume) && leb (volume_at y.diameter volume / step_at y.diameter) 0)
    ≡ (ltb 0 volume && eqb (step_target y volume) 0)
entry_same y volume =
    ap₂ (λ (a c : Bool). a && c) (some_same (leb y.diameter 14_000) volume)
    (none_same (volume_at y.diameter volume / step_at y.diameter) ∙ ap (λ (n : ℕ). eqb n 0) (sym (target_same y volume)))

-- ---- steps that fit
pub fits_by : (w : Visit) → 0 < w.v → (0 < w.volume → w.steps ≤ w.volume / w.v) → Fits w
fits_by w some h =
    record {
      at_most = λ k. omega (arith, mul-le-mul (h k) (le_refl w.v), div-mul-le_self w.volume w.v);
      exact =
          λ e.
          let k = ltb-true 0 w.volume (and_left (ltb 0 w.volume) (leb (w.volume / w.v) w.steps) e) in
          let all = leb-true (w.volume / w.v) w.steps (and_right (ltb 0 w.volume) (leb (w.volume / w.v) w.steps) e) in
          let most : w.volume < w.volume / w.v * w.v + w.v = lt-div-mul-add some in
          omega (arith, most, mul-le-mul all (le_refl w.v));
    }
