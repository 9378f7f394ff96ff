-- All phases as at power-up, one after the other: what stands after n of them.
-- Assumes nothing.
use Prim.Native.Nat.{ℕ, zero, suc, ◌+◌, ◌≤◌, ◌<◌}
use mathlib.Core.Path.{◌≡◌, refl, sym, ap, ◌∙◌}
use mathlib.Core.Bool.{Bool, true, false}
use mathlib.Core.List.{List}
use native.Mathlib.Omega.{arith}
use lib.Dec.{eqb}
use lib.ListN.{length, get_or, set, replicate, length-set, length-replicate}
use lib.Seq.{ext_get_or, get_or-set_same, get_or-set_other}
use borrow.Author.Tests.{eqb-true, eqb-false, ne_eqb}
use Rattle.words.specs.Phases.{power_up}
use Rattle.words.specs.declared.phases.Phase.{Phase}
use Rattle.pump.specs.Holder.{phase_count, stop_phase, with_phases, fresh_phases}
use Rattle.pump.specs.declared.holder.Pump.{Pump}

-- ---- the phases at power-up, by their numbers
others_stop : (k : ℕ) → power_up 2 ≡ power_up (suc k + 1)
unfolding power_up
others_stop k = sym (simp (ne_eqb (suc k + 1) 1 (λ e. omega arith)))

get_replicate : (n i : ℕ) (x d : Phase) → i < n → get_or (replicate n x) i d ≡ x
get_replicate zero i x d h = absurd (omega arith)
get_replicate (suc n) zero x d h = refl
get_replicate (suc n) (suc i) x d h = get_replicate n i x d (omega arith)

pub fresh_count : (n : ℕ) → length (fresh_phases n) ≡ n
unfolding fresh_phases
fresh_count n = length-set (replicate n (power_up 2)) 0 (power_up 1) ∙ length-replicate n (power_up 2)

fresh_at : (n i : ℕ) → i < n → get_or (fresh_phases n) i stop_phase ≡ power_up (i + 1)
unfolding fresh_phases
fresh_at n zero h = get_or-set_same (replicate n (power_up 2)) 0 (power_up 1) stop_phase (omega (arith, length-replicate n (power_up 2)))
fresh_at n (suc k) h =
    get_or-set_other (replicate n (power_up 2)) 0 (suc k) (power_up 1) stop_phase (λ e. omega arith)
    ∙ get_replicate n (suc k) (power_up 2) stop_phase h
    ∙ others_stop k

-- ---- q is p with its first n phases renewed
pub record Renewing (p q : Pump) (n : ℕ) : Type 0 where
  pub most : n ≤ phase_count p
  pub same_device : q.device ≡ p.device
  pub same_count : phase_count q ≡ phase_count p
  pub renewed : (i : ℕ) → i < n → get_or q.phases i stop_phase ≡ power_up (i + 1)

pub renewing_none : (p : Pump) → Renewing p p 0
renewing_none p = record { most = omega arith; same_device = refl; same_count = refl; renewed = λ i h. absurd (omega arith) }

pub renewing_more :
    (p q : Pump) (n : ℕ) (x : Phase)
    → Renewing p q n
    → n < phase_count p
    → x ≡ power_up (n + 1)
    → Renewing p (with_phases q (set q.phases n x)) (n + 1)
renewing_more p q n x r h e =
    record {
      most = omega arith;
      same_device = r.same_device;
      same_count = length-set q.phases n x ∙ r.same_count;
      renewed = λ i k. at i k (eqb i n) refl;
    }
  where
    at : (i : ℕ) → i < n + 1 → (t : Bool) → eqb i n ≡ t → get_or (set q.phases n x) i stop_phase ≡ power_up (i + 1)
    at i k true t =
        let same = eqb-true i n t in
        ap (λ j. get_or (set q.phases n x) j stop_phase) same
        ∙ get_or-set_same q.phases n x stop_phase (omega (arith, r.same_count))
        ∙ e
        ∙ ap (λ j. power_up (j + 1)) (sym same)
    at i k false t =
        let other = eqb-false i n t in
        get_or-set_other q.phases n i x stop_phase other
        ∙ r.renewed i (below i n k other)
      where
        below : (i n : ℕ) → i < n + 1 → (i ≡ n → ⊥) → i < n
        below i n k o = omega (arith, o)

pub renewing_all : (p q : Pump) (n : ℕ) → Renewing p q n → phase_count p ≤ n → q ≡ with_phases p (fresh_phases (phase_count p))
renewing_all p q n r h = both q.phases q.device phases_same r.same_device
  where
    phases_same : q.phases ≡ fresh_phases (phase_count p)
    phases_same =
        ext_get_or stop_phase q.phases (fresh_phases (phase_count p)) (r.same_count ∙ sym (fresh_count (phase_count p)))
        (λ i k. r.renewed i (omega (arith, r.same_count)) ∙ sym (fresh_at (phase_count p) i (omega (arith, r.same_count))))

    both :
        (ps : List Phase) (d : _)
        → ps ≡ fresh_phases (phase_count p)
        → d ≡ p.device
        → ◌≡◌ {A = Pump} (record { phases = ps; device = d }) (with_phases p (fresh_phases (phase_count p)))
    both ps d a b = rw (a, b) refl
