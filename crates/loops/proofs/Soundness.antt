-- What sound open loops tell: each claim of soundness as facts on the list of open loops, and back.
-- Assumes nothing.
use Prim.Native.Nat.{ℕ, zero, suc, ◌≤◌, ◌<◌}
use mathlib.Core.Path.{◌≡◌, refl}
use mathlib.Core.Bool.{true, ◌&&◌, not}
use mathlib.Core.List.{List, [], ◌∷◌}
use native.Mathlib.Omega.{arith}
use lib.Dec.{leb, eqb}
use lib.ListN.{length, get_or, length-take}
use borrow.Author.Tests.{leb-true, le-leb, eqb-false, ne_eqb, not-true}
use Rattle.base.proofs.Choices.{and_left, and_right}
use Rattle.base.proofs.Each.{and_both}
use Rattle.loops.specs.Loops.{no_loop, none, opened, is_sound_loop, all_sound, none_begun_by, all_differ, is_sound_loops}
use Rattle.loops.specs.declared.Loop.{Loop}
use Rattle.loops.specs.declared.Loops.{Loops}

pub none_sound : (phases : ℕ) → is_sound_loops phases none ≡ true
unfolding is_sound_loops all_sound all_differ
none_sound phases = refl

-- a list of open loops that is sound
pub record SoundList (phases : ℕ) (ls : List Loop) : Type 0 where
  pub few : length ls ≤ 3
  pub sound : all_sound phases ls ≡ true
  pub differ : all_differ ls ≡ true

-- ---- one loop
pub record Bounded (phases : ℕ) (x : Loop) : Type 0 where
  pub begun_most : x.begun ≤ phases
  pub passes_most : x.passes ≤ 98

pub bounded : (phases : ℕ) (x : Loop) → is_sound_loop phases x ≡ true → Bounded phases x
bounded phases x h =
    record {
      begun_most = leb-true _ _ (and_left (leb x.begun phases) (leb x.passes 98) h);
      passes_most = leb-true _ _ (and_right (leb x.begun phases) (leb x.passes 98) h);
    }

pub bounded_sound : (phases : ℕ) (x : Loop) → Bounded phases x → is_sound_loop phases x ≡ true
bounded_sound phases x b = and_both _ _ (le-leb _ _ b.begun_most) (le-leb _ _ b.passes_most)

-- ---- each loop of a list
each_bounded : (phases : ℕ) (ls : List Loop) (i : ℕ) → all_sound phases ls ≡ true → i < length ls → Bounded phases (get_or ls i no_loop)
unfolding all_sound
each_bounded phases [] i h k = absurd (omega arith)
each_bounded phases (x ∷ ls) zero h k = bounded phases x (and_left (is_sound_loop phases x) (all_sound phases ls) h)
each_bounded phases (x ∷ ls) (suc i) h k =
    each_bounded phases ls i (and_right (is_sound_loop phases x) (all_sound phases ls) h) (omega arith)

all_bounded : (phases : ℕ) (ls : List Loop) → ((i : ℕ) → i < length ls → Bounded phases (get_or ls i no_loop)) → all_sound phases ls ≡ true
unfolding all_sound
all_bounded phases [] f = refl
all_bounded phases (x ∷ ls) f =
    and_both (is_sound_loop phases x) (all_sound phases ls) (bounded_sound phases x (f 0 (omega arith)))
    (all_bounded phases ls (λ i k. f (suc i) (omega arith)))

-- ---- begun by different phases
each_other : (phase : ℕ) (ls : List Loop) (j : ℕ) → none_begun_by phase ls ≡ true → j < length ls → phase ≡ (get_or ls j no_loop).begun → ⊥
unfolding none_begun_by
each_other phase [] j h k = absurd (omega arith)
each_other phase (x ∷ ls) zero h k =
    eqb-false _ _ (not-true (eqb phase x.begun) (and_left (not (eqb phase x.begun)) (none_begun_by phase ls) h))
each_other phase (x ∷ ls) (suc j) h k =
    each_other phase ls j (and_right (not (eqb phase x.begun)) (none_begun_by phase ls) h) (omega arith)

all_other : (phase : ℕ) (ls : List Loop) → ((j : ℕ) → j < length ls → phase ≡ (get_or ls j no_loop).begun → ⊥) → none_begun_by phase ls ≡ true
unfolding none_begun_by
all_other phase [] f = refl
all_other phase (x ∷ ls) f =
    and_both (not (eqb phase x.begun)) (none_begun_by phase ls) (simp (ne_eqb phase x.begun (f 0 (omega arith))))
    (all_other phase ls (λ j k. f (suc j) (omega arith)))

each_differ :
    (ls : List Loop) (i j : ℕ)
    → all_differ ls ≡ true
    → i < j
    → j < length ls
    → (get_or ls i no_loop).begun ≡ (get_or ls j no_loop).begun
    → ⊥
unfolding all_differ
each_differ [] i j h m k = absurd (omega arith)
each_differ (x ∷ ls) i zero h m k = absurd (omega arith)
each_differ (x ∷ ls) zero (suc j) h m k =
    each_other x.begun ls j (and_left (none_begun_by x.begun ls) (all_differ ls) h) (omega arith)
each_differ (x ∷ ls) (suc i) (suc j) h m k =
    each_differ ls i j (and_right (none_begun_by x.begun ls) (all_differ ls) h) (omega arith) (omega arith)

all_differ_lem :
    (ls : List Loop)
    → ((i j : ℕ) → i < j → j < length ls → (get_or ls i no_loop).begun ≡ (get_or ls j no_loop).begun → ⊥)
    → all_differ ls ≡ true
unfolding all_differ
all_differ_lem [] f = refl
all_differ_lem (x ∷ ls) f =
    and_both (none_begun_by x.begun ls) (all_differ ls) (all_other x.begun ls (λ j k. f 0 (suc j) (omega arith) (omega arith)))
    (all_differ_lem ls (λ i j m k. f (suc i) (suc j) (omega arith) (omega arith)))

-- ---- sound loops
module _ (phases : ℕ) (l : Loops) (h : is_sound_loops phases l ≡ true) where
  first_two : (leb l.count 3 && all_sound phases (opened l)) ≡ true
  unfolding is_sound_loops
  first_two = and_left (leb l.count 3 && all_sound phases (opened l)) (all_differ (opened l)) h

  pub count_le : l.count ≤ 3
  count_le = leb-true _ _ (and_left (leb l.count 3) (all_sound phases (opened l)) first_two)

  pub sound_list : SoundList phases (opened l)
  unfolding is_sound_loops
  sound_list =
      record {
        few = omega (arith, count_le, length-take l.count l.slots);
        sound = and_right (leb l.count 3) (all_sound phases (opened l)) first_two;
        differ = and_right (leb l.count 3 && all_sound phases (opened l)) (all_differ (opened l)) h;
      }

  pub loop_bounded : (i : ℕ) → i < length (opened l) → Bounded phases (get_or (opened l) i no_loop)
  loop_bounded i k = each_bounded phases (opened l) i sound_list.sound k

  pub loops_differ :
      (i j : ℕ) → i < j → j < length (opened l) → (get_or (opened l) i no_loop).begun ≡ (get_or (opened l) j no_loop).begun → ⊥
  loops_differ i j m k = each_differ (opened l) i j sound_list.differ m k

pub sound_of :
    (phases : ℕ) (l : Loops)
    → l.count ≤ 3
    → ((i : ℕ) → i < length (opened l) → Bounded phases (get_or (opened l) i no_loop))
    → ((i j : ℕ) → i < j → j < length (opened l) → (get_or (opened l) i no_loop).begun ≡ (get_or (opened l) j no_loop).begun → ⊥)
    → is_sound_loops phases l ≡ true
unfolding is_sound_loops
sound_of phases l h b d =
    and_both (leb l.count 3 && all_sound phases (opened l)) (all_differ (opened l))
    (and_both (leb l.count 3) (all_sound phases (opened l)) (le-leb _ _ h) (all_bounded phases (opened l) b)) (all_differ_lem (opened l) d)
