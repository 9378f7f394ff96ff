-- The three places and the list of open loops that they hold: what the code reads off the places is what the rules say of the list.
-- Assumes nothing.
use Rattle.std.specs.Prelude.{if◌then◌else◌, min, ◌-◌}
use Prim.Native.Nat.{ℕ, zero, suc, ◌≤◌, ◌<◌}
use mathlib.Core.Path.{◌≡◌, refl, sym, ap, ◌∙◌}
use mathlib.Core.Bool.{Bool, true, false, ◌&&◌, ◌||◌, not}
use mathlib.Core.List.{List, [], ◌∷◌, ◌++◌}
use native.Mathlib.Omega.{arith}
use lib.Dec.{ltb, leb, eqb}
use lib.ListN.{length, take, replicate, get_or, length-take}
use lib.Seq.{take-take, take-append_seam}
use borrow.Author.Tests.{lt-ltb, lt-leb}
use Rattle.base.specs.All.{all}
use Rattle.loops.specs.Loops.{no_loop, none, opened, in_slots, before, newest, older}
use Rattle.loops.specs.Loops.{is_sound_loop, all_sound, none_begun_by, all_differ, is_sound_loops}
use Rattle.loops.specs.declared.Loop.{Loop}
use Rattle.loops.specs.declared.Loops.{Loops}

-- ---- what is held is what is open
pub opened_none : opened none ≡ []
opened_none = refl

pub opened_holding : (ls : List Loop) → length ls ≤ 3 → opened (in_slots ls) ≡ ls
opened_holding ls h =
    take-take (length ls) 3 (ls ++ replicate 3 no_loop) h ∙ take-append_seam ls (replicate 3 no_loop)

pub opened_length : (l : Loops) → l.count ≤ 3 → length l.slots ≡ 3 → length (opened l) ≡ l.count
opened_length l h three = omega (arith, length-take l.count l.slots)

-- ---- those that stay open are the first of the places
pub before_first :
    (phase n : ℕ) (ls : List Loop) → take (length (before phase (take n ls))) ls ≡ before phase (take n ls)
unfolding before
before_first phase zero ls = refl
before_first phase (suc n) [] = refl
before_first phase (suc n) (x ∷ ls) = go (eqb x.begun phase) (before_first phase n ls)
  where
    go :
        (t : Bool)
        → take (length (before phase (take n ls))) ls ≡ before phase (take n ls)
        → take (length (if t then [] else x ∷ before phase (take n ls))) (x ∷ ls) ≡ (if t then [] else x ∷ before phase (take n ls))
    go true h = refl
    go false h = ap {B = List Loop} (λ r. x ∷ r) h

pub older_first : (n : ℕ) (ls : List Loop) → take (length (older (take n ls))) ls ≡ older (take n ls)
unfolding older
older_first zero ls = refl
older_first (suc n) [] = refl
older_first (suc zero) (x ∷ ls) = refl
older_first (suc (suc n)) (x ∷ []) = refl
older_first (suc (suc n)) (x ∷ y ∷ ls) = ap {B = List Loop} (λ r. x ∷ r) (older_first (suc n) (y ∷ ls))

-- ---- laws of three places, once for each three
by_three : (P : List Loop → Type 0) → ((x y z : Loop) → P (x ∷ y ∷ z ∷ [])) → (ls : List Loop) → length ls ≡ 3 → P ls
by_three P f [] h = absurd (omega arith)
by_three P f (x ∷ []) h = absurd (omega arith)
by_three P f (x ∷ y ∷ []) h = absurd (omega arith)
by_three P f (x ∷ y ∷ z ∷ []) h = f x y z
by_three P f (x ∷ y ∷ z ∷ w ∷ ls) h = absurd (omega arith)

pub older_at :
    (n : ℕ) (ls : List Loop) → length ls ≡ 3 → length (older (take n ls)) ≡ min (n - 1) 2
unfolding older
older_at n = by_three (λ ls. length (older (take n ls)) ≡ min (n - 1) 2) (go n)
  where
    go :
        (n : ℕ) (x y z : Loop)
        → length (older (take n (x ∷ y ∷ z ∷ []))) ≡ min (n - 1) 2
    go zero x y z = refl
    go (suc zero) x y z = refl
    go (suc (suc zero)) x y z = refl
    go (suc (suc (suc zero))) x y z = refl
    go (suc (suc (suc (suc n)))) x y z = omega arith

pub older_small : (n : ℕ) (ls : List Loop) → length ls ≡ 3 → length (older (take n ls)) < 3
older_small n ls h = rw (older_at n ls h) (omega arith)

pub newest_at :
    (n : ℕ) (ls : List Loop) → length ls ≡ 3 → (n ≡ 0 → ⊥) → get_or ls (length (older (take n ls))) no_loop ≡ newest (take n ls)
unfolding older newest
newest_at n ls h =
    by_three (λ l. (n ≡ 0 → ⊥) → get_or l (length (older (take n l))) no_loop ≡ newest (take n l)) (go n) ls h
  where
    go :
        (n : ℕ) (x y z : Loop)
        → (n ≡ 0 → ⊥)
        → get_or (x ∷ y ∷ z ∷ []) (length (older (take n (x ∷ y ∷ z ∷ [])))) no_loop ≡ newest (take n (x ∷ y ∷ z ∷ []))
    go zero x y z h = absurd (h refl)
    go (suc zero) x y z h = refl
    go (suc (suc zero)) x y z h = refl
    go (suc (suc (suc zero))) x y z h = refl
    go (suc (suc (suc (suc n)))) x y z h = refl

-- the tests of the places, in the code's order
abbrev placed : ℕ → ℕ → List Loop → ℕ
placed phase n ls =
    if ltb 0 n && eqb (get_or ls 0 no_loop).begun phase
    then 0
    else
    if ltb 1 n && eqb (get_or ls 1 no_loop).begun phase
    then 1
    else if ltb 2 n && eqb (get_or ls 2 no_loop).begun phase then 2 else min n 3

pub place_at : (phase n : ℕ) (ls : List Loop) → length ls ≡ 3 → length (before phase (take n ls)) ≡ placed phase n ls
unfolding before
place_at phase n = by_three (λ ls. length (before phase (take n ls)) ≡ placed phase n ls) (go n)
  where
    one : (x : Loop) (a : Bool) → length (if a then [] else x ∷ []) ≡ (if a then 0 else 1)
    one x true = refl
    one x false = refl

    two : (x y : Loop) (a b : Bool) → length (if a then [] else x ∷ (if b then [] else y ∷ [])) ≡ (if a then 0 else if b then 1 else 2)
    two x y true b = refl
    two x y false true = refl
    two x y false false = refl

    three :
        (x y z : Loop) (a b c : Bool)
        → length (if a then [] else x ∷ (if b then [] else y ∷ (if c then [] else z ∷ [])))
        ≡ (if a then 0 else if b then 1 else if c then 2 else 3)
    three x y z true b c = refl
    three x y z false true c = refl
    three x y z false false true = refl
    three x y z false false false = refl

    go :
        (n : ℕ) (x y z : Loop) → length (before phase (take n (x ∷ y ∷ z ∷ []))) ≡ placed phase n (x ∷ y ∷ z ∷ [])
    go zero x y z = refl
    go (suc zero) x y z = one x (eqb x.begun phase)
    go (suc (suc zero)) x y z = two x y (eqb x.begun phase) (eqb y.begun phase)
    go (suc (suc (suc zero))) x y z = three x y z (eqb x.begun phase) (eqb y.begun phase) (eqb z.begun phase)
    go (suc (suc (suc (suc n)))) x y z =
        let m = suc (suc (suc (suc n))) in
        let most : min m 3 ≡ 3 = omega arith in
        simp (lt-ltb 0 m (omega arith), lt-ltb 1 m (omega arith), lt-ltb 2 m (omega arith), most)
        (three x y z (eqb x.begun phase) (eqb y.begun phase) (eqb z.begun phase))

-- ---- the tests of soundness, place by place
abbrev place_tests : ℕ → ℕ → List Loop → List Bool
place_tests phases n ls =
    leb n 3
    ∷ (leb n 0 || is_sound_loop phases (get_or ls 0 no_loop))
    ∷ (leb n 1 || is_sound_loop phases (get_or ls 1 no_loop))
    ∷ (leb n 2 || is_sound_loop phases (get_or ls 2 no_loop))
    ∷ (leb n 1 || not (eqb (get_or ls 0 no_loop).begun (get_or ls 1 no_loop).begun))
    ∷ (leb n 2 || not (eqb (get_or ls 0 no_loop).begun (get_or ls 2 no_loop).begun))
    ∷ (leb n 2 || not (eqb (get_or ls 1 no_loop).begun (get_or ls 2 no_loop).begun))
    ∷ []

abbrev list_test : ℕ → ℕ → List Loop → Bool
list_test phases n ls = leb n 3 && all_sound phases (take n ls) && all_differ (take n ls)

-- no loop is open
pub none_sound : (phases : ℕ) (l : Loops) → l.count ≡ 0 → true ≡ is_sound_loops phases l
unfolding is_sound_loops all_sound all_differ
none_sound phases l e = sym (simp e)

pub sound_at : (phases n : ℕ) (ls : List Loop) → length ls ≡ 3 → all (place_tests phases n ls) ≡ list_test phases n ls
unfolding all_sound none_begun_by all_differ
sound_at phases n = by_three (λ ls. all (place_tests phases n ls) ≡ list_test phases n ls) (go n)
  where
    one : (a : Bool) → all (true ∷ a ∷ true ∷ true ∷ true ∷ true ∷ true ∷ []) ≡ (true && (a && true) && true)
    one true = refl
    one false = refl

    two :
        (a b d : Bool)
        → all (true ∷ a ∷ b ∷ true ∷ d ∷ true ∷ true ∷ []) ≡ (true && (a && (b && true)) && ((d && true) && true))
    two true true true = refl
    two true true false = refl
    two true false d = refl
    two false b d = refl

    three :
        (a b c d e f : Bool)
        → all (true ∷ a ∷ b ∷ c ∷ d ∷ e ∷ f ∷ [])
        ≡ (true && (a && (b && (c && true))) && ((d && (e && true)) && ((f && true) && true)))
    three true true true true true true = refl
    three true true true true true false = refl
    three true true true true false f = refl
    three true true true false e f = refl
    three true true false d e f = refl
    three true false c d e f = refl
    three false b c d e f = refl

    go :
        (n : ℕ) (x y z : Loop) → all (place_tests phases n (x ∷ y ∷ z ∷ [])) ≡ list_test phases n (x ∷ y ∷ z ∷ [])
    go zero x y z = refl
    go (suc zero) x y z = one (is_sound_loop phases x)
    go (suc (suc zero)) x y z = two (is_sound_loop phases x) (is_sound_loop phases y) (not (eqb x.begun y.begun))
    go (suc (suc (suc zero))) x y z =
        three (is_sound_loop phases x) (is_sound_loop phases y) (is_sound_loop phases z) (not (eqb x.begun y.begun))
        (not (eqb x.begun z.begun)) (not (eqb y.begun z.begun))
    go (suc (suc (suc (suc n)))) x y z = simp (lt-leb (suc (suc (suc (suc n)))) 3 (omega arith))
