-- LPS, LOP and LPE do to the stored loops, the oldest first, what the observer does to his, the newest first.
-- Assumes nothing.
use Rattle.std.specs.Prelude.{if◌then◌else◌, Option, is_none, IfSome}
use Prim.Native.Nat.{ℕ, ◌+◌, ◌≤◌, ◌<◌}
use mathlib.Core.Path.{◌≡◌, refl, sym, ap, ◌∙◌, subst}
use mathlib.Core.Bool.{Bool, true, false}
use mathlib.Core.List.{List, [], ◌∷◌, ◌++◌, reverse, reverse-cons, reverse-reverse}
use native.Mathlib.Omega.{arith}
use lib.Dec.{leb, eqb}
use lib.ListN.{length, get_or, length-reverse, length-append}
use borrow.Author.Tests.{eqb-true, leb-false}
use Rattle.loops.specs.Loops as stored
use Rattle.loops.specs.Loops.{no_loop, opened, in_slots}
use Rattle.loops.specs.declared.Loop.{Loop}
use Rattle.loops.specs.declared.Loops.{Loops}
use Rattle.loops.specs.declared.Turn.{Turn}
use Rattle.loops.proofs.Places.{opened_holding}
use Rattle.soundness.proofs.Runs.{by_test}
use Rattle.condition3.specs.Books.{still_open, newest_loop, older_loops, is_last, again}

-- ---- the newest at the end
newest_last : (xs : List Loop) (l : Loop) → stored.newest (xs ++ l ∷ []) ≡ l
unfolding stored.newest
newest_last [] l = refl
newest_last (x ∷ []) l = refl
newest_last (x ∷ y ∷ xs) l = newest_last (y ∷ xs) l

older_last : (xs : List Loop) (l : Loop) → stored.older (xs ++ l ∷ []) ≡ xs
unfolding stored.older
older_last [] l = refl
older_last (x ∷ []) l = refl
older_last (x ∷ y ∷ xs) l = ap (λ (t : List Loop). x ∷ t) (older_last (y ∷ xs) l)

newest_same : (ls : List Loop) → stored.newest (reverse ls) ≡ newest_loop ls
unfolding stored.newest
newest_same [] = refl
newest_same (l ∷ ls) = ap stored.newest (reverse-cons l ls) ∙ newest_last (reverse ls) l

older_same : (ls : List Loop) → stored.older (reverse ls) ≡ reverse (older_loops ls)
unfolding stored.older
older_same [] = refl
older_same (l ∷ ls) = ap stored.older (reverse-cons l ls) ∙ older_last (reverse ls) l

older_few : (ls : List Loop) → length ls ≤ 3 → length (older_loops ls) ≤ 2
older_few [] h = omega arith
older_few (l ∷ ls) h = omega arith

-- one more behind those that stay
held : (xs ls : List Loop) (l : Loop) → xs ≡ reverse ls → length ls ≤ 2 → opened (in_slots (xs ++ l ∷ [])) ≡ reverse (l ∷ ls)
held xs ls l e h =
    opened_holding (xs ++ l ∷ []) (omega (arith, length-append xs (l ∷ []), ap length e, length-reverse ls))
    ∙ ap (λ (t : List Loop). t ++ l ∷ []) e
    ∙ sym (reverse-cons l ls)

-- ---- LPS: of at most three loops, begun by different phases, those stay that were opened before the one that this phase opened
abbrev pub Differ : List Loop → Type 0
Differ xs = (i j : ℕ) → i < j → j < length xs → (get_or xs i no_loop).begun ≡ (get_or xs j no_loop).begun → ⊥

abbrev Stay : ℕ → List Loop → Type 0
Stay n xs = stored.before n xs ≡ reverse (still_open n (reverse xs) (reverse xs))

both : (a b n : ℕ) → eqb a n ≡ true → eqb b n ≡ true → a ≡ b
both a b n e f = eqb-true a n e ∙ sym (eqb-true b n f)

stay : (n : ℕ) (xs : List Loop) → length xs ≤ 3 → Differ xs → Stay n xs
unfolding stored.before
stay n [] h d = refl
stay n (x ∷ []) h d = go (eqb x.begun n)
  where
    go :
        (t : Bool)
        → ◌≡◌ {A = List Loop} (if t then [] else x ∷ []) (reverse (if◌then◌else◌ {A = List Loop} t [] (x ∷ [])))
    go true = refl
    go false = refl
stay n (x ∷ y ∷ []) h d = go (eqb x.begun n) (eqb y.begun n) refl refl
  where
    go :
        (t u : Bool)
        → eqb x.begun n ≡ t
        → eqb y.begun n ≡ u
        → ◌≡◌ {A = List Loop} (if t then [] else x ∷ (if u then [] else y ∷ []))
        (reverse (if◌then◌else◌ {A = List Loop} u (x ∷ []) (if t then [] else y ∷ x ∷ [])))
    go true true e f = absurd (d 0 1 (omega arith) (omega arith) (both x.begun y.begun n e f))
    go true false e f = refl
    go false true e f = refl
    go false false e f = refl
stay n (x ∷ y ∷ z ∷ []) h d = go (eqb x.begun n) (eqb y.begun n) (eqb z.begun n) refl refl refl
  where
    go :
        (t u w : Bool)
        → eqb x.begun n ≡ t
        → eqb y.begun n ≡ u
        → eqb z.begun n ≡ w
        → ◌≡◌ {A = List Loop} (if t then [] else x ∷ (if u then [] else y ∷ (if w then [] else z ∷ [])))
        (reverse (if◌then◌else◌ {A = List Loop} w (y ∷ x ∷ []) (if u then x ∷ [] else if t then [] else z ∷ y ∷ x ∷ [])))
    go true true w e f g = absurd (d 0 1 (omega arith) (omega arith) (both x.begun y.begun n e f))
    go true false true e f g = absurd (d 0 2 (omega arith) (omega arith) (both x.begun z.begun n e g))
    go false true true e f g = absurd (d 1 2 (omega arith) (omega arith) (both y.begun z.begun n f g))
    go true false false e f g = refl
    go false true false e f g = refl
    go false false true e f g = refl
    go false false false e f g = refl
stay n (x ∷ y ∷ z ∷ u ∷ xs) h d = absurd (omega arith)

module _ (l : Loops) (ls : List Loop) (e : opened l ≡ reverse ls) (few : length (opened l) ≤ 3) where
  few_booked : length ls ≤ 3
  few_booked = omega (arith, few, ap length e, length-reverse ls)

  newest_is : stored.newest (opened l) ≡ newest_loop ls
  newest_is = ap stored.newest e ∙ newest_same ls

  older_is : stored.older (opened l) ≡ reverse (older_loops ls)
  older_is = ap stored.older e ∙ older_same ls

  -- the newest with so many passes more
  turned : (passes : ℕ) (x : Loop) → x ≡ record { begun = (newest_loop ls).begun; passes = (newest_loop ls).passes + passes }
      → opened (in_slots (stored.older (opened l) ++ x ∷ [])) ≡ reverse (again passes ls)
  turned passes x h =
      ap (λ (y : Loop). opened (in_slots (stored.older (opened l) ++ y ∷ []))) h
      ∙ held (stored.older (opened l)) (older_loops ls) _ older_is (older_few ls few_booked)

  -- ---- LOP
  pub lop_loops : (k current : ℕ) → opened (stored.lop l k current).loops ≡ reverse (if is_last k ls then older_loops ls else again 1 ls)
  unfolding stored.lop
  lop_loops k current =
      subst
      (λ (x : Loop). opened
      (if◌then◌else◌ {A = Turn} (leb k (x.passes + 1)) (record { loops = in_slots (stored.older (opened l)); next = current + 1 })
      (record {
        loops = in_slots (stored.older (opened l) ++ record { begun = x.begun; passes = x.passes + 1 } ∷ []);
        next = x.begun + 1;
      })
      ).loops
      ≡ reverse (if is_last k ls then older_loops ls else again 1 ls)) (sym newest_is) (go (is_last k ls))
    where
      go :
          (t : Bool)
          → opened
          (if◌then◌else◌ {A = Turn} t (record { loops = in_slots (stored.older (opened l)); next = current + 1 })
          (record {
            loops = in_slots (stored.older (opened l) ++ record { begun = (newest_loop ls).begun; passes = (newest_loop ls).passes + 1 } ∷ []);
            next = (newest_loop ls).begun + 1;
          })
          ).loops
          ≡ reverse (if t then older_loops ls else again 1 ls)
      go true =
          opened_holding (stored.older (opened l))
          (omega (arith, ap length older_is, length-reverse (older_loops ls), older_few ls few_booked))
          ∙ older_is
      go false = turned 1 _ refl

  pub lop_next : (k current : ℕ) → (stored.lop l k current).next ≡ (if is_last k ls then current else (newest_loop ls).begun) + 1
  unfolding stored.lop
  lop_next k current =
      subst
      (λ (x : Loop). (if◌then◌else◌ {A = Turn} (leb k (x.passes + 1))
      (record { loops = in_slots (stored.older (opened l)); next = current + 1 })
      (record {
        loops = in_slots (stored.older (opened l) ++ record { begun = x.begun; passes = x.passes + 1 } ∷ []);
        next = x.begun + 1;
      })
      ).next
      ≡ (if is_last k ls then current else (newest_loop ls).begun) + 1) (sym newest_is)
      (by_test (λ (t : Turn). t.next ≡ (if is_last k ls then current else (newest_loop ls).begun) + 1) (is_last k ls) (λ h. rw h) (λ h. rw h))

  -- ---- LPE
  pub lpe_loops : opened (stored.lpe l).loops ≡ reverse (again 0 ls)
  unfolding stored.lpe
  lpe_loops = turned 0 (stored.newest (opened l)) (newest_is ∙ λ i. record { begun = (newest_loop ls).begun; passes = more i })
    where
      more : (newest_loop ls).passes ≡ (newest_loop ls).passes + 0
      more = omega arith

  pub lpe_next : (stored.lpe l).next ≡ (newest_loop ls).begun + 1
  unfolding stored.lpe
  lpe_next = ap (λ (x : Loop). x.begun + 1) newest_is

  -- ---- LPS
  module _ (n : ℕ) (d : Differ (opened l)) where
    back : reverse (opened l) ≡ ls
    back = ap reverse e ∙ reverse-reverse ls

    pub open_same : stored.before n (opened l) ≡ reverse (still_open n ls ls)
    open_same = stay n (opened l) few d ∙ ap (λ (t : List Loop). reverse (still_open n t t)) back

    open_count : length (stored.before n (opened l)) ≡ length (still_open n ls ls)
    open_count = ap length open_same ∙ length-reverse (still_open n ls ls)

    abbrev room : Bool
    room = leb 3 (length (stored.before n (opened l)))

    room_same : room ≡ leb 3 (length (still_open n ls ls))
    room_same = ap (leb 3) open_count

    pub lps_full : is_none (stored.lps l n) ≡ leb 3 (length (still_open n ls ls))
    unfolding stored.lps
    lps_full =
        by_test (λ (x : Option Loops). is_none x ≡ leb 3 (length (still_open n ls ls))) room
        (λ h. sym (sym room_same ∙ h)) (λ h. sym (sym room_same ∙ h))

    pub lps_loops :
        IfSome (stored.lps l n) (λ more. opened more ≡ reverse (record { begun = n; passes = 0 } ∷ still_open n ls ls))
    unfolding stored.lps
    lps_loops =
        by_test (λ (x : Option Loops). IfSome x (λ more. opened more ≡ reverse (record { begun = n; passes = 0 } ∷ still_open n ls ls)))
        room (λ _. tt)
        (λ h.
        held (stored.before n (opened l)) (still_open n ls ls) _ open_same
        (let k = leb-false 3 (length (still_open n ls ls)) (sym room_same ∙ h) in omega arith))
