-- LPS, LOP and LPE keep sound loops sound, and the phase that follows is one of the program's or the one behind its last.
-- Assumes nothing.
use Rattle.std.specs.Prelude.{if◌then◌else◌, Option, Some, None, IfSome}
use Prim.Native.Nat.{ℕ, ◌+◌, ◌≤◌, ◌<◌}
use mathlib.Core.Path.{◌≡◌, refl, sym, ap, subst, ◌∙◌}
use mathlib.Core.Bool.{Bool, true, false, ◌&&◌, not}
use mathlib.Core.List.{List, [], ◌∷◌, ◌++◌}
use native.Mathlib.Omega.{arith}
use lib.Dec.{leb, eqb}
use lib.ListN.{length, length-append}
use borrow.Author.Tests.{leb-false, le-leb, eqb-true, eqb-false, eq-eqb, ne_eqb}
use Rattle.base.proofs.Choices.{and_left, and_right}
use Rattle.base.proofs.Each.{and_both}
use Rattle.loops.specs.Loops.{opened, in_slots, before, lps, newest, older, lop, lpe, Turning}
use Rattle.loops.specs.Loops.{is_sound_loop, all_sound, none_begun_by, all_differ, is_sound_loops}
use Rattle.loops.specs.declared.Loop.{Loop}
use Rattle.loops.specs.declared.Loops.{Loops}
use Rattle.loops.specs.declared.Turn.{Turn}
use Rattle.loops.proofs.Places.{opened_holding}
use Rattle.loops.proofs.Soundness.{SoundList, Bounded, bounded, bounded_sound, sound_list}

pub holding_sound : (phases : ℕ) (ls : List Loop) → SoundList phases ls → is_sound_loops phases (in_slots ls) ≡ true
unfolding is_sound_loops
holding_sound phases ls s =
    rw (opened_holding ls s.few)
    (and_both (leb (length ls) 3 && all_sound phases ls) (all_differ ls)
    (and_both (leb (length ls) 3) (all_sound phases ls) (le-leb _ _ s.few) s.sound) s.differ)

-- ---- one more loop behind a list
swap : (a b c : Bool) → (a && (b && c)) ≡ (b && (a && c))
swap true b c = refl
swap false true c = refl
swap false false c = refl

sound_snoc : (phases : ℕ) (ls : List Loop) (x : Loop) → all_sound phases (ls ++ x ∷ []) ≡ (is_sound_loop phases x && all_sound phases ls)
unfolding all_sound
sound_snoc phases [] x = refl
sound_snoc phases (y ∷ ls) x =
    ap (λ (t : Bool). is_sound_loop phases y && t) (sound_snoc phases ls x)
    ∙ swap (is_sound_loop phases y) (is_sound_loop phases x) (all_sound phases ls)

none_snoc :
    (phase : ℕ) (ls : List Loop) (x : Loop) → none_begun_by phase (ls ++ x ∷ []) ≡ (not (eqb phase x.begun) && none_begun_by phase ls)
unfolding none_begun_by
none_snoc phase [] x = refl
none_snoc phase (y ∷ ls) x =
    ap (λ (t : Bool). not (eqb phase y.begun) && t) (none_snoc phase ls x)
    ∙ swap (not (eqb phase y.begun)) (not (eqb phase x.begun)) (none_begun_by phase ls)

eqb_sym : (a b : ℕ) → eqb a b ≡ eqb b a
eqb_sym a b = go (eqb a b) refl
  where
    go : (t : Bool) → eqb a b ≡ t → t ≡ eqb b a
    go true e = sym (eq-eqb b a (sym (eqb-true a b e)))
    go false e = sym (ne_eqb b a (λ q. eqb-false a b e (sym q)))

differ_snoc : (ls : List Loop) (x : Loop) → all_differ (ls ++ x ∷ []) ≡ (none_begun_by x.begun ls && all_differ ls)
unfolding all_differ none_begun_by
differ_snoc [] x = refl
differ_snoc (y ∷ ls) x =
    rw (none_snoc y.begun ls x, differ_snoc ls x, eqb_sym y.begun x.begun)
    (go (not (eqb x.begun y.begun)) (none_begun_by y.begun ls) (none_begun_by x.begun ls) (all_differ ls))
  where
    go : (a b c d : Bool) → ((a && b) && (c && d)) ≡ ((a && c) && (b && d))
    go true b c d = swap b c d
    go false b c d = refl

pub snoc_sound :
    (phases : ℕ) (ls : List Loop) (x : Loop)
    → length ls < 3
    → all_sound phases ls ≡ true
    → all_differ ls ≡ true
    → is_sound_loop phases x ≡ true
    → none_begun_by x.begun ls ≡ true
    → is_sound_loops phases (in_slots (ls ++ x ∷ [])) ≡ true
snoc_sound phases ls x h s d b o =
    holding_sound phases (ls ++ x ∷ [])
    (record {
      few = omega (arith, length-append ls (x ∷ []));
      sound = sound_snoc phases ls x ∙ and_both (is_sound_loop phases x) (all_sound phases ls) b s;
      differ = differ_snoc ls x ∙ and_both (none_begun_by x.begun ls) (all_differ ls) o d;
    })

-- ---- LPS: those opened before are sound, and none is begun by this phase
record Part (phases phase : ℕ) (ls part : List Loop) : Type 0 where
  pub sound : all_sound phases part ≡ true
  pub differ : all_differ part ≡ true
  pub others : (k : ℕ) → none_begun_by k ls ≡ true → none_begun_by k part ≡ true
  pub other : none_begun_by phase part ≡ true

before_part :
    (phases phase : ℕ) (ls : List Loop) → all_sound phases ls ≡ true → all_differ ls ≡ true → Part phases phase ls (before phase ls)
unfolding before all_sound none_begun_by all_differ
before_part phases phase [] s d = record { sound = refl; differ = refl; others = λ k h. refl; other = refl }
before_part phases phase (x ∷ ls) s d =
    go (eqb x.begun phase) refl
    (before_part phases phase ls (and_right (is_sound_loop phases x) (all_sound phases ls) s)
    (and_right (none_begun_by x.begun ls) (all_differ ls) d))
  where
    go :
        (t : Bool)
        → eqb x.begun phase ≡ t
        → Part phases phase ls (before phase ls)
        → Part phases phase (x ∷ ls) (if t then [] else x ∷ before phase ls)
    go true e p = record { sound = refl; differ = refl; others = λ k h. refl; other = refl }
    go false e p =
        record {
          sound =
              and_both (is_sound_loop phases x) (all_sound phases (before phase ls)) (and_left (is_sound_loop phases x) (all_sound phases ls) s)
              p.sound;
          differ =
              and_both (none_begun_by x.begun (before phase ls)) (all_differ (before phase ls))
              (p.others x.begun (and_left (none_begun_by x.begun ls) (all_differ ls) d)) p.differ;
          others =
              λ k h.
              and_both (not (eqb k x.begun)) (none_begun_by k (before phase ls))
              (and_left (not (eqb k x.begun)) (none_begun_by k ls) h)
              (p.others k (and_right (not (eqb k x.begun)) (none_begun_by k ls) h));
          other =
              and_both (not (eqb phase x.begun)) (none_begun_by phase (before phase ls)) (ap not (eqb_sym phase x.begun ∙ e))
              p.other;
        }

pub lps_sound :
    (phases phase : ℕ) (l : Loops)
    → is_sound_loops phases l ≡ true
    → phase ≤ phases
    → IfSome (lps l phase) (λ more. is_sound_loops phases more ≡ true)
unfolding lps
lps_sound phases phase l h k = go (leb 3 (length (before phase (opened l)))) refl
  where
    begun : Loop
    begun = record { begun = phase; passes = 0 }

    go :
        (t : Bool)
        → leb 3 (length (before phase (opened l))) ≡ t
        → IfSome (if◌then◌else◌ {A = Option Loops} t None (Some (in_slots (before phase (opened l) ++ begun ∷ []))))
        (λ more. is_sound_loops phases more ≡ true)
    go true e = tt
    go false e =
        let s = sound_list phases l h in
        let p = before_part phases phase (opened l) s.sound s.differ in
        snoc_sound phases (before phase (opened l)) begun (leb-false _ _ e) p.sound p.differ
        (bounded_sound phases begun (record { begun_most = k; passes_most = omega arith })) p.other

-- ---- LOP and LPE: the newest loop, or the one begun by phase 0, and those opened before it
record Split (phases : ℕ) (first : List Loop) (last : Loop) : Type 0 where
  pub few : length first < 3
  pub sound : all_sound phases first ≡ true
  pub differ : all_differ first ≡ true
  pub bounds : Bounded phases last
  pub other : none_begun_by last.begun first ≡ true

older_newest : (x : Loop) (ls : List Loop) → older (x ∷ ls) ++ newest (x ∷ ls) ∷ [] ≡ x ∷ ls
unfolding older newest
older_newest x [] = refl
older_newest x (y ∷ ls) = ap {B = List Loop} (λ r. x ∷ r) (older_newest y ls)

split_last : (phases : ℕ) (ls : List Loop) (x : Loop) → SoundList phases (ls ++ x ∷ []) → Split phases ls x
split_last phases ls x s =
    let e = sym (sound_snoc phases ls x) ∙ s.sound in
    let d = sym (differ_snoc ls x) ∙ s.differ in
    record {
      few = omega (arith, length-append ls (x ∷ []), s.few);
      sound = and_right (is_sound_loop phases x) (all_sound phases ls) e;
      differ = and_right (none_begun_by x.begun ls) (all_differ ls) d;
      bounds = bounded phases x (and_left (is_sound_loop phases x) (all_sound phases ls) e);
      other = and_left (none_begun_by x.begun ls) (all_differ ls) d;
    }

split_newest : (phases : ℕ) (ls : List Loop) → SoundList phases ls → Split phases (older ls) (newest ls)
unfolding older newest all_sound none_begun_by all_differ
split_newest phases [] s =
    record {
      few = omega arith;
      sound = refl;
      differ = refl;
      bounds = record { begun_most = omega arith; passes_most = omega arith };
      other = refl;
    }
split_newest phases (x ∷ ls) s =
    split_last phases (older (x ∷ ls)) (newest (x ∷ ls)) (subst (λ (k : List Loop). SoundList phases k) (sym (older_newest x ls)) s)

split_open : (phases : ℕ) (l : Loops) → is_sound_loops phases l ≡ true → Split phases (older (opened l)) (newest (opened l))
split_open phases l h = split_newest phases (opened l) (sound_list phases l h)

pub newest_bounded : (phases : ℕ) (l : Loops) → is_sound_loops phases l ≡ true → Bounded phases (newest (opened l))
newest_bounded phases l h = (split_open phases l h).bounds

-- the newest loop with other passes behind those opened before it
again_sound :
    (phases passes : ℕ) (l : Loops)
    → is_sound_loops phases l ≡ true
    → passes ≤ 98
    → is_sound_loops phases (in_slots (older (opened l) ++ record { begun = (newest (opened l)).begun; passes = passes } ∷ [])) ≡ true
again_sound phases passes l h k =
    let s = split_open phases l h in
    let again : Loop = record { begun = (newest (opened l)).begun; passes = passes } in
    snoc_sound phases (older (opened l)) again s.few s.sound s.differ
    (bounded_sound phases again (record { begun_most = s.bounds.begun_most; passes_most = k })) s.other

pub lpe_sound : (phases : ℕ) (l : Loops) → is_sound_loops phases l ≡ true → is_sound_loops phases (lpe l).loops ≡ true
unfolding lpe
lpe_sound phases l h = again_sound phases (newest (opened l)).passes l h (newest_bounded phases l h).passes_most

-- what holds of LOP's two ways out
module _ (l : Loops) (n current : ℕ) where
  abbrev closing : Turn
  closing = record { loops = in_slots (older (opened l)); next = current + 1 }

  abbrev returning : Turn
  returning =
      record {
        loops = in_slots (older (opened l) ++ record { begun = (newest (opened l)).begun; passes = (newest (opened l)).passes + 1 } ∷ []);
        next = (newest (opened l)).begun + 1;
      }

  by_ways : (P : Turn → Type 0) → P closing → ((newest (opened l)).passes + 1 < n → P returning) → P (lop l n current)
  unfolding lop
  by_ways P f g = go (leb n ((newest (opened l)).passes + 1)) refl
    where
      go : (t : Bool) → leb n ((newest (opened l)).passes + 1) ≡ t → P (if t then closing else returning)
      go true e = f
      go false e = g (leb-false _ _ e)

-- a pass that does not reach the count leaves at most 98
pub lop_sound :
    (phases n current : ℕ) (l : Loops)
    → is_sound_loops phases l ≡ true
    → n ≤ 99
    → is_sound_loops phases (lop l n current).loops ≡ true
lop_sound phases n current l h k =
    let s = split_open phases l h in
    by_ways l n current (λ (t : Turn). is_sound_loops phases t.loops ≡ true)
    (holding_sound phases (older (opened l)) (record { few = omega (arith, s.few); sound = s.sound; differ = s.differ }))
    (λ m. again_sound phases ((newest (opened l)).passes + 1) l h (omega arith))

-- ---- the phase that follows
pub lop_next_ge : (l : Loops) (n current : ℕ) → 1 ≤ (lop l n current).next
lop_next_ge l n current = by_ways l n current (λ (t : Turn). 1 ≤ t.next) (omega arith) (λ m. omega arith)

pub lop_next_le :
    (phases n current : ℕ) (l : Loops)
    → is_sound_loops phases l ≡ true
    → current ≤ phases
    → (lop l n current).next ≤ phases + 1
lop_next_le phases n current l h k =
    by_ways l n current (λ (t : Turn). t.next ≤ phases + 1) (omega arith) (λ m. omega (arith, (newest_bounded phases l h).begun_most))

pub lpe_next_ge : (l : Loops) → 1 ≤ (lpe l).next
unfolding lpe
lpe_next_ge l = omega arith

pub lpe_next_le : (phases : ℕ) (l : Loops) → is_sound_loops phases l ≡ true → (lpe l).next ≤ phases + 1
unfolding lpe
lpe_next_le phases l h = omega (arith, (newest_bounded phases l h).begun_most)

pub turning : (phases current : ℕ) (l : Loops) → phases ≤ 99 → is_sound_loops phases l ≡ true → current ≤ 100 → Turning l current
turning phases current l p h k = record { begun = omega (arith, (newest_bounded phases l h).begun_most); current_few = k }
