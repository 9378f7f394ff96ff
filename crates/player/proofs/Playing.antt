-- The bytes of the input, one after the other: what the loop over them knows of the bench and of the buffer.
-- Assumes nothing.
use Prim.Native.Nat.{ℕ, zero, suc, ◌+◌, ◌-◌, ◌≤◌, ◌<◌}
use mathlib.Core.Path.{◌≡◌, refl, sym, ap, ◌∙◌}
use mathlib.Core.Bool.{false}
use mathlib.Core.List.{List, [], ◌∷◌, ◌++◌, append_assoc, append-nil}
use native.Mathlib.Numerals.{add-one}
use native.Mathlib.Omega.{arith}
use lib.ListN.{length, take, get_or}
use lib.Seq.{take-suc}
use Rattle.base.specs.Wrote.{Wrote}
use Rattle.base.proofs.Writing.{wrote_as, wrote_then, wrote_none, wrote_length}
use Rattle.script.specs.Places.{is_deed, after_spot, input_end}
use Rattle.player.specs.Rigs.{rig_after, printed}
use Rattle.player.specs.Scripts.{bench_after, turn_says, play, says, closed, Feeds}
use Rattle.script.specs.declared.places.Act.{Act}
use Rattle.player.specs.declared.feeding.Bench.{Bench}
use Rattle.script.specs.declared.places.Spot.{Spot}
use Rattle.script.specs.declared.places.Step.{Step}
use Rattle.player.specs.declared.rigs.Rig.{Rig}
use Rattle.script.proofs.Deeds.{waits}

-- ---- one byte
module _ (w : Bench) (b : ℕ) (step : Step) (e : step ≡ after_spot w.place b) where
  pub turn_bench :
      (r : Rig) → r ≡ rig_after w.rig step.act → ◌≡◌ {A = Bench} (record { rig = r; place = step.place }) (bench_after w b)
  unfolding bench_after
  turn_bench r f = rw (f, e)

  pub turn_wrote : {l m : List ℕ} {i j : ℕ} → Wrote l m i j (printed w.rig step.act) → Wrote l m i j (turn_says w b)
  unfolding turn_says
  turn_wrote p = wrote_as p (ap (λ (s : Step). printed w.rig s.act) e)

  -- nothing is asked for
  module _ (d : is_deed step.act ≡ false) where
    still : rig_after w.rig step.act ≡ w.rig
    still = ap (rig_after w.rig) (waits step.act d)

    pub wait_bench : ◌≡◌ {A = Bench} (record { rig = w.rig; place = step.place }) (bench_after w b)
    wait_bench = turn_bench w.rig (sym still)

    pub wait_wrote : (l : List ℕ) (i : ℕ) → i ≤ length l → Wrote l l i i (turn_says w b)
    unfolding turn_says
    wait_wrote l i h =
        wrote_as (wrote_none l i h)
        (ap (printed w.rig) (sym (waits step.act d)) ∙ ap (λ (s : Step). printed w.rig s.act) e)

-- ---- the end of the input
pub closing_wrote :
    (w : Bench) (a : Act) → a ≡ input_end w.place → {l m : List ℕ} {i j : ℕ} → Wrote l m i j (printed w.rig a)
    → Wrote l m i j (closed w)
unfolding closed
closing_wrote w a e p = wrote_as p (ap (printed w.rig) e)

-- ---- bytes and one byte more
pub played_append : (w : Bench) (s t : List ℕ) → play w (s ++ t) ≡ play (play w s) t
unfolding play
played_append w [] t = refl
played_append w (b ∷ s) t = played_append (bench_after w b) s t

pub says_append : (w : Bench) (s t : List ℕ) → says w (s ++ t) ≡ says w s ++ says (play w s) t
unfolding play says
says_append w [] t = refl
says_append w (b ∷ s) t =
    ap (λ (u : List ℕ). turn_says w b ++ u) (says_append (bench_after w b) s t)
    ∙ sym (append_assoc (turn_says w b) (says (bench_after w b) s) (says (play (bench_after w b) s) t))

played_snoc : (w : Bench) (s : List ℕ) (b : ℕ) → play w (s ++ b ∷ []) ≡ bench_after (play w s) b
unfolding play
played_snoc w s b = played_append w s (b ∷ [])

says_snoc : (w : Bench) (s : List ℕ) (b : ℕ) → says w (s ++ b ∷ []) ≡ says w s ++ turn_says (play w s) b
unfolding says
says_snoc w s b = says_append w s (b ∷ []) ∙ ap (λ (u : List ℕ). says w s ++ u) (append-nil (turn_says (play w s) b))

-- ---- i bytes of s were played from w, and what they print stands at the start of the buffer
pub record Feeding (w : Bench) (s before out : List ℕ) (now : Bench) (i at : ℕ) : Type 0 where
  pub within : i ≤ length s
  pub stands : now ≡ play w (take i s)
  pub wrote : Wrote before out 0 at (says w (take i s))
  pub same : length out ≡ length before

pub feeding_none : (w : Bench) (s l : List ℕ) → Feeding w s l l w 0 0
unfolding play says
feeding_none w s l = record { within = omega arith; stands = refl; wrote = wrote_none l 0 (omega arith); same = refl }

module _ {w : Bench} {s l m : List ℕ} {now : Bench} {i at : ℕ} (f : Feeding w s l m now i at) where
  pub feeding_more :
      {o : List ℕ} {next : Bench} {end : ℕ}
      → i < length s
      → next ≡ bench_after now (get_or s i 0)
      → Wrote m o at end (turn_says now (get_or s i 0))
      → Feeding w s l o next (i + 1) end
  feeding_more {o} {next} {end} h e v =
      let b = get_or s i 0 in
      let grown : take (i + 1) s ≡ take i s ++ b ∷ [] = rw add-one (take-suc s i 0 h) in
      let n = f.stands in
      record {
        within = omega arith;
        stands =
            e ∙ ap (λ (x : Bench). bench_after x b) n ∙ sym (played_snoc w (take i s) b) ∙ ap (λ (t : List ℕ). play w t) (sym grown);
        wrote =
            wrote_as
            (wrote_then f.wrote v)
            (ap (λ (x : Bench). says w (take i s) ++ turn_says x b) n
            ∙ sym (says_snoc w (take i s) b)
            ∙ ap (λ (t : List ℕ). says w t) (sym grown));
        same = wrote_length v ∙ f.same;
      }

  -- by the act that the byte asks for, or where it asks for none
  module _ (h : i < length s) (step : Step) (e : step ≡ after_spot now.place (get_or s i 0)) where
    pub feeding_act :
        {o : List ℕ} {r : Rig} {end : ℕ}
        → r ≡ rig_after now.rig step.act
        → Wrote m o at end (printed now.rig step.act)
        → Feeding w s l o (record { rig = r; place = step.place }) (i + 1) end
    feeding_act {r = r} k p = feeding_more h (turn_bench now _ step e r k) (turn_wrote now _ step e p)

    pub feeding_wait :
        is_deed step.act ≡ false
        → at ≤ length m
        → Feeding w s l m (record { rig = now.rig; place = step.place }) (i + 1) at
    feeding_wait d k = feeding_more h (wait_bench now _ step e d) (wait_wrote now _ step e d m at k)

  pub feeding_all : length s ≤ i → Feeds w s l m (record { bench = now; taken = i; end = at })
  feeding_all h =
      record { within = f.within; some = λ (z : 0 < length s). omega arith; stands = f.stands; wrote = f.wrote }

-- where two ways meet, with what each of them left
pub feeding_as :
    {w : Bench} {s l o o' : List ℕ} {g g' : Rig} {q : Spot} {i k k' : ℕ}
    → o' ≡ o
    → g' ≡ g
    → k' ≡ k
    → Feeding w s l o (record { rig = g; place = q }) i k
    → Feeding w s l o' (record { rig = g'; place = q }) i k'
feeding_as x y z f = rw (x, y, z) f

-- a buffer with room for one byte's lines is full only after a byte
some_taken :
    (w : Bench) (s l m : List ℕ) (now : Bench) (i at : ℕ) → Feeding w s l m now i at → 69 ≤ length l → length m - at < 69 → 0 < i
unfolding says
some_taken w s l m now zero at f r h = let z : at ≡ 0 = f.wrote.ends in absurd (omega (arith, f.same))
some_taken w s l m now (suc i) at f r h = omega arith

pub feeding_full :
    {w : Bench} {s l m : List ℕ} {now : Bench} {i at : ℕ}
    → Feeding w s l m now i at
    → 69 ≤ length l
    → length m - at < 69
    → Feeds w s l m (record { bench = now; taken = i; end = at })
feeding_full {w} {s} {l} {m} {now} {i} {at} f r h =
    record {
      within = f.within;
      some = λ (z : 0 < length s). some_taken w s l m now i at f r h;
      stands = f.stands;
      wrote = f.wrote;
    }
