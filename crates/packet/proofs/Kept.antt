-- What a byte and a tick keep, each by itself: the test of soundness, whatever the bytes are, and the number of places. And how a packet
-- ends.
-- Assumes nothing.
use Rattle.std.specs.Prelude.{if◌then◌else◌, Option, None, Some}
use Prim.Native.Nat.{ℕ, zero, suc, ◌+◌, ◌-◌, ◌≤◌, ◌<◌}
use mathlib.Core.Path.{◌≡◌, refl, sym, ap, subst, ◌∙◌}
use mathlib.Core.Bool.{Bool, true, false}
use mathlib.Core.List.{List}
use native.Mathlib.Omega.{arith}
use lib.Dec.{ltb, eqb}
use lib.ListN.{length, take, set, replicate, length-set}
use borrow.Author.Tests.{lt-ltb, le-leb, ltb-true, leb-true}
use Rattle.base.proofs.Choices.{false_true}
use Rattle.base.proofs.Each.{and_both}
use Rattle.packet.specs.Packets.{stx, etx, is_length, is_check}
use Rattle.packet.specs.Receiver.{outside_receiver, waiting, going_on, wrong_now, length_taken, data_taken, low_taken, end_taken}
use Rattle.packet.specs.Receiver.{begun_by, taken_by, after_in, after_byte, tick_in, tick, ticks, sound_stage, sound_place, sound_receiver}
use Rattle.packet.specs.declared.receiver.Stage.{Stage}
use Rattle.packet.specs.declared.receiver.Stage.TheVariants.{Length, Data, High, Low, End}
use Rattle.packet.specs.declared.receiver.Part.{Part}
use Rattle.packet.specs.declared.receiver.Receiver.{Receiver}
use Rattle.packet.specs.declared.receiver.Outcome.{Outcome}
use Rattle.packet.specs.declared.receiver.Outcome.TheVariants.{Nothing, Wrong, Good}
use Rattle.packet.specs.declared.receiver.Arrived.{Arrived}
use Rattle.packet.proofs.Steps.{stage_sound}
use Rattle.packet.proofs.Judging.{range_of}

-- a receiver made of one with the bytes l: it stands well, and has forty places if that one had
record Keeps (l : List ℕ) (r : Receiver) : Type 0 where
  pub part : sound_place r.part ≡ true
  pub places : length l ≡ 40 → length r.bytes ≡ 40

-- forty zeros, at a place that stands well
anew : (l : List ℕ) (q : Option Part) → sound_place q ≡ true → Keeps l (record { bytes = replicate 40 0; part = q })
anew l q h = record { part = h; places = λ n. refl }

-- ---- a byte
taken_keeps : (l : List ℕ) (g : Stage) (b : ℕ) → sound_stage g ≡ true → Keeps l (taken_by l g b).receiver
unfolding length_taken data_taken low_taken end_taken
taken_keeps l Length b h = go (is_length b) refl (eqb b 4)
  where
    go : (t : Bool) → is_length b ≡ t → (u : Bool)
        → Keeps l (if t then if u then going_on (replicate 40 0) (High 0) else going_on (replicate 40 0) (Data 0 (b - 5)) else wrong_now).receiver
    go true e true = anew l _ refl
    go true e false = let r = range_of b e in anew l _ (lt-ltb (0 + (b - 5)) 40 (omega arith))
    go false e u = anew l _ refl
taken_keeps l (Data have more) b h = go (eqb more 0) refl
  where
    few : have + more < 40
    few = ltb-true (have + more) 40 h

    go : (t : Bool) → eqb more 0 ≡ t
        → Keeps l (if t then going_on (set l have b) (High (have + 1)) else going_on (set l have b) (Data (have + 1) (more - 1))).receiver
    go true e = record { part = le-leb (have + 1) 40 (omega (arith, few)); places = λ n. length-set l have b ∙ n }
    go false e =
        let n : more ≡ 0 → ⊥ = λ z. false_true (sym e ∙ ap (λ (x : ℕ). eqb x 0) z) in
        record { part = lt-ltb (have + 1 + (more - 1)) 40 (omega (arith, few)); places = λ n. length-set l have b ∙ n }
taken_keeps l (High n) b h = record { part = h; places = λ k. k }
taken_keeps l (Low n high) b h = go (is_check (take n l) high b)
  where
    go : (t : Bool) → Keeps l (if t then going_on l (End n) else wrong_now).receiver
    go true = record { part = h; places = λ k. k }
    go false = anew l _ refl
taken_keeps l (End n) b h = go (eqb b etx)
  where
    go : (t : Bool)
        → Keeps l
        (if◌then◌else◌ {A = Arrived} t (record { receiver = record { bytes = l; part = None }; outcome = Good n }) wrong_now).receiver
    go true = record { part = refl; places = λ k. k }
    go false = anew l _ refl

byte_keeps : (r : Receiver) (p : Option Part) (b : ℕ) → r.part ≡ p → sound_receiver r ≡ true → Keeps r.bytes (after_in r p b).receiver
unfolding begun_by sound_receiver
byte_keeps r None b e h = go (eqb b stx)
  where
    go : (t : Bool)
        → Keeps r.bytes
        (if◌then◌else◌ {A = Arrived} t (going_on (replicate 40 0) Length) (record { receiver = r; outcome = Nothing })).receiver
    go true = anew r.bytes _ refl
    go false = record { part = h; places = λ n. n }
byte_keeps r (Some p) b e h = taken_keeps r.bytes p.stage b (stage_sound r p h e)

pub byte_tested : (r : Receiver) (b : ℕ) → sound_receiver r ≡ true → sound_receiver (after_byte r b).receiver ≡ true
unfolding after_byte sound_receiver
byte_tested r b h = (byte_keeps r r.part b refl h).part

pub byte_places :
    (r : Receiver) (b : ℕ) → sound_receiver r ≡ true → length r.bytes ≡ 40 → length (after_byte r b).receiver.bytes ≡ 40
unfolding after_byte
byte_places r b h = (byte_keeps r r.part b refl h).places

-- ---- ticks
tick_keeps : (r : Receiver) (p : Option Part) → r.part ≡ p → sound_receiver r ≡ true → Keeps r.bytes (tick_in r p)
unfolding sound_receiver
tick_keeps r None e h = record { part = h; places = λ n. n }
tick_keeps r (Some p) e h = go (ltb (p.quiet + 1) 500) refl
  where
    go : (t : Bool) → ltb (p.quiet + 1) 500 ≡ t
        → Keeps r.bytes (if t then waiting r.bytes p.stage (p.quiet + 1) else outside_receiver)
    go true k = record { part = and_both _ _ k (stage_sound r p h e); places = λ n. n }
    go false k = anew r.bytes _ refl

pub tick_tested : (r : Receiver) → sound_receiver r ≡ true → sound_receiver (tick r) ≡ true
unfolding tick sound_receiver
tick_tested r h = (tick_keeps r r.part refl h).part

pub tick_places : (r : Receiver) → sound_receiver r ≡ true → length r.bytes ≡ 40 → length (tick r).bytes ≡ 40
unfolding tick
tick_places r h = (tick_keeps r r.part refl h).places

-- the last of several ticks
pub ticks_last : (n : ℕ) (r : Receiver) → ticks (suc n) r ≡ tick (ticks n r)
unfolding ticks
ticks_last zero r = refl
ticks_last (suc n) r = ticks_last n (tick r)

-- ---- what is told of a packet's end: wrong, and nothing is left of it; good, with at most forty data, and what follows is outside
abbrev Ended : Receiver → Outcome → Type 0
Ended r Nothing = Unit {0}
Ended r Wrong = r ≡ outside_receiver
Ended r (Good n) = (n ≤ 40) × (r.part ≡ None)

abbrev Ends : Arrived → Type 0
Ends a = Ended a.receiver a.outcome

taken_ends : (l : List ℕ) (g : Stage) (b : ℕ) → sound_stage g ≡ true → Ends (taken_by l g b)
unfolding length_taken data_taken low_taken end_taken
taken_ends l Length b h = go (is_length b) (eqb b 4)
  where
    go : (t u : Bool)
        → Ends (if t then if u then going_on (replicate 40 0) (High 0) else going_on (replicate 40 0) (Data 0 (b - 5)) else wrong_now)
    go true true = tt
    go true false = tt
    go false u = refl
taken_ends l (Data have more) b h = go (eqb more 0)
  where
    go : (t : Bool) → Ends (if t then going_on (set l have b) (High (have + 1)) else going_on (set l have b) (Data (have + 1) (more - 1)))
    go true = tt
    go false = tt
taken_ends l (High n) b h = tt
taken_ends l (Low n high) b h = go (is_check (take n l) high b)
  where
    go : (t : Bool) → Ends (if t then going_on l (End n) else wrong_now)
    go true = tt
    go false = refl
taken_ends l (End n) b h = go (eqb b etx)
  where
    go : (t : Bool) → Ends (if t then record { receiver = record { bytes = l; part = None }; outcome = Good n } else wrong_now)
    go true = (leb-true n 40 h, refl)
    go false = refl

byte_ends : (r : Receiver) (p : Option Part) (b : ℕ) → r.part ≡ p → sound_receiver r ≡ true → Ends (after_in r p b)
unfolding begun_by
byte_ends r None b e h = go (eqb b stx)
  where
    go : (t : Bool) → Ends (if t then going_on (replicate 40 0) Length else record { receiver = r; outcome = Nothing })
    go true = tt
    go false = tt
byte_ends r (Some p) b e h = taken_ends r.bytes p.stage b (stage_sound r p h e)

told_end : (r : Receiver) (b : ℕ) (o : Outcome) → sound_receiver r ≡ true → (after_byte r b).outcome ≡ o → Ended (after_byte r b).receiver o
unfolding after_byte
told_end r b o h e = subst (Ended (after_byte r b).receiver) e (byte_ends r r.part b refl h)

pub wrong_fresh :
    (r : Receiver) (b : ℕ) → sound_receiver r ≡ true → (after_byte r b).outcome ≡ Wrong → (after_byte r b).receiver ≡ outside_receiver
wrong_fresh r b h e = told_end r b Wrong h e

pub good_few : (r : Receiver) (b n : ℕ) → sound_receiver r ≡ true → (after_byte r b).outcome ≡ Good n → n ≤ 40
good_few r b n h e = (told_end r b (Good n) h e).0

pub good_outside :
    (r : Receiver) (b n : ℕ) → sound_receiver r ≡ true → (after_byte r b).outcome ≡ Good n → (after_byte r b).receiver.part ≡ None
good_outside r b n h e = (told_end r b (Good n) h e).1
