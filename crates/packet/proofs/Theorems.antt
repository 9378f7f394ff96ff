-- What packets, receiver and sender are together. A stream's meaning is `reading` (specs/Streams.antt), a receiver's answers to its bytes
-- are `answers` (specs/Follows.antt). `Sound` is kept by every call:
--     fresh_sound, bytes_sound, quiet_sound, and sound_iff: what the test says
-- The receiver follows the stream, whatever comes:
--     follows_stream        its answers are the stream's meaning, and it stands where the stream leads
-- What a stream means:
--     good_packet           a packet gives its data at its last byte and nothing before
--     ignored               bytes outside a packet, none of them STX, tell nothing and change nothing
--     byte_ignored, unchanged    the receiver's words for it
--     wrong_length, wrong_check, wrong_etx
--     damaged               a packet damaged behind its length, in a way that the check finds, is wrong at its second check byte
--     damaged_whole         the same with its ETX: one wrong and nothing more; damaged_never_good
--     good_only             a stream that tells of a good packet holds it; good_at_its_end: it is told at the packet's last byte
-- Quiet:
--     follows_timed         bytes with pauses between them: the receiver's answers are the timed stream's meaning
--     quiet_499, quiet_500, quiet_sum
-- Both ends:
--     round_trip            what the sender writes, the receiver takes
-- Assumes nothing.
use Rattle.std.specs.Prelude.{Option, None}
use Prim.Native.Nat.{ℕ, zero, suc, ◌+◌, ◌≤◌}
use mathlib.Core.Path.{◌≡◌, refl, sym, ap, ap₂, subst, ◌∙◌}
use mathlib.Core.Logic.{◌↔◌, ◌⊎◌, inl, inr, ⊎_elim}
use mathlib.Core.Bool.{true, false}
use mathlib.Core.List.{List, [], ◌∷◌, ◌++◌, append_assoc}
use native.Mathlib.Omega.{arith}
use lib.ListN.{length, take, drop, replicate, length-take}
use lib.Seq.{drop_at, take_at}
use borrow.Author.Tests.{ne_eqb}
use Rattle.base.specs.Wrote.{Wrote}
use Rattle.crc.specs.Noise.{Bytes}
use Rattle.packet.specs.Packets.{stx, etx, check_bytes, packet_of, Heard, nothing, wrong, good, is_length, is_check}
use Rattle.packet.specs.Streams.{Standing, outside, told, next, reading, ended, Leads, NoStx, Among, HoldsPacket}
use Rattle.packet.specs.Receiver.{outside_receiver, begun_by, after_in, after_byte, sound_receiver, ticks}
use Rattle.packet.specs.Follows.{standing, standing_in, answers, after_all, Sound, Answers, PlaceFact}
use Rattle.packet.specs.Noise.{Noise}
use Rattle.packet.specs.Timed.{paused, timed, timed_answers, Fresh}
use Rattle.packet.specs.declared.receiver.Part.{Part}
use Rattle.packet.specs.declared.receiver.Receiver.{Receiver}
use Rattle.packet.specs.declared.receiver.Outcome.TheVariants.{Nothing}
use Rattle.packet.specs.declared.receiver.Arrived.{Arrived}
use Rattle.packet.proofs.Judging.{nothing_good, wrong_good}
use Rattle.packet.proofs.Following.{outside_sound, follows, stands, all_sound, byte_right}
use Rattle.packet.proofs.Leading.{leads_then, packet_comes, length_wrong, check_wrong, etx_wrong}
use Rattle.packet.proofs.Damage.{damage_told}
use Rattle.packet.proofs.Holding.{good_held, told_at_end}
use Rattle.packet.proofs.Waiting.{facts_of, test_of, ticks_sound, ticks_sum, byte_fresh, kept_waiting, dropped_late, stands_paused}

-- ---- soundness
pub fresh_sound : Sound outside_receiver
fresh_sound = outside_sound

pub bytes_sound : (bs : List ℕ) (r : Receiver) → Sound r → Sound (after_all r bs)
bytes_sound = all_sound

pub quiet_sound : (n : ℕ) (r : Receiver) → Sound r → Sound (ticks n r)
quiet_sound = ticks_sound

pub sound_iff : (r : Receiver) → (sound_receiver r ≡ true) ↔ PlaceFact r.part
sound_iff r = (facts_of r, test_of r)

-- ---- the receiver follows the stream
pub follows_stream : (r : Receiver) (bs : List ℕ) → Sound r → Leads (standing r) bs (answers r bs) (standing (after_all r bs))
follows_stream r bs s = record { reads = sym (follows bs r s); ends = sym (stands bs r s) }

-- from outside a packet
pub from_outside :
    {bs : List ℕ} {hs : List Heard} {q : Standing} (r : Receiver) → Sound r → r.part ≡ None → Leads outside bs hs q → Answers r bs hs q
from_outside {bs} r s e w =
    let o : standing r ≡ outside = ap (standing_in r.bytes) e in
    record {
      says = follows bs r s ∙ ap (λ (p : Standing). reading p bs) o ∙ w.reads;
      stays = stands bs r s ∙ ap (λ (p : Standing). ended p bs) o ∙ w.ends;
      sound = all_sound bs r s;
    }

-- ---- what a stream means
pub good_packet : (d : List ℕ) → length d ≤ 40 → Leads outside (packet_of d) (replicate (length d + 4) nothing ++ (good d ∷ [])) outside
good_packet = packet_comes

pub wrong_length : (n : ℕ) → is_length n ≡ false → Leads outside (stx ∷ n ∷ []) (nothing ∷ wrong ∷ []) outside
wrong_length = length_wrong

pub wrong_check :
    (d : List ℕ) (h l : ℕ)
    → length d ≤ 40
    → is_check d h l ≡ false
    → Leads outside (stx ∷ (length d + 4) ∷ (d ++ (h ∷ l ∷ []))) (replicate (length d + 3) nothing ++ (wrong ∷ [])) outside
wrong_check d h l n e = check_wrong d n h l e

pub wrong_etx :
    (d : List ℕ) (e : ℕ)
    → length d ≤ 40
    → (e ≡ etx → ⊥)
    → Leads outside (stx ∷ (length d + 4) ∷ (d ++ check_bytes d ++ (e ∷ []))) (replicate (length d + 4) nothing ++ (wrong ∷ [])) outside
wrong_etx d e n = etx_wrong d n e

pub ignored : (bs : List ℕ) → NoStx bs → Leads outside bs (replicate (length bs) nothing) outside
unfolding reading ended told next
ignored [] h = record { reads = refl; ends = refl }
ignored (b ∷ bs) h =
    let k : next outside b ≡ outside = simp (ne_eqb b stx h.0) in
    let w = ignored bs h.1 in
    record {
      reads = ap (λ (hs : List Heard). nothing ∷ hs) (ap (λ (p : Standing). reading p bs) k ∙ w.reads);
      ends = ap (λ (p : Standing). ended p bs) k ∙ w.ends;
    }

-- of the receiver: not a bit of it changes
pub byte_ignored :
    (r : Receiver) (b : ℕ) → r.part ≡ None → (b ≡ stx → ⊥) → after_byte r b ≡ record { receiver = r; outcome = Nothing }
unfolding after_byte begun_by
byte_ignored r b e n = ap (λ (p : Option Part). after_in r p b) e ∙ outer
  where
    outer : begun_by r b ≡ record { receiver = r; outcome = Nothing }
    outer = simp (ne_eqb b stx n)

same_byte : (r : Receiver) (b : ℕ) → r.part ≡ None → (b ≡ stx → ⊥) → (after_byte r b).receiver ≡ r
same_byte r b e n = ap (λ (a : Arrived). a.receiver) (byte_ignored r b e n)

pub unchanged : (bs : List ℕ) (r : Receiver) → r.part ≡ None → NoStx bs → after_all r bs ≡ r
unfolding after_all
unchanged [] r e h = refl
unchanged (b ∷ bs) r e h = ap (λ (x : Receiver). after_all x bs) (same_byte r b e h.0) ∙ unchanged bs r e h.1

-- The data and their check come damaged behind a length that is whole, and are wrong at the second check byte; what follows is outside.
pub damaged :
    (d t : List ℕ)
    → length d ≤ 40
    → Bytes d
    → Bytes t
    → length t ≡ length (d ++ check_bytes d)
    → Noise (d ++ check_bytes d) t
    → (d ++ check_bytes d ≡ t → ⊥)
    → Leads outside (stx ∷ (length d + 4) ∷ t) (replicate (length d + 3) nothing ++ (wrong ∷ [])) outside
damaged = damage_told

-- With its ETX behind it: one wrong, and nothing more.
pub damaged_whole :
    (d t : List ℕ)
    → length d ≤ 40
    → Bytes d
    → Bytes t
    → length t ≡ length (d ++ check_bytes d)
    → Noise (d ++ check_bytes d) t
    → (d ++ check_bytes d ≡ t → ⊥)
    → Leads outside (stx ∷ (length d + 4) ∷ (t ++ (etx ∷ []))) (replicate (length d + 3) nothing ++ (wrong ∷ []) ++ (nothing ∷ [])) outside
damaged_whole d t h b c n w differs =
    leads_then (damage_told d t h b c n w differs) (ignored (etx ∷ []) (three_not_two, tt))
  where
    three_not_two : etx ≡ stx → ⊥
    three_not_two e = omega arith

among_either : (h : Heard) (xs ys : List Heard) → Among h (xs ++ ys) → Among h xs ⊎ Among h ys
among_either h [] ys m = inr m
among_either h (x ∷ xs) ys (inl e) = inl (inl e)
among_either h (x ∷ xs) ys (inr m) = ⊎_elim (λ a. inl (inr a)) (λ b. inr b) (among_either h xs ys m)

silent : (k : ℕ) (e : List ℕ) → Among (good e) (replicate k nothing) → ⊥
silent zero e m = m
silent (suc k) e (inl p) = nothing_good p
silent (suc k) e (inr m) = silent k e m

pub damaged_never_good :
    (d t : List ℕ)
    → length d ≤ 40
    → Bytes d
    → Bytes t
    → length t ≡ length (d ++ check_bytes d)
    → Noise (d ++ check_bytes d) t
    → (d ++ check_bytes d ≡ t → ⊥)
    → (e : List ℕ)
    → Among (good e) (reading outside (stx ∷ (length d + 4) ∷ (t ++ (etx ∷ []))))
    → ⊥
damaged_never_good d t h b c n w differs e m =
    let k = replicate (length d + 3) nothing in
    ⊎_elim
    (λ a. ⊎_elim (silent (length d + 3) e) (λ y. ⊎_elim wrong_good (λ z. z) y) (among_either (good e) k (wrong ∷ []) a))
    (λ y. ⊎_elim nothing_good (λ z. z) y)
    (among_either (good e) (k ++ (wrong ∷ [])) (nothing ∷ []) (subst (Among (good e)) (damaged_whole d t h b c n w differs).reads m))

-- The receiver's words, from outside a packet.
pub receiver_good_packet :
    (r : Receiver) (d : List ℕ)
    → Sound r
    → r.part ≡ None
    → length d ≤ 40
    → Answers r (packet_of d) (replicate (length d + 4) nothing ++ (good d ∷ [])) outside
receiver_good_packet r d s e h = from_outside r s e (packet_comes d h)

pub receiver_damaged :
    (r : Receiver) (d t : List ℕ)
    → Sound r
    → r.part ≡ None
    → length d ≤ 40
    → Bytes d
    → Bytes t
    → length t ≡ length (d ++ check_bytes d)
    → Noise (d ++ check_bytes d) t
    → (d ++ check_bytes d ≡ t → ⊥)
    → Answers r (stx ∷ (length d + 4) ∷ t) (replicate (length d + 3) nothing ++ (wrong ∷ [])) outside
receiver_damaged r d t s e h b c n w differs = from_outside r s e (damage_told d t h b c n w differs)

-- A stream that yields a good packet holds it.
pub good_only : (bs d : List ℕ) → Among (good d) (reading outside bs) → HoldsPacket bs d
good_only = good_held

-- The receiver's words: no list of bytes that holds no good packet yields one.
pub receiver_good_only : (r : Receiver) (bs d : List ℕ) → Sound r → r.part ≡ None → Among (good d) (answers r bs) → HoldsPacket bs d
receiver_good_only r bs d s e h =
    good_held bs d
    (subst (Among (good d)) (follows bs r s ∙ ap (λ (p : Option Part). reading (standing_in r.bytes p) bs) e) h)

-- It is told at the packet's last byte.
pub good_at_its_end : (bs : List ℕ) (b : ℕ) (d : List ℕ) → told (ended outside bs) b ≡ good d
    → (x : List ℕ) × ((length d ≤ 40) × (bs ++ (b ∷ []) ≡ x ++ packet_of d))
good_at_its_end = told_at_end

-- ---- quiet
-- Bytes with any pauses between them, from a receiver to which no tick has come since its last byte.
pub follows_timed : (ms : List (ℕ × ℕ)) (r : Receiver) → Sound r → Fresh r.part → timed_answers r ms ≡ timed (standing r) ms
unfolding timed_answers timed
follows_timed [] r s f = refl
follows_timed (m ∷ ms) r s f =
    let a = ticks m.0 r in
    let k : standing a ≡ paused m.0 (standing r) = stands_paused m.0 r s f in
    let w = byte_right a m.1 (ticks_sound m.0 r s) in
    ap₂ (λ (h : Heard) (hs : List Heard). h ∷ hs) (w.tells ∙ ap (λ (p : Standing). told p m.1) k)
    (follows_timed ms (after_byte a m.1).receiver w.sound (byte_fresh a m.1)
    ∙ ap (λ (p : Standing). timed p ms) (w.leads ∙ ap (λ (p : Standing). next p m.1) k))

-- Up to 499 ticks after a byte the rest of the packet is taken as if there had been none.
pub quiet_499 : (r : Receiver) (b n : ℕ) (bs : List ℕ) → Sound r → n ≤ 499
    → answers (ticks n (after_byte r b).receiver) bs ≡ answers (after_byte r b).receiver bs
quiet_499 r b n bs s h =
    let a = (after_byte r b).receiver in
    let k : Sound a = (byte_right r b s).sound in
    follows bs (ticks n a) (ticks_sound n a k)
    ∙ ap (λ (p : Standing). reading p bs) (kept_waiting n a k (byte_fresh r b) (omega arith))
    ∙ sym (follows bs a k)

-- 500 ticks after a byte nothing is left of a packet under way.
pub quiet_500 : (r : Receiver) (b n : ℕ) → Sound r → 500 ≤ n → (ticks n (after_byte r b).receiver).part ≡ None
quiet_500 r b n s h = dropped_late n (after_byte r b).receiver (byte_right r b s).sound (byte_fresh r b) h

-- Ticks in one call or in two.
pub quiet_sum : (m n : ℕ) (r : Receiver) → ticks (m + n) r ≡ ticks n (ticks m r)
quiet_sum = ticks_sum

-- ---- both ends
written : {l m : List ℕ} {i j : ℕ} {v : List ℕ} → Wrote l m i j v → take (length v) (drop i m) ≡ v
written {l} {m} {i} {j} {v} w =
    let p : length (take i l) ≡ i = length-take i l ∙ short in
    ap (λ (u : List ℕ). take (length v) (drop i u)) (w.holds ∙ append_assoc (take i l) v (drop j l))
    ∙ ap (take (length v)) (drop_at (take i l) (v ++ drop j l) i p)
    ∙ take_at v (drop j l) (length v) refl
  where
    short : Prim.Native.Nat.min i (length l) ≡ i
    short = omega (arith, w.ends, w.fits)

-- What the sender wrote from i on, sent byte by byte, is answered with its data at the last byte.
pub round_trip :
    {l m : List ℕ} {i j : ℕ} (d : List ℕ) (r : Receiver)
    → Wrote l m i j (packet_of d)
    → length d ≤ 40
    → Sound r
    → r.part ≡ None
    → Answers r (take (length (packet_of d)) (drop i m)) (replicate (length d + 4) nothing ++ (good d ∷ [])) outside
round_trip d r w h s e = subst (λ (u : List ℕ). Answers r u (replicate (length d + 4) nothing ++ (good d ∷ [])) outside) (sym (written w))
    (from_outside r s e (packet_comes d h))
