-- What the check is worth. It adds up as the bytes do; data that its check follows has the check 0, and no other two bytes bring it
-- there; and damage leaves it as it was neither within two neighbouring bytes, nor within sixteen neighbouring bits, nor at an odd number
-- of bits, nor at up to three bits of 4,095 bytes. A received list is good where its check is 0, as that of the one sent is: so the
-- theorems on damage, on two lists with one check, say that such damage is seen.
-- Assumes nothing.
use Prim.Native.Nat.{ℕ, zero, suc, ◌+◌, ◌*◌, ◌/◌, ◌%◌, ◌≤◌, ◌<◌}
use mathlib.Core.Path.{◌≡◌, refl, sym, ap, ap₂, ◌∙◌}
use mathlib.Core.Logic.{◌↔◌}
use mathlib.Core.Bool.{Bool}
use mathlib.Core.List.{List, [], ◌∷◌, ◌++◌}
use native.Mathlib.Nat.{mod-lt, div-add-mod'}
use native.Mathlib.Omega.{arith}
use lib.Dec.{lit<, lit≤}
use lib.ListN.{length}
use Rattle.crc.specs.Xor.{◌⊕◌}
use Rattle.crc.specs.Check.{after, bits_of, bits, check_of}
use Rattle.crc.specs.Noise.{damaged, turned, InRun, apart, Bytes}
use Rattle.crc.proofs.Xor as X
use Rattle.crc.proofs.Linear.{after_append, after_sum, bits_sum, length_bits, check_append}
use Rattle.crc.proofs.Runs.{after_small, after_back, runs_alike, turned_length}
use Rattle.crc.proofs.TwoBits.{two_set}
use Rattle.crc.proofs.Parity.{odd_set}
use Rattle.crc.proofs.Told.{bytes_back, check_small, ends_alike, closing, unturned, as_long, cancelled}

-- Linearity: the check of two equally long lists added is their checks added.
pub check_sum : (s t : List ℕ) → length s ≡ length t → check_of (damaged s t) ≡ check_of s ⊕ check_of t
unfolding check_of
check_sum s t h =
    ap (after 0) (bits_sum s t h) ∙ ap (λ (r : ℕ). after r (turned (bits s) (bits t))) (sym (X.zero_left 0))
    ∙ after_sum (bits s) (bits t) (as_long s t h) 0 0

-- One byte more, as a receiver has it.
pub check_one_more : (s : List ℕ) (b : ℕ) → after (check_of s) (bits_of b) ≡ check_of (s ++ b ∷ [])
unfolding bits after
check_one_more s b =
    sym (check_append s (b ∷ []) ∙ after_append (bits_of b) [] (check_of s))

-- The data with its check behind it, the high byte first, has the check 0.
pub sent_good : (s : List ℕ) → check_of (s ++ check_of s / 256 ∷ check_of s % 256 ∷ []) ≡ 0
sent_good s = check_append s (check_of s / 256 ∷ check_of s % 256 ∷ []) ∙ closing (check_of s) (check_small s)

-- Data and two bytes more have the check 0 exactly where these two are the data's check.
pub good_iff : (s : List ℕ) (h l : ℕ) → h < 256 → l < 256 → (check_of (s ++ h ∷ l ∷ []) ≡ 0) ↔ (h * 256 + l ≡ check_of s)
unfolding Bytes
good_iff s h l hs ls = (to, back)
  where
    to : check_of (s ++ h ∷ l ∷ []) ≡ 0 → h * 256 + l ≡ check_of s
    to e =
        let two : (h ∷ l ∷ []) ≡ (check_of s / 256 ∷ check_of s % 256 ∷ []) =
        ends_alike (h ∷ l ∷ []) (check_of s / 256 ∷ check_of s % 256 ∷ []) (check_of s) (hs, (ls, tt))
        (omega (arith, check_small s), (mod-lt (check_of s) (lit< tt), tt)) refl (lit≤ tt)
        (sym (check_append s (h ∷ l ∷ [])) ∙ e ∙ sym (closing (check_of s) (check_small s)))
        in
        let high : h ≡ check_of s / 256 = cc in
        let low : l ≡ check_of s % 256 = cc in
        ap₂ (λ (x y : ℕ). x * 256 + y) high low ∙ div-add-mod' (check_of s) 256

    back : h * 256 + l ≡ check_of s → check_of (s ++ h ∷ l ∷ []) ≡ 0
    back e =
        let high : check_of s / 256 ≡ h = omega arith in
        let low : check_of s % 256 ≡ l = omega arith in
        ap₂ (λ (x y : ℕ). check_of (s ++ x ∷ y ∷ [])) (sym high) (sym low) ∙ sent_good s

-- ---- damage

parted : (p m q : List ℕ) → check_of (p ++ m ++ q) ≡ after (after (check_of p) (bits m)) (bits q)
parted p m q = check_append (p ++ m) q ∙ ap (λ (r : ℕ). after r (bits q)) (check_append p m)

-- No damage within two neighbouring bytes, m sent and n received, leaves the check as it was.
pub pair_found : (p m n q : List ℕ) → Bytes m → Bytes n → length m ≡ length n → length m ≤ 2
    → check_of (p ++ m ++ q) ≡ check_of (p ++ n ++ q) → m ≡ n
pair_found p m n q h l e f g =
    ends_alike m n (check_of p) h l e f
    (after_back (bits q) (after (check_of p) (bits m)) (after (check_of p) (bits n)) (after_small (bits m) (check_of p) (check_small p))
    (after_small (bits n) (check_of p) (check_small p)) (sym (parted p m q) ∙ g ∙ parted p n q))

-- No damage within a run of up to sixteen bits leaves the check as it was.
pub run_found : (s t : List ℕ) → Bytes s → Bytes t → InRun 16 (bits s) (bits t) → check_of s ≡ check_of t → s ≡ t
unfolding check_of
run_found s t h l w e =
    bytes_back s t h l (w.of_sent ∙ ap (λ (u : List Bool). w.start ++ u ++ w.rest) same ∙ sym w.of_received)
  where
    parts : (u : List Bool) → after 0 (w.start ++ u ++ w.rest) ≡ after (after (after 0 w.start) u) w.rest
    parts u = after_append (w.start ++ u) w.rest 0 ∙ ap (λ (r : ℕ). after r w.rest) (after_append w.start u 0)

    small : (u : List Bool) → after (after 0 w.start) u < 65536
    small u = after_small u (after 0 w.start) (after_small w.start 0 (lit< tt))

    same : w.sent ≡ w.received
    same =
        runs_alike w.sent w.received (after 0 w.start) (sym w.as_long) w.short
        (after_back w.rest (after (after 0 w.start) w.sent) (after (after 0 w.start) w.received) (small w.sent)
        (small w.received)
        (sym (parts w.sent) ∙ ap (after 0) (sym w.of_sent) ∙ e ∙ ap (after 0) w.of_received ∙ parts w.received))

-- No odd number of turned bits leaves the check as it was, in data of any length.
pub odd_found : (s t : List ℕ) → length s ≡ length t → apart s t % 2 ≡ 1 → check_of s ≡ check_of t → ⊥
unfolding apart
odd_found s t h o e = odd_set (turned (bits s) (bits t)) o (cancelled s t h e)

-- No one, two or three turned bits leave the check as it was, anywhere in up to 4,095 bytes.
pub bits_found : (s t : List ℕ) → Bytes s → Bytes t → length s ≡ length t → length s ≤ 4095 → apart s t ≤ 3
    → check_of s ≡ check_of t → s ≡ t
unfolding apart
bits_found s t h l n m a e = go (apart s t) refl a
  where
    short : length (turned (bits s) (bits t)) ≤ 32767
    short = omega (arith, turned_length (bits s) (bits t) (as_long s t n), length_bits s)

    go : (k : ℕ) → apart s t ≡ k → k ≤ 3 → s ≡ t
    go zero o a = bytes_back s t h l (unturned (bits s) (bits t) (as_long s t n) o)
    go (suc zero) o a = absurd (odd_found s t n (ap (λ (k : ℕ). k % 2) o) e)
    go (suc (suc zero)) o a = absurd (two_set (turned (bits s) (bits t)) short o (cancelled s t n e))
    go (suc (suc (suc zero))) o a = absurd (odd_found s t n (ap (λ (k : ℕ). k % 2) o) e)
    go (suc (suc (suc (suc k)))) o a = absurd (omega arith)
