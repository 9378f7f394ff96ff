-- What the link is worth, of every history of bytes and ticks.
-- The mode and the limit: bytes and ticks change neither.
--     ticks_safe, ticks_limit, after_safe, after_limit; ticks_basic, after_basic: in Basic mode nothing changes at all
-- The time limit:
--     ticks_left_lem            each tick takes one from what is left, down to 0
--     alarm_due             after SAF n alarm T comes with the 1,000 n-th tick, and with no other
--     alarm_after_good      so it does after a good packet; good_restarts
--     wrong_keeps           `?COM` restarts nothing, nor does a byte that tells nothing
-- Bytes:
--     outside_ignored       outside a packet every byte but STX leaves the link as it was
--     good_safe, good_few   a good packet comes in Safe mode alone, and has at most forty data
--     good_cleared          with its data read, the link is as SAF n left it; wrong_fresh: of a wrong one nothing is left
-- Assumes nothing.
use Rattle.std.specs.Prelude.{Option, None, Some}
use Prim.Native.Nat.{ℕ, zero, suc, ◌+◌, ◌-◌, ◌*◌, ◌≤◌, ◌<◌}
use mathlib.Core.Path.{◌≡◌, refl, sym, ap, ap₂, subst, ◌∙◌}
use mathlib.Core.Logic.{◌↔◌}
use mathlib.Core.Bool.{true, false}
use native.Mathlib.Nat.{add-zero, add-suc}
use native.Mathlib.Omega.{arith}
use lib.Dec.{eqb}
use lib.ListN.{replicate}
use borrow.Author.Tests.{eqb-true, eq-eqb}
use Rattle.packet.specs.Packets.{stx}
use Rattle.packet.specs.Receiver.{outside_receiver, after_byte}
use Rattle.packet.specs.declared.receiver.Part.{Part}
use Rattle.packet.specs.declared.receiver.Outcome.{Outcome}
use Rattle.packet.specs.declared.receiver.Outcome.TheVariants.{Nothing, Wrong, Good}
use Rattle.packet.specs.declared.receiver.Arrived.{Arrived}
use Rattle.packet.proofs.Theorems.{byte_ignored}
use Rattle.packet.proofs.Kept as receiver
use Rattle.link.specs.Link.{receiver_of, safe_link, limited_to, cleared_link, is_safe, safe_in}
use Rattle.link.specs.Link.{limit_of, limit_in, timer_left, left_in, ticks_left, fires}
use Rattle.link.specs.Link.{timer_after, heard_by, link_after, link_tick, link_ticks, is_sound_link}
use Rattle.link.specs.declared.Safety.{Safety}
use Rattle.link.specs.declared.Link.{Link}
use Rattle.link.specs.declared.Taken.{Taken}
use Rattle.link.proofs.Timers.{tick_left}
use Rattle.link.proofs.Modes.{as_safe, basic_after, basic_tick, basic_ticks, not_safe, safe_after, safe_tick}
use Rattle.link.proofs.Modes.{no_limit, some_limit, stands}

-- ---- Basic mode
pub ticks_basic : (n : ℕ) (l : Link) → is_safe l ≡ false → link_ticks n l ≡ l
ticks_basic n l h = basic_ticks n l (not_safe l h)

pub after_basic : (l : Link) (b : ℕ) → is_safe l ≡ false → link_after l b ≡ record { link = l; outcome = Nothing }
after_basic l b h = basic_after l b (not_safe l h)

-- ---- what one tick does to the mode, the limit and the timer
record Tick (l k : Link) : Type 0 where
  pub safe : is_safe k ≡ is_safe l
  pub limit : limit_of k ≡ limit_of l
  pub left : ticks_left k ≡ ticks_left l - 1

one_tick_in : (l : Link) (m : Option Safety) → l.safety ≡ m → Tick l (link_tick l)
unfolding is_safe limit_of ticks_left
one_tick_in l None e =
    let k = basic_tick l e in
    record {
      safe = ap is_safe k;
      limit = ap limit_of k;
      left = ap ticks_left k ∙ ap left_in e ∙ sym (ap (λ (m : Option Safety). left_in m - 1) e);
    }
one_tick_in l (Some s) e =
    let k = safe_tick l s e in
    record {
      safe = ap is_safe k ∙ sym (ap safe_in e);
      limit = ap limit_of k ∙ sym (ap limit_in e);
      left = ap ticks_left k ∙ tick_left s.timer ∙ sym (ap (λ (m : Option Safety). left_in m - 1) e);
    }

one_tick_lem : (l : Link) → Tick l (link_tick l)
one_tick_lem l = one_tick_in l l.safety refl

pub ticks_safe : (n : ℕ) (l : Link) → is_safe (link_ticks n l) ≡ is_safe l
unfolding link_ticks
ticks_safe zero l = refl
ticks_safe (suc n) l = (one_tick_lem (link_ticks n l)).safe ∙ ticks_safe n l

pub ticks_limit : (n : ℕ) (l : Link) → limit_of (link_ticks n l) ≡ limit_of l
unfolding link_ticks
ticks_limit zero l = refl
ticks_limit (suc n) l = (one_tick_lem (link_ticks n l)).limit ∙ ticks_limit n l

pub ticks_left_lem : (n : ℕ) (l : Link) → ticks_left (link_ticks n l) ≡ ticks_left l - n
unfolding link_ticks
ticks_left_lem zero l = omega arith
ticks_left_lem (suc n) l = omega (arith, (one_tick_lem (link_ticks n l)).left, ticks_left_lem n l)

-- Ticks in one call or in two.
pub ticks_sum : (m n : ℕ) (l : Link) → link_ticks (m + n) l ≡ link_ticks n (link_ticks m l)
unfolding link_ticks
ticks_sum m zero l = ap (λ (k : ℕ). link_ticks k l) (add-zero m)
ticks_sum m (suc n) l = ap (λ (k : ℕ). link_ticks k l) (add-suc m n) ∙ ap link_tick (ticks_sum m n l)

-- ---- alarm T
pub not_fired_before : (n : ℕ) (l : Link) → n < ticks_left l → ticks_left (link_ticks n l) ≡ ticks_left l - n
not_fired_before n l h = ticks_left_lem n l

-- the tick behind k others is the alarm's exactly where k + 1 were left
pub fires_at : (k : ℕ) (l : Link) → (fires (link_ticks k l) ≡ true) ↔ (k + 1 ≡ ticks_left l)
unfolding fires
fires_at k l = (to, back)
  where
    to : eqb (ticks_left (link_ticks k l)) 1 ≡ true → k + 1 ≡ ticks_left l
    to h = omega (arith, eqb-true (ticks_left (link_ticks k l)) 1 h, ticks_left_lem k l)

    back : k + 1 ≡ ticks_left l → eqb (ticks_left (link_ticks k l)) 1 ≡ true
    back h = eq-eqb (ticks_left (link_ticks k l)) 1 (omega (arith, ticks_left_lem k l))

pub limited_left : (n : ℕ) → ticks_left (limited_to n) ≡ 1000 * n
unfolding ticks_left
limited_left zero = ap ticks_left (no_limit 0 refl)
limited_left (suc n) = ap ticks_left (some_limit (suc n) (λ z. omega arith))

-- "When n seconds pass after `SAF n`": with the 1,000 n-th tick, and not before.
pub alarm_due : (n k : ℕ) → (fires (link_ticks k (limited_to n)) ≡ true) ↔ (k + 1 ≡ 1000 * n)
alarm_due n k = subst (λ (t : ℕ). (fires (link_ticks k (limited_to n)) ≡ true) ↔ (k + 1 ≡ t)) (limited_left n) (fires_at k (limited_to n))

-- ---- what one byte does to the mode, the limit and the timer
abbrev left_after : ℕ → ℕ → Outcome → ℕ
left_after left limit Nothing = left
left_after left limit Wrong = left
left_after left limit (Good n) = 1000 * limit

record Byte (l : Link) (a : Taken) : Type 0 where
  pub safe : is_safe a.link ≡ is_safe l
  pub limit : limit_of a.link ≡ limit_of l
  pub left : ticks_left a.link ≡ left_after (ticks_left l) (limit_of l) a.outcome

timer_told : (s : Safety) (o : Outcome) → timer_left (timer_after s o) ≡ left_after (timer_left s.timer) s.limit o
timer_told s Nothing = refl
timer_told s Wrong = refl
timer_told s (Good n) = refl

one_byte_in : (l : Link) (b : ℕ) (m : Option Safety) → l.safety ≡ m → Byte l (link_after l b)
unfolding is_safe limit_of ticks_left
one_byte_in l b None e = subst (Byte l) (sym (basic_after l b e)) (record { safe = refl; limit = refl; left = refl })
one_byte_in l b (Some s) e = subst (Byte l) (sym (safe_after l s b e))
    (record {
      safe = sym (ap safe_in e);
      limit = sym (ap limit_in e);
      left = timer_told s a.outcome ∙ sym (ap (λ (m : Option Safety). left_after (left_in m) (limit_in m) a.outcome) e);
    })
  where
    a : Arrived
    a = after_byte (receiver_of l.bytes s.part) b

one_byte : (l : Link) (b : ℕ) → Byte l (link_after l b)
one_byte l b = one_byte_in l b l.safety refl

pub after_safe : (l : Link) (b : ℕ) → is_safe (link_after l b).link ≡ is_safe l
after_safe l b = (one_byte l b).safe

pub after_limit : (l : Link) (b : ℕ) → limit_of (link_after l b).link ≡ limit_of l
after_limit l b = (one_byte l b).limit

-- A good packet, whatever its address and its command, restarts the timer.
pub good_restarts : (l : Link) (b n : ℕ) → (link_after l b).outcome ≡ Good n → ticks_left (link_after l b).link ≡ 1000 * limit_of l
good_restarts l b n h = (one_byte l b).left ∙ ap (left_after (ticks_left l) (limit_of l)) h

-- `?COM` restarts nothing.
pub wrong_keeps : (l : Link) (b : ℕ) → (link_after l b).outcome ≡ Wrong → ticks_left (link_after l b).link ≡ ticks_left l
wrong_keeps l b h = (one_byte l b).left ∙ ap (left_after (ticks_left l) (limit_of l)) h

pub nothing_keeps : (l : Link) (b : ℕ) → (link_after l b).outcome ≡ Nothing → ticks_left (link_after l b).link ≡ ticks_left l
nothing_keeps l b h = (one_byte l b).left ∙ ap (left_after (ticks_left l) (limit_of l)) h

-- "or the last good packet": with the 1,000 n-th tick after it, n the limit, and not before.
pub alarm_after_good :
    (l : Link) (b n k : ℕ) → (link_after l b).outcome ≡ Good n
    → (fires (link_ticks k (link_after l b).link) ≡ true) ↔ (k + 1 ≡ 1000 * limit_of l)
alarm_after_good l b n k h =
    subst (λ (t : ℕ). (fires (link_ticks k (link_after l b).link) ≡ true) ↔ (k + 1 ≡ t)) (good_restarts l b n h)
    (fires_at k (link_after l b).link)

-- "bytes outside a packet are ignored until the next STX"
pub outside_ignored :
    (l : Link) (s : Safety) (b : ℕ) → l.safety ≡ Some s → s.part ≡ None → (b ≡ stx → ⊥)
    → link_after l b ≡ record { link = l; outcome = Nothing }
outside_ignored l s b e o n =
    safe_after l s b e ∙ ap (heard_by s) (byte_ignored (receiver_of l.bytes s.part) b o n)
    ∙ ap (λ (k : Link). told k) (sym (as_safe l s e))
  where
    told : Link → Taken
    told k = record { link = k; outcome = Nothing }

-- ---- a packet's end
outcome_of_lem :
    {o : Outcome} (l : Link) (s : Safety) (b : ℕ) → l.safety ≡ Some s → (link_after l b).outcome ≡ o
    → (after_byte (receiver_of l.bytes s.part) b).outcome ≡ o
outcome_of_lem l s b e h = sym (ap (λ (a : Taken). a.outcome) (safe_after l s b e)) ∙ h

no_good : {A : Type 0} {n : ℕ} → Nothing ≡ Good n → A
no_good {A} {n} e = subst (λ (o : Outcome). IsGood o) (sym e) tt
  where
    IsGood : Outcome → Type 0
    IsGood Nothing = A
    IsGood Wrong = A
    IsGood (Good n) = Unit {0}

-- Only in Safe mode is there a packet,
pub good_safe : (l : Link) (b n : ℕ) → (link_after l b).outcome ≡ Good n → is_safe l ≡ true
unfolding is_safe
good_safe l b n h = go l.safety refl
  where
    go : (m : Option Safety) → l.safety ≡ m → safe_in m ≡ true
    go None e = no_good (sym (ap (λ (a : Taken). a.outcome) (basic_after l b e)) ∙ h)
    go (Some s) e = refl

-- a good one has at most forty data,
pub good_few : (l : Link) (b n : ℕ) → is_sound_link l ≡ true → (link_after l b).outcome ≡ Good n → n ≤ 40
good_few l b n w h = go l.safety refl
  where
    go : (m : Option Safety) → l.safety ≡ m → n ≤ 40
    go None e = no_good (sym (ap (λ (a : Taken). a.outcome) (basic_after l b e)) ∙ h)
    go (Some s) e = receiver.good_few (receiver_of l.bytes s.part) b n (stands l s w e).received (outcome_of_lem l s b e h)

-- and once they are read the link is as `SAF n` left it, n the limit.
pub good_cleared :
    (l : Link) (b n : ℕ) → is_sound_link l ≡ true → (link_after l b).outcome ≡ Good n
    → cleared_link (link_after l b).link ≡ limited_to (limit_of l)
unfolding limit_of
good_cleared l b n w h = go l.safety refl
  where
    go : (m : Option Safety) → l.safety ≡ m → cleared_link (link_after l b).link ≡ limited_to (limit_in m)
    go None e = no_good (sym (ap (λ (a : Taken). a.outcome) (basic_after l b e)) ∙ h)
    go (Some s) e =
        let r = receiver_of l.bytes s.part in
        let k : (after_byte r b).outcome ≡ Good n = outcome_of_lem l s b e h in
        let z : s.limit ≡ 0 → ⊥ = λ z. omega (arith, (stands l s w e).limited) in
        ap (λ (a : Taken). cleared_link a.link) (safe_after l s b e)
        ∙ ap₂ (λ (t : Option ℕ) (p : Option Part). safe_link s.limit t (receiver_of (replicate 40 0) p)) (ap (timer_after s) k)
        (receiver.good_outside r b n (stands l s w e).received k)
        ∙ sym (some_limit s.limit z)

-- Of a wrong one nothing is left.
pub wrong_fresh :
    (l : Link) (s : Safety) (b : ℕ) → l.safety ≡ Some s → is_sound_link l ≡ true → (link_after l b).outcome ≡ Wrong
    → (link_after l b).link ≡ safe_link s.limit s.timer outside_receiver
wrong_fresh l s b e w h =
    let r = receiver_of l.bytes s.part in
    let k : (after_byte r b).outcome ≡ Wrong = outcome_of_lem l s b e h in
    ap (λ (a : Taken). a.link) (safe_after l s b e)
    ∙ ap₂ (safe_link s.limit) (ap (timer_after s) k) (receiver.wrong_fresh r b (stands l s w e).received k)

-- ---- its data read
pub cleared_safe : (l : Link) → is_safe (cleared_link l) ≡ is_safe l
unfolding is_safe
cleared_safe l = refl

pub cleared_limit : (l : Link) → limit_of (cleared_link l) ≡ limit_of l
unfolding limit_of
cleared_limit l = refl

pub cleared_left : (l : Link) → ticks_left (cleared_link l) ≡ ticks_left l
unfolding ticks_left
cleared_left l = refl
