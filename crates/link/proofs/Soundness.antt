-- Soundness of the link: from either mode, every byte and every tick keeps it, and the forty places with it.
-- Assumes nothing.
use Rattle.std.specs.Prelude.{Option, None, Some}
use Prim.Native.Nat.{ℕ, zero, suc, ◌*◌, ◌≤◌}
use mathlib.Core.Path.{◌≡◌, refl, ap, ◌∙◌}
use mathlib.Core.Bool.{true}
use native.Mathlib.Omega.{arith}
use lib.ListN.{length, replicate}
use Rattle.packet.specs.Receiver.{outside_receiver, after_byte, tick, sound_receiver}
use Rattle.packet.specs.declared.receiver.Outcome.{Outcome}
use Rattle.packet.specs.declared.receiver.Outcome.TheVariants.{Nothing, Wrong, Good}
use Rattle.packet.proofs.Kept.{byte_tested, byte_places, tick_tested}
use Rattle.packet.proofs.Kept as receiver
use Rattle.packet.proofs.Theorems.{fresh_sound}
use Rattle.link.specs.Link.{receiver_of, basic_link, whole_limit, limited_to, cleared_link, timer_after}
use Rattle.link.specs.Link.{link_after, timer_tick, link_tick, link_ticks, is_sound_timer, is_sound_in, is_sound_link}
use Rattle.link.specs.declared.Safety.{Safety}
use Rattle.link.specs.declared.Link.{Link}
use Rattle.link.specs.declared.Taken.{Taken}
use Rattle.link.proofs.Timers.{sound_left, timer_sound}
use Rattle.link.proofs.Modes.{stands, tested, basic_after, basic_tick, safe_after, safe_tick, no_limit, some_limit}

-- ---- fresh ones
pub basic_sound : is_sound_link basic_link ≡ true
unfolding is_sound_link
basic_sound = refl

whole_sound : (n : ℕ) → 1 ≤ n → is_sound_timer n (whole_limit n) ≡ true
whole_sound n h = sound_left n (1000 * n) (omega arith) (omega arith)

pub limited_sound : (n : ℕ) → is_sound_link (limited_to n) ≡ true
limited_sound zero = ap is_sound_link (no_limit 0 refl) ∙ basic_sound
limited_sound (suc n) =
    ap is_sound_link (some_limit (suc n) (λ z. omega arith))
    ∙ tested (suc n) (whole_limit (suc n)) outside_receiver (omega arith) (whole_sound (suc n) (omega arith)) fresh_sound.tested

pub limited_places : (n : ℕ) → length (limited_to n).bytes ≡ 40
limited_places zero = ap (λ (l : Link). length l.bytes) (no_limit 0 refl)
limited_places (suc n) = ap (λ (l : Link). length l.bytes) (some_limit (suc n) (λ z. omega arith))

-- ---- a byte
after_timer : (s : Safety) (o : Outcome) → 1 ≤ s.limit → is_sound_timer s.limit s.timer ≡ true
    → is_sound_timer s.limit (timer_after s o) ≡ true
after_timer s Nothing h t = t
after_timer s Wrong h t = t
after_timer s (Good n) h t = whole_sound s.limit h

after_in_lem : (l : Link) (b : ℕ) (m : Option Safety) → l.safety ≡ m → is_sound_link l ≡ true → is_sound_link (link_after l b).link ≡ true
after_in_lem l b None e h = ap (λ (a : Taken). is_sound_link a.link) (basic_after l b e) ∙ h
after_in_lem l b (Some s) e h =
    let w = stands l s h e in
    let a = after_byte (receiver_of l.bytes s.part) b in
    ap (λ (x : Taken). is_sound_link x.link) (safe_after l s b e)
    ∙ tested s.limit (timer_after s a.outcome) a.receiver w.limited (after_timer s a.outcome w.limited w.timed)
    (byte_tested (receiver_of l.bytes s.part) b w.received)

pub after_sound : (l : Link) (b : ℕ) → is_sound_link l ≡ true → is_sound_link (link_after l b).link ≡ true
after_sound l b h = after_in_lem l b l.safety refl h

after_in_places :
    (l : Link) (b : ℕ) (m : Option Safety) → l.safety ≡ m → is_sound_link l ≡ true → length l.bytes ≡ 40
    → length (link_after l b).link.bytes ≡ 40
after_in_places l b None e h n = ap (λ (a : Taken). length a.link.bytes) (basic_after l b e) ∙ n
after_in_places l b (Some s) e h n =
    ap (λ (a : Taken). length a.link.bytes) (safe_after l s b e)
    ∙ byte_places (receiver_of l.bytes s.part) b (stands l s h e).received n

pub after_places :
    (l : Link) (b : ℕ) → is_sound_link l ≡ true → length l.bytes ≡ 40 → length (link_after l b).link.bytes ≡ 40
after_places l b h n = after_in_places l b l.safety refl h n

-- ---- its data read
pub cleared_sound : (l : Link) → is_sound_link l ≡ true → is_sound_link (cleared_link l) ≡ true
unfolding is_sound_link sound_receiver
cleared_sound l h = go l.safety h
  where
    go : (m : Option Safety) → is_sound_in l.bytes m ≡ true → is_sound_in (replicate 40 0) m ≡ true
    go None k = k
    go (Some s) k = k

pub cleared_places : (l : Link) → length (cleared_link l).bytes ≡ 40
cleared_places l = refl

-- ---- ticks
tick_in_lem : (l : Link) (m : Option Safety) → l.safety ≡ m → is_sound_link l ≡ true → is_sound_link (link_tick l) ≡ true
tick_in_lem l None e h = ap is_sound_link (basic_tick l e) ∙ h
tick_in_lem l (Some s) e h =
    let w = stands l s h e in
    ap is_sound_link (safe_tick l s e)
    ∙ tested s.limit (timer_tick s.timer) (tick (receiver_of l.bytes s.part)) w.limited
    (timer_sound s.limit s.timer w.timed) (tick_tested (receiver_of l.bytes s.part) w.received)

pub tick_sound : (l : Link) → is_sound_link l ≡ true → is_sound_link (link_tick l) ≡ true
tick_sound l h = tick_in_lem l l.safety refl h

pub ticks_sound : (n : ℕ) (l : Link) → is_sound_link l ≡ true → is_sound_link (link_ticks n l) ≡ true
unfolding link_ticks
ticks_sound zero l h = h
ticks_sound (suc n) l h = tick_sound (link_ticks n l) (ticks_sound n l h)

tick_in_places :
    (l : Link) (m : Option Safety) → l.safety ≡ m → is_sound_link l ≡ true → length l.bytes ≡ 40 → length (link_tick l).bytes ≡ 40
tick_in_places l None e h n = ap (λ (x : Link). length x.bytes) (basic_tick l e) ∙ n
tick_in_places l (Some s) e h n =
    ap (λ (x : Link). length x.bytes) (safe_tick l s e)
    ∙ receiver.tick_places (receiver_of l.bytes s.part) (stands l s h e).received n

pub tick_places : (l : Link) → is_sound_link l ≡ true → length l.bytes ≡ 40 → length (link_tick l).bytes ≡ 40
tick_places l h n = tick_in_places l l.safety refl h n

pub ticks_places : (n : ℕ) (l : Link) → is_sound_link l ≡ true → length l.bytes ≡ 40 → length (link_ticks n l).bytes ≡ 40
unfolding link_ticks
ticks_places zero l h k = k
ticks_places (suc n) l h k = tick_places (link_ticks n l) (ticks_sound n l h) (ticks_places n l h k)
