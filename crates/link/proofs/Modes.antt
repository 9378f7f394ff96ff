-- A link by its mode: what soundness says in Safe mode, and what a byte and any number of ticks make of the link in each mode.
-- Assumes nothing.
use Rattle.std.specs.Prelude.{Option, None, Some}
use Rattle.std.specs.Option.{is_some, option_map_or}
use Prim.Native.Nat.{ℕ, zero, suc, ◌≤◌}
use mathlib.Core.Path.{◌≡◌, refl, sym, ap, ◌∙◌}
use mathlib.Core.Bool.{Bool, true, false, ◌&&◌}
use mathlib.Core.List.{List}
use lib.Dec.{leb}
use borrow.Author.Tests.{leb-true, le-leb, eq-eqb, ne_eqb}
use Rattle.base.proofs.Choices.{and_left, and_right, false_true}
use Rattle.base.proofs.Each.{and_both}
use Rattle.packet.specs.Receiver.{outside_receiver, after_byte, tick, ticks, sound_receiver}
use Rattle.packet.specs.declared.receiver.Receiver.{Receiver}
use Rattle.packet.specs.declared.receiver.Outcome.TheVariants.{Nothing}
use Rattle.packet.proofs.Kept.{ticks_last}
use Rattle.link.specs.Link.{receiver_of, safe_link, basic_link, whole_limit, limited_to, is_safe, safe_in}
use Rattle.link.specs.Link.{limit_in, timer_left, left_in, heard_by, after_in, link_after}
use Rattle.link.specs.Link.{timer_tick, timer_ticks, tick_in, link_tick, link_ticks, is_sound_timer, is_sound_in, is_sound_link}
use Rattle.link.specs.declared.Safety.{Safety}
use Rattle.link.specs.declared.Link.{Link}

abbrev with_mode : List ℕ → Option Safety → Link
with_mode bytes m = record { bytes = bytes; safety = m }

pub some_safe : (m : Option Safety) → is_some m ≡ safe_in m
some_safe None = refl
some_safe (Some s) = refl

pub limit_is : (m : Option Safety) → option_map_or (λ (s : Safety). s.limit) m 0 ≡ limit_in m
limit_is None = refl
limit_is (Some s) = refl

timer_is : (t : Option ℕ) → option_map_or (λ (n : ℕ). n) t 0 ≡ timer_left t
timer_is None = refl
timer_is (Some t) = refl

pub left_is : (m : Option Safety) → option_map_or (λ (s : Safety). option_map_or (λ (n : ℕ). n) s.timer 0) m 0 ≡ left_in m
left_is None = refl
left_is (Some s) = timer_is s.timer

-- ---- Basic mode
basic_in : (m : Option Safety) → safe_in m ≡ false → m ≡ None
basic_in None e = refl
basic_in (Some s) e = false_true (sym e)

pub not_safe : (l : Link) → is_safe l ≡ false → l.safety ≡ None
unfolding is_safe
not_safe l e = basic_in l.safety e

pub basic_after : (l : Link) (b : ℕ) → l.safety ≡ None → link_after l b ≡ record { link = l; outcome = Nothing }
unfolding link_after
basic_after l b e = ap (λ (m : Option Safety). after_in l m b) e

pub basic_tick : (l : Link) → l.safety ≡ None → link_tick l ≡ l
unfolding link_tick
basic_tick l e = ap (tick_in l) e

pub basic_ticks : (n : ℕ) (l : Link) → l.safety ≡ None → link_ticks n l ≡ l
unfolding link_ticks
basic_ticks zero l e = refl
basic_ticks (suc n) l e = ap link_tick (basic_ticks n l e) ∙ basic_tick l e

-- ---- what SAF n leaves
pub no_limit : (n : ℕ) → n ≡ 0 → limited_to n ≡ basic_link
unfolding limited_to
no_limit n e = simp (eq-eqb n 0 e)

pub some_limit : (n : ℕ) → (n ≡ 0 → ⊥) → limited_to n ≡ safe_link n (whole_limit n) outside_receiver
unfolding limited_to
some_limit n e = simp (ne_eqb n 0 e)

-- ---- Safe mode
pub as_safe : (l : Link) (s : Safety) → l.safety ≡ Some s → l ≡ safe_link s.limit s.timer (receiver_of l.bytes s.part)
as_safe l s e = ap (with_mode l.bytes) e

pub safe_after :
    (l : Link) (s : Safety) (b : ℕ) → l.safety ≡ Some s
    → link_after l b ≡ heard_by s (after_byte (receiver_of l.bytes s.part) b)
unfolding link_after
safe_after l s b e = ap (λ (m : Option Safety). after_in l m b) e

pub safe_tick :
    (l : Link) (s : Safety) → l.safety ≡ Some s
    → link_tick l ≡ safe_link s.limit (timer_tick s.timer) (tick (receiver_of l.bytes s.part))
unfolding link_tick
safe_tick l s e = ap (tick_in l) e

-- limit, timer and receiver each for itself, at once
pub safe_ticks :
    (n : ℕ) (l : Link) (s : Safety) → l.safety ≡ Some s
    → link_ticks n l ≡ safe_link s.limit (timer_ticks n s.timer) (ticks n (receiver_of l.bytes s.part))
unfolding link_ticks link_tick timer_ticks ticks
safe_ticks zero l s e = as_safe l s e
safe_ticks (suc n) l s e =
    ap link_tick (safe_ticks n l s e)
    ∙ ap (safe_link s.limit (timer_tick (timer_ticks n s.timer))) (sym (ticks_last n (receiver_of l.bytes s.part)))

-- ---- what soundness says in Safe mode
pub record Stands (bytes : List ℕ) (s : Safety) : Type 0 where
  pub limited : 1 ≤ s.limit
  pub timed : is_sound_timer s.limit s.timer ≡ true
  pub received : sound_receiver (receiver_of bytes s.part) ≡ true

pub stands_in : (bytes : List ℕ) (s : Safety) → is_sound_in bytes (Some s) ≡ true → Stands bytes s
stands_in bytes s h =
    record {
      limited = leb-true 1 s.limit (and_left (leb 1 s.limit) timed (and_left (leb 1 s.limit && timed) received h));
      timed = and_right (leb 1 s.limit) timed (and_left (leb 1 s.limit && timed) received h);
      received = and_right (leb 1 s.limit && timed) received h;
    }
  where
    timed : Bool
    timed = is_sound_timer s.limit s.timer

    received : Bool
    received = sound_receiver (receiver_of bytes s.part)

pub stands : (l : Link) (s : Safety) → is_sound_link l ≡ true → l.safety ≡ Some s → Stands l.bytes s
unfolding is_sound_link
stands l s h e = stands_in l.bytes s (ap (is_sound_in l.bytes) (sym e) ∙ h)

pub tested :
    (n : ℕ) (t : Option ℕ) (r : Receiver) → 1 ≤ n → is_sound_timer n t ≡ true → sound_receiver r ≡ true → is_sound_link (safe_link n t r) ≡ true
unfolding is_sound_link
tested n t r h u v =
    and_both (leb 1 n && is_sound_timer n t) (sound_receiver r) (and_both (leb 1 n) (is_sound_timer n t) (le-leb 1 n h) u) v
