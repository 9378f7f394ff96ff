-- What the test of soundness says of the link: a limit, a timer, a part packet, and no line begun in Safe mode.
-- Assumes nothing.
use Rattle.std.specs.Prelude.{ℕ, Option, None, Some}
use mathlib.Core.Path.{◌≡◌, refl, sym, ap, ◌∙◌}
use mathlib.Core.Bool.{Bool, true, false, ◌||◌, not}
use lib.Dec.{eqb}
use borrow.Author.Tests.{eqb-true, eq-eqb}
use Rattle.packet.proofs.Theorems.{sound_iff}
use Rattle.link.specs.Link.{receiver_of, safe_in, is_safe, left_in, ticks_left, is_sound_timer, is_sound_in, is_sound_link, link_tick, link_ticks}
use Rattle.link.specs.declared.Link.{Link}
use Rattle.link.specs.declared.Safety.{Safety}
use Rattle.link.proofs.Modes.{stands, as_safe, tested, not_safe}
use Rattle.link.proofs.Theorems.{ticks_safe}
use Rattle.link.proofs.Timers.{some_left, few_left, sound_left}
use Rattle.pump.specs.Device.{is_line_apart}
use Rattle.pump.specs.declared.device.Device.{Device}
use Rattle.statement.specs.Facts.{SafeFacts}

-- ---- from the test to the facts
pub safe_mode : (l : Link) (s : Safety) → l.safety ≡ Some s → is_safe l ≡ true
unfolding is_safe
safe_mode l s e = ap safe_in e

pub line_rests : (v : Device) → is_line_apart v ≡ true → is_safe v.link ≡ true → v.line.len ≡ 0
line_rests v e k = eqb-true v.line.len 0 (ap (λ (t : Bool). not t || eqb v.line.len 0) (sym k) ∙ e)

pub safe_facts :
    (v : Device) (s : Safety) → is_sound_link v.link ≡ true → is_line_apart v ≡ true → v.link.safety ≡ Some s → SafeFacts v s
safe_facts v s e apart k =
    let w = stands v.link s e k in
    record {
      limited = w.limited;
      timed = λ t h. let timer = sym (ap (is_sound_timer s.limit) h) ∙ w.timed in (some_left s.limit t timer, few_left s.limit t timer);
      part = (sound_iff (receiver_of v.link.bytes s.part)).0 w.received;
      no_line = line_rests v apart (safe_mode v.link s k);
    }

-- ---- and back
module _ (v : Device) (facts : (s : Safety) → v.link.safety ≡ Some s → SafeFacts v s) where
  timer_test : (s : Safety) → v.link.safety ≡ Some s → (t : Option ℕ) → s.timer ≡ t → is_sound_timer s.limit t ≡ true
  timer_test s k None h = refl
  timer_test s k (Some t) h = let w = (facts s k).timed t h in sound_left s.limit t w.0 w.1

  basic_test : v.link.safety ≡ None → is_sound_link v.link ≡ true
  unfolding is_sound_link
  basic_test k = ap (is_sound_in v.link.bytes) k

  pub link_test : is_sound_link v.link ≡ true
  link_test = go v.link.safety refl
    where
      go : (m : Option Safety) → v.link.safety ≡ m → is_sound_link v.link ≡ true
      go None k = basic_test k
      go (Some s) k =
          ap is_sound_link (as_safe v.link s k)
          ∙ tested s.limit s.timer (receiver_of v.link.bytes s.part) (facts s k).limited (timer_test s k s.timer refl)
          ((sound_iff (receiver_of v.link.bytes s.part)).1 (facts s k).part)

  pub apart_test : is_line_apart v ≡ true
  unfolding is_safe
  apart_test = go v.link.safety refl
    where
      go : (m : Option Safety) → v.link.safety ≡ m → (not (safe_in v.link.safety) || eqb v.line.len 0) ≡ true
      go None k = ap (λ (m : Option Safety). not (safe_in m) || eqb v.line.len 0) k
      go (Some s) k = ap (λ (m : Option Safety). not (safe_in m) || eqb v.line.len 0) k ∙ eq-eqb v.line.len 0 (facts s k).no_line

-- ---- a line that is empty stands apart in either mode
pub empty_apart : (v : Device) → v.line.len ≡ 0 → is_line_apart v ≡ true
empty_apart v e = go (is_safe v.link)
  where
    go : (t : Bool) → (not t || eqb v.line.len 0) ≡ true
    go true = eq-eqb v.line.len 0 e
    go false = refl

-- ---- no timer runs in Basic mode
pub no_timer : (l : Link) → is_safe l ≡ false → ticks_left l ≡ 0
unfolding ticks_left
no_timer l e = ap left_in (not_safe l e)

-- ---- one tick keeps the mode
pub tick_safe : (l : Link) → is_safe (link_tick l) ≡ is_safe l
unfolding link_ticks
tick_safe l = ticks_safe 1 l
