-- The table of refusals is that of the calls: what it refuses is refused with its number and leaves everything as it was; what it does
-- not refuse has a sound state and arguments in their ranges.
--     refused_down   a call that the table refuses is turned down, with the table's number
-- Assumes nothing.
use Rattle.std.specs.Prelude.{Option, Some}
use Prim.Native.Nat.{ℕ, ◌≤◌, ◌<◌}
use mathlib.Core.Path.{◌≡◌, refl, sym, ◌∙◌, subst}
use mathlib.Core.Logic.{inl, inr}
use mathlib.Core.Bool.{Bool, true, false, ◌||◌}
use mathlib.Core.List.{List, []}
use native.Mathlib.Omega.{arith}
use lib.Dec.{ltb, eqb}
use lib.ListN.{length}
use borrow.Author.Tests.{ltb-true, ltb-false, lt-ltb, le-ltb, eqb-true, ne_eqb}
use Rattle.base.proofs.Choices.{false_true}
use Rattle.pump.specs.Calls.{tick_call, tick_buffer, ticks_call, ticks_buffer, pin_call, byte_report, byte_buffer}
use Rattle.pump.specs.Holder.{is_sound_pump}
use Rattle.pump.specs.Reports.{refusal_number, is_pin, of_pin, of_byte, of_ticks}
use Rattle.pump.specs.Reports as reports
use Rattle.pump.specs.declared.holder.Pump.{Pump}
use Rattle.pump.specs.declared.reports.Refusal.{Refusal}
use Rattle.pump.specs.declared.reports.Refusal.TheVariants.{ShortBuffer, NoPin, NoLevel, Unsound, TooManyTicks}
use Rattle.statement.specs.Facts.{Sound}
use Rattle.statement.specs.Histories.{Call, byte_in, pin_at, tick_in, ticks_in, buffer_before}
use Rattle.statement.specs.Outcomes.{Outcome, outcome_of, Pin, TurnedDown}
use Rattle.statement.specs.Outcomes.{RefusedAs, not_sound, short_buffer, short_for_tick, short_for_ticks, no_such_pin, no_such_level, too_many}
use Rattle.statement.proofs.Soundness.{sound_facts, sound_test}

-- ---- tests that fail
unsound_test : (p : Pump) → (Sound p → ⊥) → is_sound_pump p ≡ false
unsound_test p n = go (is_sound_pump p) refl
  where
    go : (t : Bool) → is_sound_pump p ≡ t → t ≡ false
    go true e = absurd (n (sound_facts p e))
    go false e = refl

pub pin_test : (pin : ℕ) → Pin pin → is_pin pin ≡ true
pin_test pin (inl e) = rw e refl
pin_test pin (inr (inl e)) = rw e refl
pin_test pin (inr (inr e)) = rw e refl

no_pin_test : (pin : ℕ) → (Pin pin → ⊥) → is_pin pin ≡ false
no_pin_test pin n =
    simp (ne_eqb pin 2 (λ e. n (inl e)), ne_eqb pin 4 (λ e. n (inr (inl e))), ne_eqb pin 6 (λ e. n (inr (inr e))))

is_pin_lem : (pin : ℕ) → is_pin pin ≡ true → Pin pin
is_pin_lem pin h = go (eqb pin 2) (eqb pin 4) (eqb pin 6) refl refl refl h
  where
    go : (a b c : Bool) → eqb pin 2 ≡ a → eqb pin 4 ≡ b → eqb pin 6 ≡ c → (a || b || c) ≡ true → Pin pin
    go true b c e f g h = inl (eqb-true pin 2 e)
    go false true c e f g h = inr (inl (eqb-true pin 4 f))
    go false false true e f g h = inr (inr (eqb-true pin 6 g))
    go false false false e f g h = false_true h

-- ---- what a call hands back where it is refused
abbrev down : Pump → Option Refusal → List ℕ → Outcome
down p x before = record { report = reports.refused p x; buffer = before }

turned : (p : Pump) (x : Option Refusal) (before : List ℕ) → TurnedDown p (refusal_number x) before (down p x before)
turned p x before =
    record {
      number = refl;
      same_state = refl;
      none_infused = refl;
      none_withdrawn = refl;
      no_beep = refl;
      no_tick_lem = refl;
      no_answer = refl;
      same_level = refl;
      same_buffer = refl;
    }

module _ (p : Pump) where
  unsound_down : (call : Call) → is_sound_pump p ≡ false → outcome_of p call ≡ down p (Some Unsound) (buffer_before call)
  unfolding byte_report byte_buffer pin_call tick_call tick_buffer ticks_call ticks_buffer of_pin of_byte of_ticks
  unsound_down (byte_in b buffer) e = rw e refl
  unsound_down (pin_at pin level) e = rw e refl
  unsound_down (tick_in buffer) e = rw e refl
  unsound_down (ticks_in n buffer) e = rw e refl

  short_down :
      (b : ℕ) (buffer : List ℕ)
      → is_sound_pump p ≡ true
      → length buffer < 24
      → outcome_of p (byte_in b buffer) ≡ down p (Some ShortBuffer) buffer
  unfolding byte_report byte_buffer of_byte
  short_down b buffer e h = rw (e, lt-ltb (length buffer) 24 h) refl

  pin_down : (pin level : ℕ) → is_sound_pump p ≡ true → is_pin pin ≡ false → pin_call p pin level ≡ reports.refused p (Some NoPin)
  unfolding pin_call of_pin
  pin_down pin level e h = rw (e, h) refl

  level_down : (pin level : ℕ) → is_sound_pump p ≡ true → is_pin pin ≡ true → 1 < level → pin_call p pin level ≡ reports.refused p (Some NoLevel)
  unfolding pin_call of_pin
  level_down pin level e k h = rw (e, k, lt-ltb 1 level h) refl

  tick_down :
      (buffer : List ℕ) → is_sound_pump p ≡ true → length buffer < 24 → outcome_of p (tick_in buffer) ≡ down p (Some ShortBuffer) buffer
  unfolding tick_call tick_buffer of_byte
  tick_down buffer e h = rw (e, lt-ltb (length buffer) 24 h) refl

  ticks_down :
      (n : ℕ) (buffer : List ℕ) → is_sound_pump p ≡ true → length buffer < 24 → outcome_of p (ticks_in n buffer) ≡ down p (Some ShortBuffer) buffer
  unfolding ticks_call ticks_buffer of_ticks
  ticks_down n buffer e h = rw (e, lt-ltb (length buffer) 24 h) refl

  many_down :
      (n : ℕ) (buffer : List ℕ)
      → is_sound_pump p ≡ true
      → 24 ≤ length buffer
      → 1_000_000 < n
      → outcome_of p (ticks_in n buffer) ≡ down p (Some TooManyTicks) buffer
  unfolding ticks_call ticks_buffer of_ticks
  many_down n buffer e h k = rw (e, le-ltb (length buffer) 24 h, lt-ltb 1_000_000 n k) refl

pub refused_down : (p : Pump) (call : Call) (k : ℕ) → RefusedAs p call k → TurnedDown p k (buffer_before call) (outcome_of p call)
refused_down p call k (not_sound any n) =
    subst (TurnedDown p 4 (buffer_before any)) (sym (unsound_down p any (unsound_test p n))) (turned p (Some Unsound) (buffer_before any))
refused_down p call k (short_buffer b buffer s h) =
    subst (TurnedDown p 1 buffer) (sym (short_down p b buffer (sound_test p s) h)) (turned p (Some ShortBuffer) buffer)
refused_down p call k (no_such_pin pin level s n) =
    subst (λ r. TurnedDown p 2 [] (record { report = r; buffer = [] })) (sym (pin_down p pin level (sound_test p s) (no_pin_test pin n)))
    (turned p (Some NoPin) [])
refused_down p call k (no_such_level pin level s y h) =
    subst (λ r. TurnedDown p 3 [] (record { report = r; buffer = [] })) (sym (level_down p pin level (sound_test p s) (pin_test pin y) h))
    (turned p (Some NoLevel) [])
refused_down p call k (short_for_tick buffer s h) =
    subst (TurnedDown p 1 buffer) (sym (tick_down p buffer (sound_test p s) h)) (turned p (Some ShortBuffer) buffer)
refused_down p call k (short_for_ticks n buffer s h) =
    subst (TurnedDown p 1 buffer) (sym (ticks_down p n buffer (sound_test p s) h)) (turned p (Some ShortBuffer) buffer)
refused_down p call k (too_many n buffer s h m) =
    subst (TurnedDown p 5 buffer) (sym (many_down p n buffer (sound_test p s) h m)) (turned p (Some TooManyTicks) buffer)

pub refused_some : (p : Pump) (call : Call) (k : ℕ) → RefusedAs p call k → k ≡ 0 → ⊥
refused_some p call k (not_sound any n) e = omega arith
refused_some p call k (short_buffer b buffer s h) e = omega arith
refused_some p call k (no_such_pin pin level s n) e = omega arith
refused_some p call k (no_such_level pin level s y h) e = omega arith
refused_some p call k (short_for_tick buffer s h) e = omega arith
refused_some p call k (short_for_ticks n buffer s h) e = omega arith
refused_some p call k (too_many n buffer s h m) e = omega arith

-- ---- the table refuses a call, or the state is sound and the arguments are in their ranges
abbrev pub Fine : Call → Type 0
Fine (byte_in b buffer) = 24 ≤ length buffer
Fine (pin_at pin level) = Pin pin × (level ≤ 1)
Fine (tick_in buffer) = 24 ≤ length buffer
Fine (ticks_in n buffer) = (24 ≤ length buffer) × (n ≤ 1_000_000)

pub data Verdict (p : Pump) (call : Call) : Type 0 where
  turns_down : (k : ℕ) → RefusedAs p call k → Verdict p call
  takes : is_sound_pump p ≡ true → Fine call → Verdict p call

verdict_sound : (p : Pump) (call : Call) → is_sound_pump p ≡ true → Verdict p call
verdict_sound p (tick_in buffer) e = go (ltb (length buffer) 24) refl
  where
    go : (t : Bool) → ltb (length buffer) 24 ≡ t → Verdict p (tick_in buffer)
    go true h = turns_down 1 (short_for_tick buffer (sound_facts p e) (ltb-true (length buffer) 24 h))
    go false h = takes e (ltb-false (length buffer) 24 h)
verdict_sound p (byte_in b buffer) e = go (ltb (length buffer) 24) refl
  where
    go : (t : Bool) → ltb (length buffer) 24 ≡ t → Verdict p (byte_in b buffer)
    go true h = turns_down 1 (short_buffer b buffer (sound_facts p e) (ltb-true (length buffer) 24 h))
    go false h = takes e (ltb-false (length buffer) 24 h)
verdict_sound p (pin_at pin level) e = go (is_pin pin) refl (ltb 1 level) refl
  where
    go : (t : Bool) → is_pin pin ≡ t → (u : Bool) → ltb 1 level ≡ u → Verdict p (pin_at pin level)
    go true k true h = turns_down 3 (no_such_level pin level (sound_facts p e) (is_pin_lem pin k) (ltb-true 1 level h))
    go true k false h = takes e (is_pin_lem pin k, ltb-false 1 level h)
    go false k u h = turns_down 2 (no_such_pin pin level (sound_facts p e) (λ q. false_true (sym k ∙ pin_test pin q)))
verdict_sound p (ticks_in n buffer) e = go (ltb (length buffer) 24) refl (ltb 1_000_000 n) refl
  where
    go : (t : Bool) → ltb (length buffer) 24 ≡ t → (u : Bool) → ltb 1_000_000 n ≡ u → Verdict p (ticks_in n buffer)
    go true h u k = turns_down 1 (short_for_ticks n buffer (sound_facts p e) (ltb-true (length buffer) 24 h))
    go false h true k =
        turns_down 5 (too_many n buffer (sound_facts p e) (ltb-false (length buffer) 24 h) (ltb-true 1_000_000 n k))
    go false h false k = takes e (ltb-false (length buffer) 24 h, ltb-false 1_000_000 n k)

pub verdict : (p : Pump) (call : Call) → Verdict p call
verdict p call = go (is_sound_pump p) refl
  where
    go : (t : Bool) → is_sound_pump p ≡ t → Verdict p call
    go true e = verdict_sound p call e
    go false e = turns_down 4 (not_sound call (λ s. false_true (sym e ∙ sound_test p s)))
