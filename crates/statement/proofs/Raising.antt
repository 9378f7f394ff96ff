-- What a tick leaves and sends, as the relation Raises and as the definitions of the calls: the two agree.
-- Assumes nothing.
use Rattle.std.specs.Prelude.{if◌then◌else◌, Option, Some, None}
use Prim.Native.Nat.{ℕ}
use mathlib.Core.Path.{◌≡◌, refl, sym, ap, ◌∙◌}
use mathlib.Core.Bool.{Bool, true, false}
use native.Mathlib.Omega.{arith}
use lib.Dec.{eqb}
use borrow.Author.Tests.{eqb-true, eqb-false, eq-eqb, ne_eqb}
use Rattle.words.specs.declared.answers.Alarm.{Alarm}
use Rattle.words.specs.declared.answers.Alarm.TheVariants.{TimeOut}
use Rattle.words.specs.declared.answers.Said.{Said}
use Rattle.words.specs.declared.answers.Said.TheVariants as s
use Rattle.words.specs.declared.phases.Phase.{Phase}
use Rattle.program.specs.Runs.{pending}
use Rattle.program.specs.declared.state.Core.{Core}
use Rattle.tick.specs.declared.Moved.{Moved}
use Rattle.soundness.specs.Kept.{Kept}
use Rattle.link.specs.Link.{is_safe, ticks_left, fires}
use Rattle.pump.specs.Elapsing.{new_alarm, time_out, alarm_said, after_tick, sent}
use Rattle.pump.specs.declared.holder.Pump.{Pump}
use Rattle.pump.proofs.Alarms.{timer_safe}
use Rattle.statement.specs.Facts.{link_of, run_of}
use Rattle.statement.specs.Outcomes.{Raises, limit_ends, alarm_new, alarm_old, no_alarm, not_sent}
use Rattle.statement.proofs.Links.{no_timer}
use Rattle.statement.proofs.Wholes.{kept_time_out}

module _ (p : Pump) (m : Moved) where
  abbrev core : Core
  core = (after_tick p.device m.core).core

  abbrev sends : Said
  sends = sent p.device m.core

  fires_if : ticks_left (link_of p) ≡ 1 → fires (link_of p) ≡ true
  unfolding fires
  fires_if e = eq-eqb (ticks_left (link_of p)) 1 e

  not_fires : (ticks_left (link_of p) ≡ 1 → ⊥) → fires (link_of p) ≡ false
  unfolding fires
  not_fires n = ne_eqb (ticks_left (link_of p)) 1 n

  -- ---- the definitions meet the relation
  pub raises : Raises p m core sends
  unfolding after_tick sent fires
  raises = go (eqb (ticks_left (link_of p)) 1) refl (is_safe (link_of p)) refl (pending (run_of p)) refl (pending m.core.run) refl
    where
      go :
          (f : Bool)
          → eqb (ticks_left (link_of p)) 1 ≡ f
          → (u : Bool)
          → is_safe (link_of p) ≡ u
          → (x : Option Alarm)
          → pending (run_of p) ≡ x
          → (y : Option Alarm)
          → pending m.core.run ≡ y
          → Raises p m (if f then time_out m.core else m.core)
          (if u then alarm_said (if f then Some TimeOut else new_alarm x y) else s.Nothing)
      go true e true k x h y g = limit_ends (eqb-true (ticks_left (link_of p)) 1 e)
      go true e false k x h y g =
          let one = eqb-true (ticks_left (link_of p)) 1 e in
          let none = no_timer (link_of p) k in
          absurd (omega arith)
      go false e false k x h y g = not_sent k
      go false e true k (Some a) h y g = alarm_old a (eqb-false (ticks_left (link_of p)) 1 e) h
      go false e true k None h None g = no_alarm (eqb-false (ticks_left (link_of p)) 1 e) g
      go false e true k None h (Some a) g = alarm_new a (eqb-false (ticks_left (link_of p)) 1 e) k h g

  -- ---- and whatever meets the relation is what the definitions say
  at_limit : ticks_left (link_of p) ≡ 1 → (time_out m.core ≡ core) × (s.Alarm TimeOut ≡ sends)
  unfolding after_tick sent
  at_limit e =
      let safe : is_safe (link_of p) ≡ true = timer_safe (link_of p) (omega (arith, e)) in
      let f = fires_if e in
      (sym (simp f), sym (simp (safe, f)))

  apart_limit : fires (link_of p) ≡ false → m.core ≡ core
  unfolding after_tick
  apart_limit f = sym (simp f)

  by_alarms :
      (u : Bool)
      → is_safe (link_of p) ≡ u
      → fires (link_of p) ≡ false
      → sends ≡ (if u then alarm_said (new_alarm (pending (run_of p)) (pending m.core.run)) else s.Nothing)
  unfolding sent
  by_alarms u k f = simp (k, f)

  nothing_new : fires (link_of p) ≡ false → new_alarm (pending (run_of p)) (pending m.core.run) ≡ None → s.Nothing ≡ sends
  nothing_new f z = sym (by_alarms (is_safe (link_of p)) refl f ∙ go (is_safe (link_of p)))
    where
      go : (u : Bool) → (if u then alarm_said (new_alarm (pending (run_of p)) (pending m.core.run)) else s.Nothing) ≡ s.Nothing
      go true = ap alarm_said z
      go false = refl

  none_behind : (x : Option Alarm) → new_alarm x None ≡ None
  none_behind None = refl
  none_behind (Some a) = refl

  pub raises_is : (c : Core) (x : Said) → Raises p m c x → (c ≡ core) × (x ≡ sends)
  raises_is c x (limit_ends e) = at_limit e
  raises_is c x (alarm_new a n k h g) =
      let f = not_fires n in (
        apart_limit f,
        sym (by_alarms true k f ∙ ap (λ (z : Option Alarm). alarm_said (new_alarm z (pending m.core.run))) h ∙ ap alarm_said g),
      )
  raises_is c x (alarm_old a n h) =
      let f = not_fires n in
      (apart_limit f, nothing_new f (ap (λ (z : Option Alarm). new_alarm z (pending m.core.run)) h))
  raises_is c x (no_alarm n g) =
      let f = not_fires n in
      (apart_limit f, nothing_new f (ap (new_alarm (pending (run_of p))) g ∙ none_behind (pending (run_of p))))
  raises_is c x (not_sent k) =
      let none = no_timer (link_of p) k in
      let f = not_fires (λ e. omega arith) in
      (apart_limit f, sym (by_alarms false k f))

  -- ---- a sound core stays sound
  pub raised_kept :
      (phases : ℕ) (look : ℕ → Phase) (c : Core) (x : Said) → Raises p m c x → Kept phases look m.core → Kept phases look c
  raised_kept phases look c x (limit_ends e) k = kept_time_out phases look m.core k
  raised_kept phases look c x (alarm_new a n h o g) k = k
  raised_kept phases look c x (alarm_old a n h) k = k
  raised_kept phases look c x (no_alarm n g) k = k
  raised_kept phases look c x (not_sent h) k = k

  -- and the output's level is the tick's
  pub raised_output : (c : Core) (x : Said) → Raises p m c x → c.output ≡ m.core.output
  raised_output c x (limit_ends e) = refl
  raised_output c x (alarm_new a n h o g) = refl
  raised_output c x (alarm_old a n h) = refl
  raised_output c x (no_alarm n g) = refl
  raised_output c x (not_sent h) = refl
