-- What ticks do beside the work of the phases: a pending alarm stays as it is; before the last of some ticks no alarm is sent; and one tick
-- more is the device one tick further on.
-- Assumes nothing.
use Rattle.std.specs.Prelude.{if◌then◌else◌, Option, Some, None, is_some}
use Prim.Native.Nat.{ℕ, zero, suc, ◌<◌}
use mathlib.Core.Path.{◌≡◌, refl, sym, ap, ◌∙◌}
use mathlib.Core.Bool.{Bool, true, false, ◌&&◌, not}
use native.Mathlib.Omega.{arith}
use lib.Dec.{ltb, eqb}
use borrow.Author.Tests.{lt-ltb, ltb-false, eqb-true, eq-eqb, ne_eqb, eqb-false}
use Rattle.base.proofs.Choices.{false_true, and_right, and_false}
use Rattle.base.proofs.Each.{and_both}
use Rattle.words.specs.declared.answers.Alarm.{Alarm}
use Rattle.words.specs.declared.answers.Alarm.TheVariants.{TimeOut}
use Rattle.words.specs.declared.answers.Said.{Said}
use Rattle.words.specs.declared.answers.Said.TheVariants as said
use Rattle.words.specs.declared.phases.Phase.{Phase}
use Rattle.program.specs.Runs.{pending, pending_by}
use Rattle.program.specs.declared.state.Core.{Core}
use Rattle.program.specs.declared.state.Mode.{Mode}
use Rattle.program.specs.declared.state.Mode.TheVariants.{Stopped, Paused, Running}
use Rattle.tick.specs.Ticks.{tick, tick_by, silent}
use Rattle.leap.specs.Leaps.{ticks}
use Rattle.link.specs.Link.{is_safe, safe_in, left_in, ticks_left, fires, link_tick, link_ticks}
use Rattle.link.specs.declared.Safety.{Safety}
use Rattle.link.specs.declared.Link.{Link}
use Rattle.link.proofs.Theorems.{ticks_basic, ticks_left_lem, ticks_safe}
use Rattle.pump.specs.Elapsing.{new_alarm, is_alarmed, time_out, alarm_said, after_tick, sent, is_due, reach, is_watched}
use Rattle.pump.specs.Elapsing.{after_ticks, sent_in}
use Rattle.pump.specs.Device.{with_core, with_link}
use Rattle.pump.specs.declared.device.Device.{Device}
use Rattle.pump.proofs.Holding.{not_false, not_true}

-- ---- a pending alarm stays, and nothing moves with it
raised_mode : (m : Mode) (a : Alarm) → pending_by m ≡ Some a → m ≡ Stopped (Some a)
raised_mode (Stopped x) a e = ap Stopped e
raised_mode Paused a e = false_true (ap (is_some {T = Alarm}) e)
raised_mode Running a e = false_true (ap (is_some {T = Alarm}) e)

pub raised_still : (s : Core) (here : Phase) (a : Alarm) → pending s.run ≡ Some a → tick s here ≡ silent s
unfolding tick
raised_still s here a e = ap (tick_by s here) (raised_mode s.run.mode a e)

-- so where none is pending behind a tick none was before it
pub calm_before :
    (look : ℕ → Phase) (s : Core) (i : ℕ)
    → pending (ticks look (suc i) s).core.run ≡ None
    → pending (ticks look i s).core.run ≡ None
unfolding ticks
calm_before look s i e = go (pending (ticks look i s).core.run) refl
  where
    go : (x : Option Alarm) → pending (ticks look i s).core.run ≡ x → pending (ticks look i s).core.run ≡ None
    go None k = k
    go (Some a) k =
        let still = raised_still (ticks look i s).core (look (ticks look i s).core.run.place.current) a k in
        sym (ap (λ (m : _). pending m.core.run) still) ∙ e

pub raised_stays :
    (look : ℕ → Phase) (s : Core) (a : Alarm) → pending s.run ≡ Some a → (i : ℕ) → pending (ticks look i s).core.run ≡ Some a
unfolding ticks
raised_stays look s a e zero = e
raised_stays look s a e (suc i) =
    let k = raised_stays look s a e i in
    ap (λ (m : _). pending m.core.run) (raised_still (ticks look i s).core (look (ticks look i s).core.run.place.current) a k) ∙ k

-- ---- two tests that say the same
same_test : (a b c d : ℕ) → (a ≡ b → c ≡ d) → (c ≡ d → a ≡ b) → eqb a b ≡ eqb c d
same_test a b c d f g = go (eqb c d) refl
  where
    go : (t : Bool) → eqb c d ≡ t → eqb a b ≡ eqb c d
    go true e = eq-eqb a b (g (eqb-true c d e)) ∙ sym e
    go false e = ne_eqb a b (λ k. eqb-false c d e (f k)) ∙ sym e

not_due : (i t : ℕ) → (0 < t → i < t) → (ltb 0 i && eqb i t) ≡ false
not_due zero t h = refl
not_due (suc i) t h =
    ap (λ (x : Bool). ltb 0 (suc i) && x) (ne_eqb (suc i) t (λ e. let z = h (omega arith) in omega arith)) ∙ and_false (ltb 0 (suc i))

-- the tick behind i others is the limit's
fires_as : (i : ℕ) (l : Link) → fires (link_ticks i l) ≡ is_due (suc i) l
unfolding fires
fires_as i l =
    let left = ticks_left_lem i l in
    let same : eqb (ticks_left (link_ticks i l)) 1 ≡ eqb (suc i) (ticks_left l) =
    same_test (ticks_left (link_ticks i l)) 1 (suc i) (ticks_left l) (λ e. omega (arith, left)) (λ e. omega (arith, left)) in
    same ∙ ap (λ (t : Bool). t && eqb (suc i) (ticks_left l)) (sym (lt-ltb 0 (suc i) (omega arith)))

pub due_at : (n t : ℕ) → 0 < n → n ≡ t → (ltb 0 n && eqb n t) ≡ true
due_at zero t h e = absurd (omega arith)
due_at (suc n) t h e = and_both (ltb 0 (suc n)) (eqb (suc n) t) (lt-ltb 0 (suc n) h) (eq-eqb (suc n) t e)

pub not_raised : (x : Option Alarm) → not (is_some x) ≡ true → x ≡ None
not_raised None e = refl
not_raised (Some a) e = false_true e

-- ---- some ticks in which no alarm was sent: the limit lies ahead, and where an alarm would be sent none is pending
pub record Quiet (look : ℕ → Phase) (v : Device) (i : ℕ) : Type 0 where
  pub calm : is_watched v ≡ true → pending (ticks look i v.core).core.run ≡ None
  pub early : 0 < ticks_left v.link → i < ticks_left v.link

-- the device after them
abbrev pub resting : (ℕ → Phase) → Device → ℕ → Device
resting look v i = record { core = (ticks look i v.core).core; line = v.line; link = link_ticks i v.link }

module _ (look : ℕ → Phase) (v : Device) where
  abbrev core : ℕ → Core
  core i = (ticks look i v.core).core

  pub quiet_before : (i : ℕ) → Quiet look v (suc i) → Quiet look v i
  quiet_before i q =
      record { calm = λ w. calm_before look v.core i (q.calm w); early = λ h. let z = q.early h in omega arith }

  pub quiet_none : Quiet look v 0
  unfolding ticks
  quiet_none =
      record {
        calm = λ w. not_raised (pending v.core.run) (and_right (is_safe v.link) (not (is_alarmed v.core)) w);
        early = λ h. h;
      }

  module _ (i : ℕ) (q : Quiet look v i) where
    no_due : is_due i v.link ≡ false
    no_due = not_due i (ticks_left v.link) q.early

    new_none : is_safe v.link ≡ true → new_alarm (pending v.core.run) (pending (core i).run) ≡ None
    new_none safe = go (pending v.core.run) refl
      where
        go : (x : Option Alarm) → pending v.core.run ≡ x → new_alarm (pending v.core.run) (pending (core i).run) ≡ None
        go None k =
            ap (λ (x : Option Alarm). new_alarm x (pending (core i).run)) k
            ∙ q.calm (ap (λ (x : Bool). x && not (is_alarmed v.core)) safe ∙ ap (λ (x : Option Alarm). not (is_some x)) k)
        go (Some a) k = ap (λ (x : Option Alarm). new_alarm x (pending (core i).run)) k

    pub quiet_sent : sent_in i v (core i) ≡ said.Nothing
    unfolding sent_in
    quiet_sent = go (is_safe v.link) refl
      where
        go :
            (t : Bool)
            → is_safe v.link ≡ t
            → (if is_safe v.link
            then alarm_said (if is_due i v.link then Some TimeOut else new_alarm (pending v.core.run) (pending (core i).run))
            else said.Nothing) ≡ said.Nothing
        go true e = simp (e, no_due, new_none e)
        go false e = simp e

    pub quiet_device : after_ticks i v (core i) ≡ resting look v i
    unfolding after_ticks
    quiet_device = simp no_due

    -- ---- one tick more
    due_next : fires (link_ticks i v.link) ≡ is_due (suc i) v.link
    due_next = fires_as i v.link

    pub next_device : (s : Core) → after_tick (resting look v i) s ≡ after_ticks (suc i) v s
    unfolding after_tick after_ticks link_ticks
    next_device s = ap (λ (t : Bool). record { core = if t then time_out s else s; line = v.line; link = link_tick (link_ticks i v.link) }) due_next

    new_next : (x : Option Alarm) → is_safe v.link ≡ true → new_alarm (pending (core i).run) x ≡ new_alarm (pending v.core.run) x
    new_next x safe = go (pending v.core.run) refl
      where
        go : (y : Option Alarm) → pending v.core.run ≡ y → new_alarm (pending (core i).run) x ≡ new_alarm (pending v.core.run) x
        go None k =
            ap (λ (z : Option Alarm). new_alarm z x)
            (q.calm (ap (λ (z : Bool). z && not (is_alarmed v.core)) safe ∙ ap (λ (z : Option Alarm). not (is_some z)) k) ∙ sym k)
        go (Some a) k = ap (λ (z : Option Alarm). new_alarm z x) (raised_stays look v.core a k i ∙ sym k)

    pub next_sent : (s : Core) → sent (resting look v i) s ≡ sent_in (suc i) v s
    unfolding sent sent_in
    next_sent s = go (is_safe v.link) refl
      where
        told : Bool → Option Alarm → Said
        told t x = alarm_said (if t then Some TimeOut else x)

        go :
            (t : Bool)
            → is_safe v.link ≡ t
            → (if is_safe (link_ticks i v.link)
            then told (fires (link_ticks i v.link)) (new_alarm (pending (core i).run) (pending s.run))
            else said.Nothing) ≡ (if is_safe v.link
            then told (is_due (suc i) v.link) (new_alarm (pending v.core.run) (pending s.run))
            else said.Nothing)
        go true e =
            let still = ticks_safe i v.link ∙ e in
            let next : told (fires (link_ticks i v.link)) (new_alarm (pending (core i).run) (pending s.run))
            ≡ told (is_due (suc i) v.link) (new_alarm (pending v.core.run) (pending s.run)) =
            ap (λ (t : Bool). told t (new_alarm (pending (core i).run) (pending s.run))) due_next
            ∙ ap (told (is_due (suc i) v.link)) (new_next (pending s.run) e) in
            rw (still, e) next
        go false e = let still = ticks_safe i v.link ∙ e in rw (still, e) refl

-- ---- what is sent at the end of some ticks: alarm T where it is due, else the alarm of the program
module _ (v : Device) (n : ℕ) (s : Core) (safe : is_safe v.link ≡ true) where
  pub due_sent : is_due n v.link ≡ true → sent_in n v s ≡ said.Alarm TimeOut
  unfolding sent_in
  due_sent e = simp (safe, e)

  pub new_sent :
      (a : Alarm)
      → is_due n v.link ≡ false
      → pending v.core.run ≡ None
      → pending s.run ≡ Some a
      → sent_in n v s ≡ said.Alarm a
  unfolding sent_in
  new_sent a e none k =
      (simp (safe, e)) ∙ ap (λ (x : Option Alarm). alarm_said (new_alarm x (pending s.run))) none ∙ ap alarm_said k

-- no timer runs in Basic mode
pub timer_safe : (l : Link) → 0 < ticks_left l → is_safe l ≡ true
unfolding is_safe ticks_left
timer_safe l h = go l.safety h
  where
    go : (m : Option Safety) → 0 < left_in m → safe_in m ≡ true
    go None k = absurd (omega arith)
    go (Some x) k = refl

-- ---- the same by what the code tests
module _ (n left : ℕ) (l : Link) (is : left ≡ ticks_left l) where
  pub reach_to : (ltb 0 left && ltb left n) ≡ true → left ≡ reach n l
  reach_to e = is ∙ sym (simp (ap (λ (t : ℕ). ltb 0 t && ltb t n) (sym is) ∙ e))

  pub reach_all : (ltb 0 left && ltb left n) ≡ false → n ≡ reach n l
  reach_all e = sym (simp (ap (λ (t : ℕ). ltb 0 t && ltb t n) (sym is) ∙ e))

module _ (v : Device) (n : ℕ) (s : Core) where
  module _ (t : Bool) (is : t ≡ is_safe v.link) where
    pub sent_basic : not t ≡ true → said.Nothing ≡ sent_in n v s
    unfolding sent_in
    sent_basic e = sym (simp (sym is ∙ not_true t e))

    module _ (e : not t ≡ false) (d : Bool) (due : d ≡ is_due n v.link) where
      safe : is_safe v.link ≡ true
      safe = sym is ∙ not_false t e

      pub sent_due : d ≡ true → said.Alarm TimeOut ≡ sent_in n v s
      sent_due k = sym (due_sent v n s safe (sym due ∙ k))

      module _ (k : d ≡ false) (a : Bool) (alarmed : a ≡ is_alarmed v.core) where
        at_end_lem : sent_in n v s ≡ alarm_said (new_alarm (pending v.core.run) (pending s.run))
        unfolding sent_in
        at_end_lem = simp (safe, sym due ∙ k)

        pub sent_none : a ≡ true → said.Nothing ≡ sent_in n v s
        sent_none h = go (pending v.core.run) refl
          where
            go : (x : Option Alarm) → pending v.core.run ≡ x → said.Nothing ≡ sent_in n v s
            go None z = false_true (sym (ap (is_some {T = Alarm}) z) ∙ sym alarmed ∙ h)
            go (Some w) z = sym (at_end_lem ∙ ap (λ (x : Option Alarm). alarm_said (new_alarm x (pending s.run))) z)

        pub sent_new : (x : Option Alarm) (r : Said) → a ≡ false → x ≡ pending s.run → r ≡ alarm_said x → r ≡ sent_in n v s
        sent_new x r h y q =
            let none = not_raised (pending v.core.run) (ap not (sym alarmed ∙ h)) in
            q ∙ ap alarm_said y ∙ sym (at_end_lem ∙ ap (λ (z : Option Alarm). alarm_said (new_alarm z (pending s.run))) none)

  module _ (r : Device) where
    after_none : n ≡ 0 → r ≡ with_core v s → r ≡ after_ticks n v s
    unfolding after_ticks link_ticks
    after_none e q = q ∙ sym (rw e refl)

    after_basic : is_safe v.link ≡ false → r ≡ with_core v s → r ≡ after_ticks n v s
    unfolding after_ticks
    after_basic e q =
        let none = not_due n (ticks_left v.link) (λ h. false_true (sym e ∙ timer_safe v.link h)) in
        q ∙ ap (λ (x : Link). with_core (with_link v x) s) (sym (ticks_basic n v.link e)) ∙ sym (simp none)

    -- no tick, or none that the link counts
    pub after_still : (t : Bool) → t ≡ is_safe v.link → (ltb 0 n && t) ≡ false → r ≡ with_core v s → r ≡ after_ticks n v s
    after_still t is e q = go (ltb 0 n) refl e
      where
        go : (u : Bool) → ltb 0 n ≡ u → (u && t) ≡ false → r ≡ after_ticks n v s
        go true k h = after_basic (sym is ∙ h) q
        go false k h = let z = ltb-false 0 n k in after_none (omega arith) q

    module _ (d : Bool) (due : d ≡ is_due n v.link) (l : Link) (ticked : l ≡ link_ticks n v.link) where
      pub after_due : (c : Core) → d ≡ true → c ≡ time_out s → r ≡ with_core (with_link v l) c → r ≡ after_ticks n v s
      unfolding after_ticks
      after_due c e h q =
          q
          ∙ ap (λ (x : Core). with_core (with_link v l) x) h
          ∙ ap (λ (x : Link). with_core (with_link v x) (time_out s)) ticked
          ∙ sym (simp (sym due ∙ e))

      pub after_work : d ≡ false → r ≡ with_core (with_link v l) s → r ≡ after_ticks n v s
      unfolding after_ticks
      after_work e q = q ∙ ap (λ (x : Link). with_core (with_link v x) s) ticked ∙ sym (simp (sym due ∙ e))

pub ruleset sendings = (sent_basic, sent_due, sent_none, sent_new)

pub ruleset elapsings = (after_still, after_due, after_work)
