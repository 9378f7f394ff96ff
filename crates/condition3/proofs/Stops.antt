-- In Basic mode a tick does its work and no more; and so a stopped pump stays as it is, however long one waits, and every tick of it is
-- silent.
-- Assumes nothing.
use Rattle.std.specs.Prelude.{if◌then◌else◌, Option, None}
use Prim.Native.Nat.{ℕ, zero, suc, ◌≤◌}
use mathlib.Core.Path.{◌≡◌, refl, sym, ap, ap₂, ◌∙◌, subst}
use mathlib.Core.Bool.{Bool, true, false}
use mathlib.Core.List.{List}
use lib.Dec.{eqb}
use lib.ListN.{length}
use Rattle.words.specs.declared.answers.Said.{Said}
use Rattle.words.specs.declared.answers.Said.TheVariants as said
use Rattle.words.specs.declared.answers.Alarm.{Alarm}
use Rattle.program.specs.declared.state.Core.{Core}
use Rattle.program.specs.declared.state.Mode.TheVariants.{Stopped}
use Rattle.tick.specs.Ticks.{silent, tick_by, tick}
use Rattle.tick.specs.declared.Moved.{Moved}
use Rattle.link.specs.Link.{is_safe, left_in, ticks_left, fires}
use Rattle.link.specs.declared.Safety.{Safety}
use Rattle.link.specs.declared.Link.{Link}
use Rattle.link.proofs.Modes.{not_safe, basic_tick}
use Rattle.answer.specs.Answers.{room, length_in}
use Rattle.answer.specs.declared.frame.Frame.TheVariants.{Packet}
use Rattle.pump.specs.Calls.{tick_at, tick_call}
use Rattle.pump.specs.Elapsing.{time_out, after_tick, sent}
use Rattle.pump.specs.Holder.{here_of, with_device, is_sound_pump}
use Rattle.pump.specs.declared.holder.Pump.{Pump}
use Rattle.pump.specs.declared.reports.Report.{Report}
use Rattle.pump.proofs.Running.{sound_tick}
use Rattle.statement.specs.Facts.{core_of, run_of, link_of}
use Rattle.statement.specs.Histories.{after, Event, trace, Every, single_ticks}
use Rattle.condition3.proofs.Answers.{told_length}
use Rattle.condition3.proofs.Ticks.{work_of}

-- ---- Basic mode
module _ (p : Pump) (buffer : List ℕ) (sound : is_sound_pump p ≡ true) (roomy : room ≤ length buffer) (basic : is_safe (link_of p) ≡ false)
  where
    no_limit : fires (link_of p) ≡ false
    unfolding fires ticks_left
    no_limit = ap (λ (m : Option Safety). eqb (left_in m) 1) (not_safe (link_of p) basic)

    nothing_sent : sent p.device (tick_at p).core ≡ said.Nothing
    unfolding sent
    nothing_sent = rw basic refl

    pub basic_works : tick_call p buffer ≡ work_of p (tick_at p)
    unfolding after_tick
    basic_works =
        sound_tick p buffer sound roomy
        ∙ ap₂ (λ (t : Bool) (l : Link). told t l (length_in Packet 0 (sent p.device (tick_at p).core) buffer)) no_limit
        (basic_tick (link_of p) (not_safe (link_of p) basic))
        ∙ ap (told false (link_of p))
        (ap (λ (s : Said). length_in Packet 0 s buffer) nothing_sent ∙ told_length Packet said.Nothing buffer roomy)
      where
        told : Bool → Link → ℕ → Report
        told t l n =
            let m = tick_at p in
            let core : Core = if t then time_out m.core else m.core in
            record {
              pump = with_device p (record { core = core; line = p.device.line; link = l });
              length = n;
              infused = m.infused;
              withdrawn = m.withdrawn;
              beeps = if m.beep then 1 else 0;
              ticks = 1;
              refusal = None;
              output = m.core.output;
            }

-- what a tick reports that gives no step and no beep, sends nothing, and leaves this state
abbrev pub silent_tick : Pump → Report
silent_tick p = work_of p (silent (core_of p))

-- an event that is a tick of a stopped pump, and reports that pump and nothing else
pub record Standing (e : Event) : Type 0 where
  pub alarm : Option Alarm
  pub before_stopped : (run_of e.before).mode ≡ Stopped alarm
  pub nothing : e.report ≡ silent_tick e.before

module _ (p : Pump) (buffer : List ℕ) (sound : is_sound_pump p ≡ true) (roomy : room ≤ length buffer) (basic : is_safe (link_of p) ≡ false)
    (alarm : Option Alarm) (stopped : (run_of p).mode ≡ Stopped alarm) where
  pub stopped_tick : tick_call p buffer ≡ silent_tick p
  unfolding tick
  stopped_tick =
      basic_works p buffer sound roomy basic ∙ ap (λ (m : Moved). work_of p m) (ap (tick_by (core_of p) (here_of p)) stopped)

  pub stopped_after : (n : ℕ) → after p (single_ticks n buffer) ≡ p
  unfolding after single_ticks
  stopped_after zero = refl
  stopped_after (suc n) = ap (λ (r : Report). after r.pump (single_ticks n buffer)) stopped_tick ∙ stopped_after n

  pub stopped_stands : (n : ℕ) → Every Standing (trace p (single_ticks n buffer))
  unfolding trace single_ticks
  stopped_stands zero = tt
  stopped_stands (suc n) = (
    record { alarm = alarm; before_stopped = stopped; nothing = stopped_tick },
    subst (λ (r : Report). Every Standing (trace r.pump (single_ticks n buffer))) (sym stopped_tick) (stopped_stands n),
  )
