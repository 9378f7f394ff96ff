-- The event of a tick that did its work, whatever that is, and no more: the link stays, and nothing is sent. What the observer reads off
-- it; what is to be shown of any event; and ticks in which nothing is entered and no visit is worked. What the link adds is in Lapsing.
-- Assumes nothing.
use Rattle.std.specs.Prelude.{if◌then◌else◌, is_some, None}
use Prim.Native.Nat.{ℕ, ◌+◌, ◌*◌, ◌≤◌}
use mathlib.Core.Path.{◌≡◌, refl, sym, ap, ◌∙◌, subst}
use mathlib.Core.Bool.{Bool, true, false, ◌&&◌, ◌||◌, or-false}
use mathlib.Core.List.{[]}
use native.Mathlib.Omega.{arith}
use lib.Dec.{eqb}
use lib.ListN.{length, take}
use Rattle.base.specs.Text.{text}
use Rattle.base.proofs.Choices.{false_true}
use Rattle.drive.specs.Syringe.{step_volume}
use Rattle.drive.specs.declared.directions.Direction.{Direction}
use Rattle.drive.specs.declared.directions.Direction.TheVariants.{Infuse, Withdraw}
use Rattle.dispense.specs.Ledgers.{total_of}
use Rattle.dispense.specs.declared.ledgers.Ledger.{Ledger}
use Rattle.program.specs.Runs.{is_visiting}
use Rattle.program.specs.declared.state.Pins.{Pins}
use Rattle.program.specs.declared.state.Work.{Work}
use Rattle.program.specs.declared.state.Work.TheVariants.{Entering, Visiting, Pausing, Waiting}
use Rattle.tick.specs.declared.Moved.{Moved}
use Rattle.line.specs.Spelling.{is_text}
use Rattle.pump.specs.Reports.{refusal_number}
use Rattle.pump.specs.declared.holder.Pump.{Pump}
use Rattle.pump.specs.declared.reports.Report.{Report}
use Rattle.statement.specs.Facts.{core_of, run_of, under_way, loops_of}
use Rattle.statement.specs.Histories.{Whole, Event, tick_in}
use Rattle.statement.specs.Outcomes.{pump_with_core}
use Rattle.condition3.specs.Books.{Books, Doing, nothing, visiting, View, view_of, moves, Deed, other, enters, works, deed_by, deed}
use Rattle.condition3.specs.Books.{drops, is_safe, data_in}
use Rattle.condition3.specs.Books.{noted, fires_by, is_obeyed, ruled_by, told, of_way, step_at}
use Rattle.condition3.specs.Condition.{Goes}
use Rattle.condition3.specs.Stored.{SameWork, SamePacket}
use Rattle.condition3.proofs.Noting.{Kept, Makes, Beside, kept_by, makes_gone, makes_same, gone_stopped, none_cleared}
use Rattle.condition3.proofs.Noting.{none_restarted, drops_is}
use Rattle.condition3.proofs.Views.{is_stopped_in, moves_in, view_moves}

-- ---- what is to be shown of an event, with the books before it
pub record Stepped (b : Books) (e : Event) : Type 0 where
  pub kept : Kept e.report.pump (noted b e)
  pub ruled : (d : Direction) → told d e ≡ ruled_by d (b.given d) (deed b e)
  pub goes : Goes b e (deed b e)
  pub few : told Infuse e + told Withdraw e ≤ 4

-- and of the packet under way
pub record Followed (b : Books) (e : Event) : Type 0 where
  pub stepped : Stepped b e
  pub packet : SamePacket e.report.pump.device.link (noted b e).packet (noted b e).quiet

pub stepped_by :
    (b : Books) (e : Event) (done : Deed) (t : Bool)
    → refusal_number e.report.refusal ≡ 0
    → deed b e ≡ done
    → drops b e ≡ t
    → Whole e.report.pump
    → Makes b e e.report.pump done t
    → ((d : Direction) → told d e ≡ ruled_by d (b.given d) done)
    → Goes b e done
    → told Infuse e + told Withdraw e ≤ 4
    → Stepped b e
stepped_by b e done t r x y w m ruled goes few =
    record {
      kept = kept_by b e done t r x y w m;
      ruled = λ d. ruled d ∙ ap (ruled_by d (b.given d)) (sym x);
      goes = subst (Goes b e) (sym x) goes;
      few = few;
    }

-- ---- a tick that moved so, as it would be with no limit and no packet
abbrev pub work_of : Pump → Moved → Report
work_of p m =
    record {
      pump = pump_with_core p m.core;
      length = 0;
      infused = m.infused;
      withdrawn = m.withdrawn;
      beeps = if m.beep then 1 else 0;
      ticks = 1;
      refusal = None;
      output = m.core.output;
    }

abbrev pub moved : Pump → Moved → Event
moved p m = record { before = p; call = tick_in []; report = work_of p m; buffer = [] }

-- no answer tells that nothing was obeyed
pub unanswered : (e : Event) → e.report.length ≡ 0 → is_obeyed e ≡ false
unfolding is_obeyed is_text
unanswered e h = go (is_safe (view_of e.before))
  where
    go : (t : Bool) → (is_text (text "00") (take 2 (data_in t (take e.report.length e.buffer)))
        && eqb (length (data_in t (take e.report.length e.buffer))) 3) ≡ false
    go true = rw h refl
    go false = rw h refl

module _ (b : Books) (p : Pump) (m : Moved) where
  -- it answers nothing, so that nothing is cleared or started
  no_answer : is_obeyed (moved p m) ≡ false
  no_answer = unanswered (moved p m) refl

  pub tick_drops :
      (done : Deed) (f : Bool)
      → deed b (moved p m) ≡ done
      → fires_by b (moved p m) done ≡ f
      → drops b (moved p m) ≡ (f || is_stopped_in m.core.run.mode)
  tick_drops done f x y =
      drops_is b (moved p m) done f false x y (none_restarted b (moved p m) no_answer)
      ∙ ap (λ (t : Bool). t || is_stopped_in m.core.run.mode) (or-false f)

  -- the totals go up by the steps told
  pub tick_beside :
      Kept p b
      → m.core.pins ≡ (core_of p).pins
      → ((d : Direction)
      → total_of m.core.ledger d ≡ total_of (core_of p).ledger d + of_way d m.infused m.withdrawn * step_volume (core_of p).syringe)
      → Beside b (moved p m) (pump_with_core p m.core)
  unfolding view_of step_volume
  tick_beside k pins more =
      record {
        four = ap (λ (x : Pins). x.four) pins ∙ k.four;
        line = k.line;
        totals =
            λ d.
            more d
            ∙ ap (λ x. x + of_way d m.infused m.withdrawn * step_at (core_of p).syringe.diameter) (k.totals d)
            ∙ sym
            (ap (λ t. if t then 0 else b.given d + of_way d m.infused m.withdrawn * step_at (core_of p).syringe.diameter)
            (none_cleared d b (moved p m) no_answer));
      }

-- no step is told, and the ledger stays
pub no_more :
    (l m : Ledger) (i j v : ℕ) → m ≡ l → i ≡ 0 → j ≡ 0 → (d : Direction) → total_of m d ≡ total_of l d + of_way d i j * v
no_more l m i j v e x y Infuse = ap (λ (k : Ledger). total_of k Infuse) e ∙ omega (arith, ap (λ n. n * v) x)
no_more l m i j v e x y Withdraw = ap (λ (k : Ledger). total_of k Withdraw) e ∙ omega (arith, ap (λ n. n * v) y)

pub none_told : (d : Direction) (i j : ℕ) → i ≡ 0 → j ≡ 0 → of_way d i j ≡ 0
none_told Infuse i j e f = e
none_told Withdraw i j e f = f

-- ---- what is under way in the books, where no visit is in the pump
pub none_booked : (p : Pump) (x : Work) (doing : Doing) → SameWork p x doing → is_visiting x ≡ false → doing ≡ nothing
none_booked p x nothing s h = refl
none_booked p Entering (visiting w) s h = absurd s
none_booked p (Visiting v) (visiting w) s h = false_true (sym h)
none_booked p (Pausing left) (visiting w) s h = absurd s
none_booked p Waiting (visiting w) s h = absurd s

pub same_none : (q : Pump) (x : Work) → is_visiting x ≡ false → SameWork q x nothing
same_none q Entering h = tt
same_none q (Visiting v) h = false_true (sym h)
same_none q (Pausing left) h = tt
same_none q Waiting h = tt

idle_deed : (doing : Doing) (x : View) → moves x ≡ false → deed_by doing x (tick_in []) ≡ other
idle_deed nothing x h = ap (λ (t : Bool). if◌then◌else◌ {A = Deed} t (enters x) other) h
idle_deed (visiting w) x h = ap (λ (t : Bool). if◌then◌else◌ {A = Deed} t (works w x) other) h

-- ---- a tick that gives no step and leaves pins and ledger
pub record Silent (p : Pump) (m : Moved) : Type 0 where
  pub whole : Whole (pump_with_core p m.core)
  pub pins : m.core.pins ≡ (core_of p).pins
  pub ledger : m.core.ledger ≡ (core_of p).ledger
  pub none_infused : m.infused ≡ 0
  pub none_withdrawn : m.withdrawn ≡ 0

module _ (p : Pump) (b : Books) (k : Kept p b) (m : Moved) (s : Silent p m) where
  pub silent_beside : Beside b (moved p m) (pump_with_core p m.core)
  silent_beside =
      tick_beside b p m k s.pins
      (no_more (core_of p).ledger m.core.ledger m.infused m.withdrawn (step_volume (core_of p).syringe) s.ledger
      s.none_infused s.none_withdrawn)

  pub silent_ruled : (d : Direction) → told d (moved p m) ≡ 0
  silent_ruled d = none_told d m.infused m.withdrawn s.none_infused s.none_withdrawn

  pub silent_few : told Infuse (moved p m) + told Withdraw (moved p m) ≤ 4
  silent_few = omega (arith, s.none_infused, s.none_withdrawn)

  -- ---- and in which nothing is entered and no visit worked
  module _ (idle : moves_in (run_of p).mode (under_way p) ≡ false) where
    idles : deed b (moved p m) ≡ other
    idles = idle_deed b.doing (view_of p) (view_moves p ∙ idle)

    idle_drops : drops b (moved p m) ≡ is_stopped_in m.core.run.mode
    idle_drops = tick_drops b p m other false idles refl

    pub idle_stopped : is_stopped_in m.core.run.mode ≡ true → Stepped b (moved p m)
    idle_stopped h =
        stepped_by b (moved p m) other true refl idles (idle_drops ∙ h) s.whole
        (makes_gone b (moved p m) _ silent_beside other (gone_stopped _ s.whole h) k.fits)
        silent_ruled (λ moving _. false_true (sym (view_moves p ∙ idle) ∙ moving)) silent_few

    pub idle_on :
        is_stopped_in m.core.run.mode ≡ false
        → SameWork (pump_with_core p m.core) m.core.run.place.work b.doing
        → loops_of (pump_with_core p m.core) ≡ loops_of p
        → is_some m.core.run.trap ≡ is_some (run_of p).trap
        → Stepped b (moved p m)
    idle_on h w l t =
        stepped_by b (moved p m) other false refl idles (idle_drops ∙ h) s.whole
        (makes_same b (moved p m) _ silent_beside p k w l t)
        silent_ruled (λ moving _. false_true (sym (view_moves p ∙ idle) ∙ moving)) silent_few
