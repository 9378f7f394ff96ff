-- Every call but a tick: it gives no step; where what is under way is dropped, nothing is under way behind it, and else all is as it was.
-- Assumes nothing.
use Rattle.std.specs.Prelude.{ℕ, if◌then◌else◌, is_some}
use mathlib.Core.Path.{◌≡◌, refl, sym, ap, ◌∙◌, subst}
use mathlib.Core.Bool.{Bool, true, false, ◌||◌}
use native.Mathlib.Omega.{arith}
use Rattle.base.specs.Text.{text}
use Rattle.drive.specs.declared.syringe.Syringe.{Syringe}
use Rattle.words.specs.declared.phases.Phase.{Phase}
use Rattle.loops.specs.Loops.{opened}
use Rattle.dispense.specs.declared.visits.Visit as stored
use Rattle.program.specs.Runs.{is_visiting}
use Rattle.program.specs.declared.state.Place.{Place}
use Rattle.program.specs.declared.state.Work.{Work}
use Rattle.program.specs.declared.state.Work.TheVariants.{Entering, Visiting, Pausing, Waiting}
use Rattle.line.specs.Spelling.{is_text}
use Rattle.pump.specs.Holder.{here_of}
use Rattle.pump.specs.declared.holder.Pump.{Pump}
use Rattle.statement.specs.Facts.{core_of, run_of, under_way, loops_of}
use Rattle.statement.specs.Histories.{Call, Whole, Event}
use Rattle.statement.specs.Outcomes.{Outcome, Still}
use Rattle.condition3.specs.Books.{Books, Visit, Doing, nothing, visiting, view_of, moves, Deed, other, deed_by, deed, drops, fires_by}
use Rattle.condition3.specs.Books.{asked}
use Rattle.condition3.specs.Books.{volume_at, step_at, is_taken}
use Rattle.condition3.specs.Stored.{SameVisit, SameWork}
use Rattle.condition3.proofs.Noting.{Kept, Makes, Beside, Gone, makes_gone, makes_same, gone_stopped, restarts, drops_is}
use Rattle.condition3.proofs.Noting.{some_volume}
use Rattle.condition3.proofs.Ticks.{Stepped, stepped_by, none_told, none_booked, same_none}
use Rattle.condition3.proofs.Views.{is_stopped_in, view_stopped}

-- what an observer sees of an outcome
abbrev pub seen : Pump → Call → Outcome → Event
seen p call o = record { before = p; call = call; report = o.report; buffer = o.buffer }

-- ---- a phase that is the same to a visit: of the same volume and, but for a continuous visit, the same direction
pub record Alike (x y : Phase) : Type 0 where
  pub volume : x.volume ≡ y.volume
  pub direction : (y.volume ≡ 0 → ⊥) → x.direction ≡ y.direction

pub alike_same : (x : Phase) → Alike x x
alike_same x = record { volume = refl; direction = λ _. refl }

-- ---- the program under way goes on as it was, in a phase that is the same to it; or no visit is under way, before it and behind it
pub data Turns (p q : Pump) : Type 0 where
  stays :
      (run_of q).place ≡ (run_of p).place
      → (run_of q).loops ≡ (run_of p).loops
      → (run_of q).trap ≡ (run_of p).trap
      → (core_of q).syringe ≡ (core_of p).syringe
      → Alike (here_of q) (here_of p)
      → Turns p q
  rests :
      is_visiting (under_way p) ≡ false
      → is_visiting (under_way q) ≡ false
      → loops_of q ≡ loops_of p
      → is_some (run_of q).trap ≡ is_some (run_of p).trap
      → Turns p q

same_visit :
    (p q : Pump) (v : stored.Visit) (w : Visit)
    → (run_of q).place ≡ (run_of p).place
    → (core_of q).syringe ≡ (core_of p).syringe
    → Alike (here_of q) (here_of p)
    → SameVisit p v w
    → SameVisit q v w
same_visit p q v w place y a s =
    record {
      phase = s.phase ∙ ap (λ (x : Place). x.current) (sym place);
      volume =
          s.volume
          ∙ ap (λ (x : Syringe). volume_at x.diameter (here_of p).volume) (sym y)
          ∙ ap (volume_at (core_of q).syringe.diameter) (sym a.volume);
      step = s.step ∙ ap (λ (x : Syringe). step_at x.diameter) (sym y);
      direction =
          λ h.
          let some = rw s.volume at h in
          a.direction (some_volume (core_of p).syringe.diameter (here_of p).volume some) ∙ s.direction h;
      store = s.store;
      target = s.target;
      count = s.count;
    }

module _ (p q : Pump) (b : Books) (k : Kept p b) where
  pub same_work : Turns p q → SameWork q (under_way q) b.doing
  same_work (stays place l t y a) =
      subst (λ (x : Place). SameWork q x.work b.doing) (sym place) (go (under_way p) b.doing k.work)
    where
      go : (x : Work) (doing : Doing) → SameWork p x doing → SameWork q x doing
      go Entering nothing s = tt
      go Entering (visiting w) s = absurd s
      go (Visiting v) nothing s = absurd s
      go (Visiting v) (visiting w) s = same_visit p q v w place y a s
      go (Pausing left) nothing s = tt
      go (Pausing left) (visiting w) s = absurd s
      go Waiting nothing s = tt
      go Waiting (visiting w) s = absurd s
  same_work (rests before behind l t) =
      subst (SameWork q (under_way q)) (sym (none_booked p (under_way p) b.doing k.work before)) (same_none q (under_way q) behind)

  same_loops : Turns p q → loops_of q ≡ loops_of p
  same_loops (stays place l t y a) = ap opened l
  same_loops (rests before behind l t) = l

  same_trap : Turns p q → is_some (run_of q).trap ≡ is_some (run_of p).trap
  same_trap (stays place l t y a) = ap (is_some {T = ℕ}) t
  same_trap (rests before behind l t) = t

-- a call that is no tick, taken or refused, does nothing of a tick
pub no_deed : (t : Bool) (x : Deed) → x ≡ other → (if t then x else other) ≡ other
no_deed true x e = e
no_deed false x e = refl

-- ---- one call that is no tick
module _ (p : Pump) (b : Books) (k : Kept p b) (call : Call) (o : Outcome) (q : Pump) (s : Still q o) (w : Whole q)
    (idle : deed_by b.doing (view_of p) call ≡ other) (f r : Bool) (fires : fires_by b (seen p call o) other ≡ f)
    (starts : restarts b (seen p call o) ≡ r) (beside : Beside b (seen p call o) q)
    (silent : moves (view_of p) ≡ true → is_stopped_in (run_of q).mode ≡ true → is_text (text "*RESET") (asked b (seen p call o)) ≡ true) where
  no_tick_lem : deed b (seen p call o) ≡ other
  no_tick_lem = no_deed (is_taken (seen p call o)) (deed_by b.doing (view_of p) call) idle

  dropping : drops b (seen p call o) ≡ (f || r || is_stopped_in (run_of q).mode)
  dropping =
      drops_is b (seen p call o) other f r no_tick_lem fires starts ∙ ap (λ (x : Pump). f || r || is_stopped_in (run_of x).mode) s.new_state

  quiet_by : (t : Bool) → drops b (seen p call o) ≡ t → Makes b (seen p call o) q other t → Stepped b (seen p call o)
  quiet_by t y m =
      stepped_by b (seen p call o) other t s.taken no_tick_lem y (subst Whole (sym s.new_state) w)
      (subst (λ (x : Pump). Makes b (seen p call o) x other t) (sym s.new_state) m)
      (λ d. none_told d o.report.infused o.report.withdrawn s.none_infused s.none_withdrawn)
      (λ moving halt.
      silent moving (ap (λ (x : Pump). is_stopped_in (run_of x).mode) (sym s.new_state) ∙ sym (view_stopped o.report.pump) ∙ halt))
      (omega (arith, s.none_infused, s.none_withdrawn))

  quiet_gone : drops b (seen p call o) ≡ true → Gone q → Stepped b (seen p call o)
  quiet_gone y g = quiet_by true y (makes_gone b (seen p call o) q beside other g k.fits)

  pub quiet_step :
      ((f || r) ≡ true → Gone q)
      → ((f || r) ≡ false → is_stopped_in (run_of q).mode ≡ false → Turns p q)
      → Stepped b (seen p call o)
  quiet_step gone turns = go (f || r) (is_stopped_in (run_of q).mode) refl refl
    where
      go : (x y : Bool) → (f || r) ≡ x → is_stopped_in (run_of q).mode ≡ y → Stepped b (seen p call o)
      go true y e h = quiet_gone (dropping ∙ ap (λ (t : Bool). t || is_stopped_in (run_of q).mode) e) (gone e)
      go false true e h =
          quiet_gone (dropping ∙ ap (λ (t : Bool). t || is_stopped_in (run_of q).mode) e ∙ h) (gone_stopped q w h)
      go false false e h =
          let t = turns e h in
          quiet_by false (dropping ∙ ap (λ (t : Bool). t || is_stopped_in (run_of q).mode) e ∙ h)
          (makes_same b (seen p call o) q beside p k (same_work p q b k t) (same_loops p q b k t) (same_trap p q b k t))
