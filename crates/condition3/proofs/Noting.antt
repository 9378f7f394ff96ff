-- The books behind an accepted call, by what a tick did and by whether what is under way is dropped; and what is to be shown for the pump
-- and the books to agree behind it.
-- Assumes nothing.
use Rattle.std.specs.Prelude.{if◌then◌else◌, is_some}
use Prim.Native.Nat.{ℕ, ◌+◌, ◌*◌, ◌/◌, ◌<◌}
use mathlib.Core.Path.{◌≡◌, refl, sym, ap, ap₂, ◌∙◌, subst}
use mathlib.Core.Bool.{Bool, true, false, not, ◌&&◌, ◌||◌}
use mathlib.Core.List.{List, [], reverse}
use native.Mathlib.Omega.{arith}
use lib.Dec.{eqb, ltb, leb}
use lib.ListN.{length, take}
use borrow.Author.Tests.{ltb-true, lt-leb}
use Rattle.base.specs.Text.{text}
use Rattle.base.proofs.Choices.{false_true}
use Rattle.drive.specs.declared.directions.Direction.{Direction}
use Rattle.dispense.specs.Ledgers.{total_of}
use Rattle.dispense.specs.declared.visits.Visit as stored
use Rattle.program.specs.declared.state.Mode.{Mode}
use Rattle.program.specs.declared.state.Mode.TheVariants.{Stopped, Paused, Running}
use Rattle.program.specs.declared.state.Work.{Work}
use Rattle.program.specs.declared.state.Work.TheVariants.{Entering, Visiting, Pausing, Waiting}
use Rattle.line.specs.Collected.{collect}
use Rattle.line.specs.Lines.{empty_line}
use Rattle.line.specs.Spelling.{leads}
use Rattle.pump.specs.Holder.{here_of}
use Rattle.pump.specs.Reports.{refusal_number}
use Rattle.pump.specs.declared.holder.Pump.{Pump}
use Rattle.statement.specs.Facts.{Nothing, core_of, run_of, under_way, loops_of}
use Rattle.statement.specs.Histories.{Whole, Event, Every}
use Rattle.statement.proofs.Soundness.{sound_facts}
use Rattle.condition3.specs.Books.{Books, Visit, Doing, nothing, visiting, Deed, other, is_whole, all_visits, noted, deed, drops}
use Rattle.condition3.specs.Books.{doing_by, made_by, four_after, line_after, packet_after, quiet_after, is_safe, clears, told, step_at}
use Rattle.condition3.specs.Books.{view_of, volume_at, is_obeyed, asked, fires_by, stops}
use Rattle.condition3.specs.Condition.{Fits}
use Rattle.condition3.specs.Stored.{SameVisit, SameWork}
use Rattle.condition3.proofs.Views.{is_stopped_in, view_stopped}

-- ---- the books behind an accepted call
abbrev pub entry : Books → Event → Deed → Bool → Books
entry b e done t =
    record {
      doing = if is_whole (doing_by b.doing e done) || t then nothing else doing_by b.doing e done;
      past = if is_whole (doing_by b.doing e done) || t then all_visits (doing_by b.doing e done) b.past else b.past;
      loops = if t then [] else (made_by b.loops b.trap done).0;
      trap = not t && (made_by b.loops b.trap done).1;
      four = four_after b.four e.call;
      line = line_after b.line (is_safe (view_of e.before)) e.call;
      packet = packet_after b (is_safe (view_of e.before)) (ltb 0 e.report.length) e.call;
      quiet = quiet_after b.quiet e.call;
      given = λ d. if clears d b e then 0 else b.given d + told d e * step_at (view_of e.before).diameter;
    }

pub noted_is :
    (b : Books) (e : Event) (done : Deed) (t : Bool)
    → refusal_number e.report.refusal ≡ 0
    → deed b e ≡ done
    → drops b e ≡ t
    → noted b e ≡ entry b e done t
unfolding noted
noted_is b e done t r x y =
    ap (λ n. if◌then◌else◌ {A = Books} (eqb n 0) (entry b e (deed b e) (drops b e)) b) r ∙ ap₂ (entry b e) x y

pub not_noted : (b : Books) (e : Event) → eqb (refusal_number e.report.refusal) 0 ≡ false → noted b e ≡ b
unfolding noted
not_noted b e r = ap (λ t. if◌then◌else◌ {A = Books} t (entry b e (deed b e) (drops b e)) b) r

-- ---- an event clears, restarts and drops, part by part
abbrev pub restarts : Books → Event → Bool
restarts b e = is_obeyed e && leads (text "RUN") (asked b e) && ltb 3 (length (asked b e))

pub none_cleared : (d : Direction) (b : Books) (e : Event) → is_obeyed e ≡ false → clears d b e ≡ false
unfolding clears
none_cleared d b e h = rw h refl

pub none_restarted : (b : Books) (e : Event) → is_obeyed e ≡ false → restarts b e ≡ false
none_restarted b e h = rw h refl

pub drops_is :
    (b : Books) (e : Event) (done : Deed) (f r : Bool)
    → deed b e ≡ done
    → fires_by b e done ≡ f
    → restarts b e ≡ r
    → drops b e ≡ (f || r || is_stopped_in (run_of e.report.pump).mode)
unfolding drops
drops_is b e done f r x y z =
    ap (λ (k : Deed). fires_by b e k || restarts b e || stops e) x
    ∙ ap (λ (t : Bool). t || restarts b e || stops e) y
    ∙ ap (λ (t : Bool). f || t || stops e) z
    ∙ ap (λ (t : Bool). f || r || t) (view_stopped e.report.pump)

-- ---- the pump and the books agree
pub record Kept (p : Pump) (b : Books) : Type 0 where
  pub whole : Whole p
  pub work : SameWork p (under_way p) b.doing
  pub fits : Every Fits (all_visits b.doing b.past)
  pub loops : loops_of p ≡ reverse b.loops
  pub trap : is_some (run_of p).trap ≡ b.trap
  pub four : (core_of p).pins.four ≡ b.four
  pub line : p.device.line ≡ collect empty_line b.line
  pub totals : (d : Direction) → total_of (core_of p).ledger d ≡ b.given d

-- what is to be shown of an accepted call
pub record Makes (b : Books) (e : Event) (q : Pump) (done : Deed) (t : Bool) : Type 0 where
  pub work : SameWork q (under_way q) (entry b e done t).doing
  pub fits : Every Fits (all_visits (doing_by b.doing e done) b.past)
  pub loops : loops_of q ≡ reverse (entry b e done t).loops
  pub trap : is_some (run_of q).trap ≡ (entry b e done t).trap
  pub four : (core_of q).pins.four ≡ four_after b.four e.call
  pub line : q.device.line ≡ collect empty_line (line_after b.line (is_safe (view_of e.before)) e.call)
  pub totals : (d : Direction) → total_of (core_of q).ledger d ≡ (entry b e done t).given d

-- the visits are the same, over or not
pub all_same :
    (t : Bool) (now : Doing) (past : List Visit)
    → all_visits (if t then nothing else now) (if t then all_visits now past else past) ≡ all_visits now past
all_same true now past = refl
all_same false now past = refl

module _ (b : Books) (e : Event) (done : Deed) (t : Bool) (r : refusal_number e.report.refusal ≡ 0) (x : deed b e ≡ done)
    (y : drops b e ≡ t) where
  pub kept_by : Whole e.report.pump → Makes b e e.report.pump done t → Kept e.report.pump (noted b e)
  kept_by w m =
      subst (Kept e.report.pump) (sym (noted_is b e done t r x y))
      (record {
        whole = w;
        work = m.work;
        fits =
            subst (Every Fits) (sym (all_same (is_whole (doing_by b.doing e done) || t) (doing_by b.doing e done) b.past)) m.fits;
        loops = m.loops;
        trap = m.trap;
        four = m.four;
        line = m.line;
        totals = m.totals;
      })

-- ---- a visit that is under way has not reached its target
short : (w : Visit) → (0 < w.volume → w.steps < w.volume / w.v) → is_whole (visiting w) ≡ false
short w h = go (ltb 0 w.volume) refl
  where
    go : (t : Bool) → ltb 0 w.volume ≡ t → (t && leb (w.volume / w.v) w.steps) ≡ false
    go true e = lt-leb (w.volume / w.v) w.steps (h (ltb-true 0 w.volume e))
    go false e = refl

-- a volume above 0 in femtolitres is one above 0
pub some_volume : (diameter volume : ℕ) → 0 < volume_at diameter volume → volume ≡ 0 → ⊥
some_volume diameter volume h z =
    omega (arith, h, ap (λ (x : ℕ). x * (if leb diameter 14_000 then 1_000_000 else 1_000_000_000)) z)

pub visit_short :
    (p : Pump)
    → Whole p
    → (v : stored.Visit) (w : Visit)
    → under_way p ≡ Visiting v
    → SameVisit p v w
    → is_whole (visiting w) ≡ false
visit_short p k v w u s =
    short w
    (λ h.
    let facts = (sound_facts p k.sound).visit v u in
    let some : 0 < volume_at (core_of p).syringe.diameter (here_of p).volume = rw s.volume at h in
    let below = facts.given_below (some_volume (core_of p).syringe.diameter (here_of p).volume some) in
    omega (arith, below, s.count h, s.target))

not_whole : (p : Pump) (b : Books) → Kept p b → is_whole b.doing ≡ false
not_whole p b k = go (under_way p) b.doing refl k.work
  where
    go : (x : Work) (doing : Doing) → under_way p ≡ x → SameWork p x doing → is_whole doing ≡ false
    go x nothing u s = refl
    go Entering (visiting w) u s = absurd s
    go (Visiting v) (visiting w) u s = visit_short p k.whole v w u s
    go (Pausing left) (visiting w) u s = absurd s
    go Waiting (visiting w) u s = absurd s

-- ---- where all is dropped
pub record Gone (q : Pump) : Type 0 where
  pub work : under_way q ≡ Entering
  pub loops : loops_of q ≡ []
  pub trap : is_some (run_of q).trap ≡ false

pub gone_stopped : (q : Pump) → Whole q → is_stopped_in (run_of q).mode ≡ true → Gone q
gone_stopped q w h = go (run_of q).mode refl h
  where
    go : (m : Mode) → (run_of q).mode ≡ m → is_stopped_in m ≡ true → Gone q
    go (Stopped alarm) e h =
        let n : Nothing (run_of q) = (sound_facts q w.sound).stopped alarm e in
        record { work = n.no_work; loops = ap (λ (k : ℕ). take k (run_of q).loops.slots) n.no_loop; trap = ap (is_some {T = ℕ}) n.no_trap }
    go Paused e h = false_true h
    go Running e h = false_true h

over : (t : Bool) (now : Doing) → (if t || true then nothing else now) ≡ nothing
over true now = refl
over false now = refl

-- the parts of a call that have nothing to do with the program
pub record Beside (b : Books) (e : Event) (q : Pump) : Type 0 where
  pub four : (core_of q).pins.four ≡ four_after b.four e.call
  pub line : q.device.line ≡ collect empty_line (line_after b.line (is_safe (view_of e.before)) e.call)
  pub totals : (d : Direction) → total_of (core_of q).ledger d ≡ (entry b e other true).given d

module _ (b : Books) (e : Event) (q : Pump) (s : Beside b e q) where
  pub makes_gone : (done : Deed) → Gone q → Every Fits (all_visits (doing_by b.doing e done) b.past) → Makes b e q done true
  makes_gone done g fits =
      record {
        work =
            subst (SameWork q (under_way q)) (sym (over (is_whole (doing_by b.doing e done)) (doing_by b.doing e done)))
            (subst (λ (x : Work). SameWork q x nothing) (sym g.work) tt);
        fits = fits;
        loops = g.loops;
        trap = g.trap;
        four = s.four;
        line = s.line;
        totals = s.totals;
      }

  -- and where nothing is
  pub makes_same :
      (p : Pump)
      → Kept p b
      → SameWork q (under_way q) b.doing
      → loops_of q ≡ loops_of p
      → is_some (run_of q).trap ≡ is_some (run_of p).trap
      → Makes b e q other false
  makes_same p k w l t =
      record {
        work =
            subst (λ (x : Bool). SameWork q (under_way q) (if x || false then nothing else b.doing)) (sym (not_whole p b k)) w;
        fits = k.fits;
        loops = l ∙ k.loops;
        trap = t ∙ k.trap;
        four = s.four;
        line = s.line;
        totals = s.totals;
      }
