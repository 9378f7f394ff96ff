-- The program under way stays sound: replaced whole, or where it goes on.
-- Assumes nothing.
use Rattle.std.specs.Prelude.{if◌then◌else◌, Option}
use Prim.Native.Nat.{ℕ, ◌+◌, ◌≤◌}
use mathlib.Core.Path.{◌≡◌, refl, ap, ◌∙◌}
use mathlib.Core.Logic.{⊎_elim}
use mathlib.Core.Bool.{Bool, true, false}
use native.Mathlib.Omega.{arith}
use lib.Dec.{leb, eqb}
use borrow.Author.Tests.{leb-true, eqb-false}
use Rattle.base.proofs.Choices as choices
use Rattle.base.proofs.Choices.{and_left, and_right}
use Rattle.drive.specs.Rates.{most_rate}
use Rattle.drive.specs.declared.syringe.Syringe.{Syringe}
use Rattle.words.specs.Functions.{number, is_phase}
use Rattle.words.specs.declared.answers.Alarm.{Alarm}
use Rattle.words.specs.declared.phases.Phase.{Phase}
use Rattle.loops.specs.Loops.{is_sound_loops}
use Rattle.loops.specs.declared.Loops.{Loops}
use Rattle.loops.proofs.Soundness.{none_sound}
use Rattle.dispense.specs.Rates.{thousandths}
use Rattle.dispense.specs.declared.rates.Rate.{Rate}
use Rattle.program.specs.Runs.{with_place, fresh_at, doing, go_to, go_on}
use Rattle.program.specs.Sound.{Table, is_sound_trap, is_sound_work, is_sound_mode}
use Rattle.program.specs.declared.state.Mode.{Mode}
use Rattle.program.specs.declared.state.Mode.TheVariants.{Stopped, Paused, Running}
use Rattle.program.specs.declared.state.Run.{Run}
use Rattle.program.specs.declared.state.Work.{Work}
use Rattle.program.specs.declared.state.Work.TheVariants.{Entering}
use Rattle.program.proofs.Parts.{RunClauses, run_sound}
use Rattle.soundness.specs.Kept.{KeptRun}

-- what both ways out of a test have
pub by_test : {A : Type 0} (P : A → Type 0) (t : Bool) {a b : A} → (t ≡ true → P a) → (t ≡ false → P b) → P (if t then a else b)
by_test P true f g = f refl
by_test P false f g = g refl

pub phase_bounds : (phases n : ℕ) → is_phase phases n ≡ true → (1 ≤ n) × (n ≤ phases)
phase_bounds phases n e =
    (leb-true 1 n (and_left (leb 1 n) (leb n phases) e), leb-true n phases (and_right (leb 1 n) (leb n phases) e))

-- ---- a fresh program, in any mode
fresh_mode : (n : ℕ) (m : Mode) → is_sound_mode (fresh_at n m) m ≡ true
fresh_mode n (Stopped alarm) = refl
fresh_mode n Paused = refl
fresh_mode n Running = refl

pub fresh_sound : (phases n : ℕ) (m : Mode) → 1 ≤ n → n ≤ phases + 1 → RunClauses phases (fresh_at n m)
fresh_sound phases n m lo hi =
    record {
      least = lo;
      most = hi;
      rate_most = omega arith;
      trap_sound = refl;
      loops_sound = none_sound phases;
      mode_sound = fresh_mode n m;
    }

pub fresh_kept : (phases : ℕ) (look : ℕ → Phase) (d : Syringe) (n : ℕ) (m : Mode) → 1 ≤ n → n ≤ phases + 1 → KeptRun phases look d (fresh_at n m)
fresh_kept phases look d n m lo hi = (run_sound phases (fresh_at n m) (fresh_sound phases n m lo hi), refl)

-- ---- a program whose mode asks nothing of the rest: it runs
pub record Going (phases : ℕ) (r : Run) : Type 0 where
  pub clauses : RunClauses phases r
  pub free : (q : Run) → is_sound_mode q r.mode ≡ true

pub going_of : (phases : ℕ) (r : Run) → RunClauses phases r → r.mode ≡ Running → Going phases r
going_of phases r c m = record { clauses = c; free = λ q. ap (is_sound_mode q) m }

-- with another rate, trap or loops
pub going_with :
    (phases : ℕ) (r : Run) (rate : Option Rate) (trap : Option ℕ) (loops : Loops)
    → Going phases r
    → thousandths rate ≤ most_rate
    → is_sound_trap phases trap ≡ true
    → is_sound_loops phases loops ≡ true
    → Going phases (record { place = r.place; rate = rate; loops = loops; mode = r.mode; trap = trap })
going_with phases r rate trap loops g a b c =
    record {
      clauses =
          record {
            least = g.clauses.least;
            most = g.clauses.most;
            rate_most = a;
            trap_sound = b;
            loops_sound = c;
            mode_sound = g.free (record { place = r.place; rate = rate; loops = loops; mode = r.mode; trap = trap });
          };
      free = g.free;
    }

-- ---- where it goes, and how it ends
module _ (phases : ℕ) (look : ℕ → Phase) (d : Syringe) (r : Run) (g : Going phases r) where
  placed_kept :
      (work : Work) (n : ℕ)
      → 1 ≤ n
      → n ≤ phases + 1
      → is_sound_work d (look n) r.rate work ≡ true
      → KeptRun phases look d (with_place r (record { work = work; current = n }))
  placed_kept work n lo hi w = (
    run_sound phases _
        (record {
          least = lo;
          most = hi;
          rate_most = g.clauses.rate_most;
          trap_sound = g.clauses.trap_sound;
          loops_sound = g.clauses.loops_sound;
          mode_sound = g.free (with_place r (record { work = work; current = n }));
        }),
    w,
  )

  pub to_kept : (n : ℕ) → 1 ≤ n → n ≤ phases + 1 → KeptRun phases look d (go_to r n)
  to_kept n lo hi = placed_kept Entering n lo hi refl

  pub next_kept : r.place.current ≤ phases → KeptRun phases look d (go_on r)
  next_kept h = to_kept (r.place.current + 1) (omega arith) (omega arith)

  pub jump_kept : (n : ℕ) → is_phase phases n ≡ true → KeptRun phases look d (go_to r n)
  jump_kept n e = let b = phase_bounds phases n e in to_kept n b.0 (omega (arith, b.1))

  -- the same phase, doing something that is sound there
  pub doing_kept : (work : Work) → is_sound_work d (look r.place.current) r.rate work ≡ true → KeptRun phases look d (doing r work)
  doing_kept work w = placed_kept work r.place.current g.clauses.least g.clauses.most w

module _ (phases : ℕ) (look : ℕ → Phase) (d : Syringe) (r : Run) (c : RunClauses phases r) where
  -- stopped at the phase where it stands, with an alarm or none
  pub stop_kept : (alarm : Option Alarm) → KeptRun phases look d (fresh_at r.place.current (Stopped alarm))
  stop_kept alarm = fresh_kept phases look d r.place.current (Stopped alarm) c.least c.most

-- ---- only a phase that stops stands past the last
pub within :
    (phases : ℕ) (look : ℕ → Phase)
    → Table phases look
    → (r : Run)
    → RunClauses phases r
    → eqb (number (look r.place.current).function) 3 ≡ false
    → r.place.current ≤ phases
within phases look table r c n =
    ⊎_elim (λ h. h)
    (λ h.
    let q : r.place.current ≡ phases + 1 = omega (arith, c.most) in
    absurd (eqb-false _ 3 n (ap (λ (k : ℕ). number (look k).function) q ∙ ap number table.past)))
    (choices.within r.place.current phases)
