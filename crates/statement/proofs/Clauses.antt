-- Clauses of soundness as tests and as facts: function data, what stands in which phase, rates, phases, visits, the line, the mode.
-- Assumes nothing.
use Rattle.std.specs.Prelude.{Option, Some, None}
use Prim.Native.Nat.{ℕ, zero, suc, ◌≤◌, ◌<◌}
use mathlib.Core.Path.{◌≡◌, refl, sym, ap, ◌∙◌}
use mathlib.Core.Logic.{◌⊎◌, inl, inr, ⊎_elim, ◌↔◌}
use mathlib.Core.Bool.{Bool, true, false, ◌&&◌, ◌||◌, not}
use mathlib.Core.List.{List, [], ◌∷◌}
use native.Mathlib.Nat.{zero-mul, zero-div}
use native.Mathlib.Omega.{arith}
use lib.Dec.{leb}
use lib.ListN.{length, get_or}
use borrow.Author.Tests.{leb-true, le-leb, eqb-true, not-true}
use Rattle.std.specs.Prelude.{Option}
use Rattle.base.proofs.Choices.{and_left, and_right, and_false, false_true, within}
use Rattle.base.proofs.Each.{and_both, either}
use Rattle.decimal.proofs.Theorems.{writable_iff}
use Rattle.drive.specs.Syringe.{volume_in_fl, step_target}
use Rattle.drive.specs.declared.syringe.Syringe.{Syringe}
use Rattle.drive.proofs.Theorems.{usable_iff}
use Rattle.words.specs.Functions.{fits, is_rate_phase, is_wait}
use Rattle.words.specs.Phases.{is_sound_phase}
use Rattle.words.specs.declared.answers.Alarm.{Alarm}
use Rattle.words.specs.declared.functions.Function.{Function}
use Rattle.words.specs.declared.functions.Function.TheVariants as f
use Rattle.words.specs.declared.phases.Phase.{Phase}
use Rattle.dispense.specs.Rates.{is_usable_rate}
use Rattle.dispense.specs.declared.rates.Rate.{Rate}
use Rattle.dispense.specs.declared.visits.Visit.{Visit}
use Rattle.program.specs.Sound.{is_sound_visit, is_sound_mode}
use Rattle.program.specs.declared.state.Mode.{Mode}
use Rattle.program.specs.declared.state.Mode.TheVariants.{Stopped, Paused, Running}
use Rattle.program.specs.declared.state.Run.{Run}
use Rattle.program.proofs.Parts.{phase_clauses, phase_sound, visit_clauses, visit_sound, idle_clauses, idle_sound}
use Rattle.line.specs.Characters.{can_stand}
use Rattle.line.specs.Lines.{line_text, all_stand, is_sound_line}
use Rattle.line.specs.declared.lines.Line.{Line}
use Rattle.line.proofs.Characters.{dropped_low, not_dropped, lower, below_lower, above_lower, stands, falls_dropped, falls_delete}
use Rattle.pump.specs.Holder.{stop_phase, is_sound_phases}
use Rattle.statement.specs.Facts.{Between, Datum, PhaseFacts, Usable, VisitFacts, Character, LineFacts, Nothing}

-- ---- numbers between two ends
at_most : (n most : ℕ) → (leb n most ≡ true) ↔ (n ≤ most)
at_most n most = (leb-true n most, le-leb n most)

pub between : (least n most : ℕ) → ((leb least n && leb n most) ≡ true) ↔ Between least n most
between least n most = (
  (λ h. (leb-true least n (and_left (leb least n) (leb n most) h), leb-true n most (and_right (leb least n) (leb n most) h))),
  (λ b. and_both (leb least n) (leb n most) (le-leb least n b.0) (le-leb n most b.1)),
)

-- ---- a function's datum
anyhow : (◌≡◌ {A = Bool} true true) ↔ Unit {0}
anyhow = ((λ h. tt), (λ u. refl))

datum : (phases : ℕ) (g : Function) → (fits phases g ≡ true) ↔ Datum phases g
datum phases f.Rat = anyhow
datum phases f.Inc = anyhow
datum phases f.Dec = anyhow
datum phases f.Stp = anyhow
datum phases (f.Jmp n) = between 1 n phases
datum phases (f.Lop n) = between 1 n 99
datum phases f.Lps = anyhow
datum phases f.Lpe = anyhow
datum phases (f.Pas n) = at_most n 99
datum phases (f.Tenths n) = between 1 n 99
datum phases (f.If n) = between 1 n phases
datum phases (f.Evn n) = between 1 n phases
datum phases f.Evr = anyhow
datum phases f.Bep = anyhow
datum phases (f.Out n) = at_most n 1

-- ---- rate phases, and PAS 0
abbrev RatePhase : Function → Type 0
RatePhase g = (g ≡ f.Rat) ⊎ (g ≡ f.Inc) ⊎ (g ≡ f.Dec)

pub stands_in : (g : Function) → (is_rate_phase g ≡ true → RatePhase g) × (is_wait g ≡ true → g ≡ f.Pas 0)
stands_in f.Rat = ((λ h. inl refl), (λ h. false_true h))
stands_in f.Inc = ((λ h. inr (inl refl)), (λ h. false_true h))
stands_in f.Dec = ((λ h. inr (inr refl)), (λ h. false_true h))
stands_in f.Stp = ((λ h. false_true h), (λ h. false_true h))
stands_in (f.Jmp n) = ((λ h. false_true h), (λ h. false_true h))
stands_in (f.Lop n) = ((λ h. false_true h), (λ h. false_true h))
stands_in f.Lps = ((λ h. false_true h), (λ h. false_true h))
stands_in f.Lpe = ((λ h. false_true h), (λ h. false_true h))
stands_in (f.Pas n) = ((λ h. false_true h), (λ h. ap f.Pas (eqb-true n 0 h)))
stands_in (f.Tenths n) = ((λ h. false_true h), (λ h. false_true h))
stands_in (f.If n) = ((λ h. false_true h), (λ h. false_true h))
stands_in (f.Evn n) = ((λ h. false_true h), (λ h. false_true h))
stands_in f.Evr = ((λ h. false_true h), (λ h. false_true h))
stands_in f.Bep = ((λ h. false_true h), (λ h. false_true h))
stands_in (f.Out n) = ((λ h. false_true h), (λ h. false_true h))

rate_phase_test : (g : Function) → RatePhase g → is_rate_phase g ≡ true
rate_phase_test g (inl e) = ap is_rate_phase e
rate_phase_test g (inr (inl e)) = ap is_rate_phase e
rate_phase_test g (inr (inr e)) = ap is_rate_phase e

-- ---- the phases
module _ (phases : ℕ) (p : Phase) where
  phase_facts : is_sound_phase phases p ≡ true → PhaseFacts phases p
  phase_facts h =
      let k = phase_clauses phases p h in
      record {
        datum = (datum phases p.function).0 k.datum_fits;
        rate = (writable_iff p.rate).0 k.rate_written;
        volume = (writable_iff p.volume).0 k.volume_written;
      }

  phase_test : PhaseFacts phases p → is_sound_phase phases p ≡ true
  phase_test k =
      phase_sound phases p
      (record {
        rate_written = (writable_iff p.rate).1 k.rate;
        volume_written = (writable_iff p.volume).1 k.volume;
        datum_fits = (datum phases p.function).1 k.datum;
      })

module _ (phases : ℕ) where
  pub each_phase : (ps : List Phase) → is_sound_phases phases ps ≡ true → (i : ℕ) → i < length ps → PhaseFacts phases (get_or ps i stop_phase)
  unfolding is_sound_phases
  each_phase [] h i k = absurd (omega arith)
  each_phase (p ∷ ps) h zero k = phase_facts phases p (and_left (is_sound_phase phases p) (is_sound_phases phases ps) h)
  each_phase (p ∷ ps) h (suc i) k = each_phase ps (and_right (is_sound_phase phases p) (is_sound_phases phases ps) h) i (omega arith)

  pub phases_test : (ps : List Phase) → ((i : ℕ) → i < length ps → PhaseFacts phases (get_or ps i stop_phase)) → is_sound_phases phases ps ≡ true
  unfolding is_sound_phases
  phases_test [] h = refl
  phases_test (p ∷ ps) h =
      and_both (is_sound_phase phases p) (is_sound_phases phases ps) (phase_test phases p (h 0 (omega arith)))
      (phases_test ps (λ i k. h (suc i) (omega arith)))

-- ---- a visit
usable_rate : (d : Syringe) (rate : Option Rate) → (is_usable_rate d rate ≡ true) ↔ Usable d rate
usable_rate d None = ((λ h. false_true h), (λ u. absurd u))
usable_rate d (Some r) = usable_iff d r.thousandths r.unit

-- no volume has no target
no_target : (d : Syringe) (volume : ℕ) → volume ≡ 0 → step_target d volume ≡ 0
unfolding step_target volume_in_fl
no_target d volume e = rw e (simp (zero-mul, zero-div))

module _ (d : Syringe) (here : Phase) (rate : Option Rate) (v : Visit) where
  pub visit_facts : is_sound_visit d here rate v ≡ true → VisitFacts d here rate v
  visit_facts h =
      let c = visit_clauses d here rate v h in
      record {
        store_below = c.store_below;
        aimed = c.aimed;
        given_below = λ ne. ⊎_elim (λ k. k) (λ k. absurd (ne k.0)) c.fewer_given;
        none_counted =
            λ z. ⊎_elim (λ k. absurd (omega (arith, no_target d here.volume z))) (λ k. k.1) c.fewer_given;
        usable = (usable_rate d rate).0 c.rate_usable;
        in_rate_phase = (stands_in here.function).0 c.in_rate_phase;
      }

  pub visit_test : VisitFacts d here rate v → is_sound_visit d here rate v ≡ true
  visit_test k =
      visit_sound d here rate v
      (record {
        store_below = k.store_below;
        aimed = k.aimed;
        fewer_given =
            ⊎_elim (λ z. inr (omega arith, k.none_counted (omega arith))) (λ z. inl (k.given_below (omega arith)))
            (within here.volume 0);
        rate_usable = (usable_rate d rate).1 k.usable;
        in_rate_phase = rate_phase_test here.function k.in_rate_phase;
      })

-- ---- the characters of a line
module _ (c : ℕ) where
  falls_lower : 97 ≤ c → c ≤ 122 → false ≡ can_stand c
  unfolding can_stand
  falls_lower l h = simp (lower c l (omega arith), and_false)

  character : can_stand c ≡ true → Character c
  character h =
      record {
        above_blank = ⊎_elim (λ k. false_true (falls_dropped c (dropped_low c (omega arith)) ∙ h)) (λ k. k) (within c 32);
        no_delete = λ e. false_true (falls_delete c e ∙ h);
        no_lower = λ l. ⊎_elim (λ k. false_true (falls_lower l k ∙ h)) (λ k. k) (within c 122);
      }

  character_test : Character c → can_stand c ≡ true
  character_test k =
      sym
      (stands c (not_dropped c k.above_blank k.no_delete)
      (⊎_elim (λ l. above_lower c (k.no_lower l)) (below_lower c) (within 97 c)))

each_character : (s : List ℕ) → all_stand s ≡ true → (i : ℕ) → i < length s → Character (get_or s i 0)
unfolding all_stand
each_character [] h i k = absurd (omega arith)
each_character (c ∷ s) h zero k = character c (and_left (can_stand c) (all_stand s) h)
each_character (c ∷ s) h (suc i) k = each_character s (and_right (can_stand c) (all_stand s) h) i (omega arith)

characters_test : (s : List ℕ) → ((i : ℕ) → i < length s → Character (get_or s i 0)) → all_stand s ≡ true
unfolding all_stand
characters_test [] h = refl
characters_test (c ∷ s) h =
    and_both (can_stand c) (all_stand s) (character_test c (h 0 (omega arith))) (characters_test s (λ i k. h (suc i) (omega arith)))

-- ---- the line
module _ (l : Line) where
  abbrev lens : Bool
  lens = leb l.len 40 && (not l.overlong || leb 40 l.len)

  pub line_facts : is_sound_line l ≡ true → LineFacts l
  unfolding is_sound_line
  line_facts h =
      let k = and_left lens (all_stand (line_text l)) h in
      record {
        forty = leb-true _ _ (and_left (leb l.len 40) (not l.overlong || leb 40 l.len) k);
        overlong_full =
            λ o.
            either (not l.overlong) (leb 40 l.len) (λ e. false_true (sym (not-true l.overlong e) ∙ o)) (leb-true 40 l.len)
            (and_right (leb l.len 40) (not l.overlong || leb 40 l.len) k);
        characters = each_character (line_text l) (and_right lens (all_stand (line_text l)) h);
      }

  pub line_test : LineFacts l → is_sound_line l ≡ true
  unfolding is_sound_line
  line_test k =
      and_both lens (all_stand (line_text l))
      (and_both (leb l.len 40) (not l.overlong || leb 40 l.len) (le-leb _ _ k.forty) (full l.overlong refl))
      (characters_test (line_text l) k.characters)
    where
      full : (t : Bool) → l.overlong ≡ t → (not t || leb 40 l.len) ≡ true
      full true e = le-leb 40 l.len (k.overlong_full e)
      full false e = refl

-- ---- the mode: a stopped pump has nothing under way
module _ (r : Run) where
  pub nothing : (a : Option Alarm) → is_sound_mode r (Stopped a) ≡ true → Nothing r
  nothing a h =
      let c = idle_clauses r h in
      record { no_work = c.no_work; no_trap = c.no_trap; no_loop = c.no_loop; no_rate = c.no_rate }

  pub mode_test : (m : Mode) → ((a : Option Alarm) → m ≡ Stopped a → Nothing r) → is_sound_mode r m ≡ true
  mode_test (Stopped a) n =
      let k = n a refl in
      idle_sound r (record { no_work = k.no_work; no_trap = k.no_trap; no_loop = k.no_loop; no_rate = k.no_rate })
  mode_test Paused n = refl
  mode_test Running n = refl
