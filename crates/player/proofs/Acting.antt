-- What each act does to the rig and prints, by what was called and tested.
-- Assumes nothing.
use Rattle.std.specs.Prelude.{if◌then◌else◌}
use Prim.Native.Nat.{ℕ, ◌≤◌}
use mathlib.Core.Path.{◌≡◌, refl, sym, ap, ◌∙◌}
use mathlib.Core.Bool.{Bool, true, false, ◌||◌, or-true, not}
use mathlib.Core.List.{List, [], ◌∷◌, ◌++◌}
use native.Mathlib.Omega.{arith}
use lib.Dec.{eqb}
use lib.ListN.{length, take}
use borrow.Author.Tests.{ne_eqb}
use Rattle.pump.specs.Calls.{byte_report, byte_buffer}
use Rattle.pump.specs.declared.holder.Pump.{Pump}
use Rattle.pump.specs.Reports.{is_refused}
use Rattle.pump.specs.declared.reports.Report.{Report}
use Rattle.script.specs.Places.{newline}
use Rattle.player.specs.Elapsing.{zeros}
use Rattle.player.specs.Printing.{complaint_line, unframed}
use Rattle.player.specs.Rigs.{report_on, buffer_on, answer_line, sent_rig, sent_line}
use Rattle.player.specs.declared.rigs.Rig.{Rig}
use Rattle.player.proofs.Prints.{to_say, said_taken}

-- ---- a rig, by its pump and whether the text had an answer
abbrev pub holding : Pump → Bool → Rig
holding p t = record { pump = p; replied = t }

-- ---- whether anything was printed
abbrev pub some : List ℕ → Bool
some [] = false
some (b ∷ s) = true

pub some_kept : (v : List ℕ) → not (eqb (length v) 0) ≡ some v
some_kept [] = refl
some_kept (b ∷ v) = rw (ne_eqb (length (b ∷ v)) 0 (λ z. absurd (omega arith)))

some_line : (s : List ℕ) → some (s ++ (newline ∷ [])) ≡ true
some_line [] = refl
some_line (b ∷ s) = refl

or_false : (t : Bool) → (t || false) ≡ t
or_false true = refl
or_false false = refl

told :
    (refused none was : Bool) (line : List ℕ)
    → (if refused then true else if none then was else true)
    ≡ (was || some (if refused then complaint_line else if none then [] else line ++ (newline ∷ [])))
told true none was line = sym (or-true was)
told false true was line = sym (or_false was)
told false false was line = rw (some_line line) (sym (or-true was))

pub replied_told : (g : Rig) (b : ℕ) → (sent_rig g b).replied ≡ (g.replied || some (sent_line g b))
unfolding sent_rig sent_line answer_line
replied_told g b =
    told
    (is_refused (report_on g.pump b).refusal)
    (eqb (report_on g.pump b).length 0)
    g.replied
    (unframed (report_on g.pump b).length (buffer_on g.pump b))

-- ---- one byte
module _ (g : Rig) (b : ℕ) (r : Report) (e : r ≡ byte_report g.pump b zeros) where
  pub sent_says :
      (t : Bool) (buffer : List ℕ)
      → t ≡ is_refused r.refusal
      → buffer ≡ byte_buffer g.pump b zeros
      → r.length ≤ length buffer
      → to_say t (length (take r.length buffer)) (take r.length buffer) ≡ sent_line g b
  unfolding sent_line report_on buffer_on answer_line
  sent_says t buffer q f h = said_taken t r.length buffer h ∙ rw (q, f, e)

  pub sent_holds : (lines : List ℕ) → lines ≡ sent_line g b → holding r.pump (g.replied || not (eqb (length lines) 0)) ≡ sent_rig g b
  unfolding sent_rig report_on
  sent_holds lines h =
      ap (λ (t : Bool). holding r.pump (g.replied || t)) (some_kept lines ∙ ap some h)
      ∙ ap (holding r.pump) (sym (replied_told g b))
      ∙ ap (λ (q : Report). holding q.pump (sent_rig g b).replied) e
