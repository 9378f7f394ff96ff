-- Lines, from the runs of bytes that make them.
-- Assumes nothing.
use Prim.Native.Nat.{ℕ, ◌≤◌, ◌<◌}
use mathlib.Core.Path.{◌≡◌, sym, ap}
use mathlib.Core.Bool.{Bool, true, false}
use mathlib.Core.Logic.{⊎_elim}
use mathlib.Core.List.{List, [], ◌∷◌, ◌++◌, append_assoc}
use native.Mathlib.Omega.{arith}
use mir.Val.{bool_byte}
use lib.ListN.{length, take, length-take}
use lib.Dec.{eqb}
use Rattle.base.proofs.Flags.{flag_counted}
use Rattle.pump.specs.Calls.{byte_report, ticks_call}
use Rattle.pump.specs.Reports.{is_refused}
use Rattle.pump.specs.declared.holder.Pump.{Pump}
use Rattle.pump.specs.declared.reports.Report.{Report}
use Rattle.player.specs.Printing.{complaint_line, decimal}
use Rattle.player.specs.Elapsing.{zeros, portion}
use Rattle.player.specs.declared.elapsing.Elapsed.{Elapsed}
use Rattle.player.proofs.Answers.{sized}
use Rattle.player.proofs.Done.{few_done, some_done, sent_sized}
use Rattle.service.specs.Printing.{effects_line, ticks_line, hex_line, byte_line}

-- ---- what ticks gave: five counts with their letters, put one behind the other
pub effects_lem :
    (n infused withdrawn beeps level : ℕ)
    → ((((84 ∷ 32 ∷ (decimal n ++ 32 ∷ []))
    ++ (73 ∷ 32 ∷ (decimal infused ++ 32 ∷ [])))
    ++ (87 ∷ 32 ∷ (decimal withdrawn ++ 32 ∷ [])))
    ++ (66 ∷ 32 ∷ (decimal beeps ++ 32 ∷ [])))
    ++ (79 ∷ 32 ∷ (decimal level ++ 10 ∷ []))
    ≡ effects_line n infused withdrawn beeps level
unfolding effects_line
effects_lem n infused withdrawn beeps level = tidy (decimal n) (decimal infused) (decimal withdrawn) (decimal beeps) (decimal level)
  where
    tidy :
        (v w x y z : List ℕ)
        → ((((84 ∷ 32 ∷ (v ++ 32 ∷ []))
        ++ (73 ∷ 32 ∷ (w ++ 32 ∷ [])))
        ++ (87 ∷ 32 ∷ (x ++ 32 ∷ [])))
        ++ (66 ∷ 32 ∷ (y ++ 32 ∷ [])))
        ++ (79 ∷ 32 ∷ (z ++ 10 ∷ []))
        ≡ (84 ∷ 32 ∷ v)
        ++ (32 ∷ 73 ∷ 32 ∷ w)
        ++ (32 ∷ 87 ∷ 32 ∷ x)
        ++ (32 ∷ 66 ∷ 32 ∷ y)
        ++ (32 ∷ 79 ∷ 32 ∷ z)
        ++ (10 ∷ [])
    tidy v w x y z = simp append_assoc

-- ---- ticks that were refused, and others; the code makes a number of the level
module _ (n : ℕ) (e : Elapsed) where
  pub ticks_refused : e.refused ≡ true → complaint_line ≡ ticks_line n e
  unfolding ticks_line
  ticks_refused r = sym (simp r)

  pub ticks_counted : e.refused ≡ false → effects_line n e.infused e.withdrawn e.beeps (bool_byte e.output) ≡ ticks_line n e
  unfolding ticks_line
  ticks_counted r = rw (flag_counted e.output) (sym (simp r))

-- ---- a byte call that was refused, one without an answer, and one with it
module _ (refused : Bool) (answer : List ℕ) where
  pub byte_refused : refused ≡ true → complaint_line ≡ byte_line refused answer
  unfolding byte_line
  byte_refused r = sym (simp r)

  pub byte_silent : refused ≡ false → eqb (length answer) 0 ≡ true → [] ≡ byte_line refused answer
  unfolding byte_line
  byte_silent r z = sym (simp (r, z))

  pub byte_answered : refused ≡ false → eqb (length answer) 0 ≡ false → hex_line answer ≡ byte_line refused answer
  unfolding byte_line
  byte_answered r z = sym (simp (r, z))

-- ---- what the code needs: an answer is short, and what was written is a part of the buffer
pub answer_few : (p : Pump) (b : ℕ) (r : Report) → r ≡ byte_report p b zeros → r.length ≤ 24
answer_few p b r e = ⊎_elim (λ z. omega arith) (λ h. h.1) (sized p b r e)

-- a call of ticks for what is left of them: what it sends is short, and it does at least one, where it is not refused, and no more
module _ (p : Pump) (left n : ℕ) (asked : n ≡ portion left) (r : Report) (e : r ≡ ticks_call p n zeros) where
  pub packet_few : r.length ≤ 24
  packet_few = rw e (sent_sized p n zeros)

  pub call_few : r.ticks ≤ left
  unfolding portion
  call_few = omega (arith, asked, ap (λ (x : Report). x.ticks) e, few_done p n zeros)

  pub call_some : 0 < left → is_refused r.refusal ≡ false → 1 ≤ r.ticks
  unfolding portion
  call_some some taken =
      let one = some_done p n zeros (omega (arith, asked)) (rw e at taken) in omega (arith, ap (λ (x : Report). x.ticks) e, one)
