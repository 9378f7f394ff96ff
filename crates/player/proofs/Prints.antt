-- What is printed, one run of bytes behind the other.
-- Assumes nothing.
use Rattle.std.specs.Prelude.{if◌then◌else◌}
use Prim.Native.Nat.{ℕ, zero, suc, ◌+◌, ◌-◌, ◌≤◌}
use mathlib.Core.Path.{◌≡◌, refl, sym}
use mathlib.Core.Bool.{Bool, true, false}
use mathlib.Core.List.{List, [], ◌∷◌, ◌++◌, append_assoc}
use native.Mathlib.Omega.{arith}
use lib.Dec.{eqb}
use lib.ListN.{length, take, drop, length-append, length-take}
use Rattle.std.proofs.lemmas.List.{length-take-le, take-take}
use borrow.Author.Tests.{ne_eqb}
use Rattle.player.specs.Printing.{complaint_line, unframed, decimal, counts_line}

-- ---- what lies between STX and ETX, and a newline
framed_few : (n : ℕ) (answer : List ℕ) → length (unframed n answer ++ 10 ∷ []) ≤ n - 2 + 1
unfolding unframed
framed_few n answer = simp (length-append, length-take) (omega arith)

-- of an answer that is a part of a buffer
taken_unframed :
    (n : ℕ) (buffer : List ℕ) → n ≤ length buffer → unframed (length (take n buffer)) (take n buffer) ≡ unframed n buffer
unfolding unframed
taken_unframed zero buffer h = refl
taken_unframed (suc n) [] h = absurd (omega arith)
taken_unframed (suc n) (b ∷ s) h = rw (length-take-le (suc n) (b ∷ s) h) (take-take (suc n - 2) n s (omega arith))

-- ---- what a byte call has to say
module _ (refused : Bool) (n : ℕ) (answer : List ℕ) where
  abbrev pub to_say : List ℕ
  to_say = if refused then complaint_line else if eqb n 0 then [] else unframed n answer ++ 10 ∷ []

  pub answer_framed : refused ≡ false → (n ≡ 0 → ⊥) → take (n - 1 - 1) (drop 1 answer) ++ 10 ∷ [] ≡ to_say
  unfolding unframed
  answer_framed e s =
      let f : n - 1 - 1 ≡ n - 2 = omega arith in
      rw e (rw f (sym (simp (ne_eqb n 0 s))))

  -- at most 23 bytes
  pub said_few : n ≤ 24 → length to_say ≤ 23
  said_few h = by refused (eqb n 0)
    where
      by : (t none : Bool) → length (if t then complaint_line else if none then [] else unframed n answer ++ 10 ∷ []) ≤ 23
      by true none = omega arith
      by false true = omega arith
      by false false = omega (arith, framed_few n answer)

-- an answer that is a part of a buffer
pub said_taken :
    (refused : Bool) (n : ℕ) (buffer : List ℕ)
    → n ≤ length buffer
    → to_say refused (length (take n buffer)) (take n buffer) ≡ to_say refused n buffer
said_taken refused n buffer h =
    rw (taken_unframed n buffer h) (rw (length-take-le n buffer h) refl)

-- ---- three counts with their letters
tidy :
    (x y z : List ℕ)
    → ((84 ∷ 32 ∷ (x ++ 32 ∷ [])) ++ (73 ∷ 32 ∷ (y ++ 32 ∷ []))) ++ (87 ∷ 32 ∷ (z ++ 10 ∷ []))
    ≡ (84 ∷ 32 ∷ x) ++ (32 ∷ 73 ∷ 32 ∷ y) ++ (32 ∷ 87 ∷ 32 ∷ z) ++ (10 ∷ [])
tidy x y z = simp append_assoc

pub counted_line :
    (n infused withdrawn : ℕ)
    → ((84 ∷ 32 ∷ (decimal n ++ 32 ∷ [])) ++ (73 ∷ 32 ∷ (decimal infused ++ 32 ∷ []))) ++ (87 ∷ 32 ∷ (decimal withdrawn ++ 10 ∷ []))
    ≡ counts_line n infused withdrawn
unfolding counts_line
counted_line n infused withdrawn = tidy (decimal n) (decimal infused) (decimal withdrawn)
