-- What a buffer holds after an answer, by whether the answer was written.
-- Assumes nothing.
use Prim.Native.Nat.{ℕ, ◌≤◌, ◌<◌}
use mathlib.Core.Path.{◌≡◌, refl, ◌∙◌}
use mathlib.Core.List.{List}
use native.Mathlib.Nat.{zero-add}
use borrow.Author.Tests.{le-leb, lt-leb}
use lib.ListN.{length}
use Rattle.base.specs.Wrote.{Wrote}
use Rattle.base.proofs.Writing.{wrote_first}
use Rattle.words.specs.declared.answers.Said.{Said}
use Rattle.words.specs.declared.answers.Said.TheVariants as said
use Rattle.answer.specs.Answers.{text_of, framed_as, answer_of, room, length_in, buffer_after}
use Rattle.answer.specs.declared.frame.Frame.{Frame}

-- the contract of `write` for a buffer l: the length j is told, and m is what the buffer holds after
abbrev pub Met : Frame → ℕ → Said → List ℕ → ℕ → List ℕ → Type 0
Met frame address said l j m = (j ≡ length_in frame address said l) × (m ≡ buffer_after frame address said l)

pub untouched : (frame : Frame) (address : ℕ) (said : Said) (l : List ℕ) → length l < room → Met frame address said l 0 l
unfolding length_in buffer_after
untouched frame address said l h = (simp (lt-leb room (length l) h), simp (lt-leb room (length l) h))

pub answered :
    (frame : Frame) (address : ℕ) (said : Said) {l m : List ℕ} {j : ℕ}
    → room ≤ length l
    → Wrote l m 0 j (answer_of frame address said)
    → Met frame address said l j m
unfolding length_in buffer_after
answered frame address said {l} h a =
    (simp (le-leb room (length l) h) (a.ends ∙ zero-add _), simp (le-leb room (length l) h) (wrote_first a))

-- what is said, an alarm or an answer, is framed
pub something :
    (frame : Frame) (address : ℕ) (what : Said)
    → (what ≡ said.Nothing → ⊥)
    → framed_as frame (text_of address what) ≡ answer_of frame address what
something frame address said.Nothing k = absurd (k refl)
something frame address (said.Alarm alarm) k = refl
something frame address (said.Answer status reply) k = refl
