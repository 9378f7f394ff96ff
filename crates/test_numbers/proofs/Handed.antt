-- What C is handed in each case that the code tells apart. A result is first said of what the number crate answered, and then,
-- by what that crate ensures, of its definitions.
use Rattle.std.specs.Prelude.{Option, Some, None, MatchOption}
use Prim.Native.Nat.{ℕ, ◌≤◌, ◌<◌}
use mathlib.Core.Path.{◌≡◌, sym, ap, ◌∙◌}
use mathlib.Core.Bool.{Bool, true, false}
use mathlib.Core.List.{List}
use native.Mathlib.Nat.{zero-add}
use lib.ListN.{length}
use borrow.Author.Tests.{le-leb, lt-leb}
use Rattle.base.specs.Wrote.{Wrote}
use Rattle.base.proofs.Writing.{wrote_first}
use Rattle.test_numbers.specs.Face.{reading_as, short_as, test_as, count_of, buffer_of}

-- ---- one number
pub number : (Set : ℕ → Type 0) (d : Option ℕ) (r : ℕ) → ((n : ℕ) → Set n → r ≡ n) → MatchOption d (r ≡ 4_294_967_296) Set → r ≡ reading_as d
unfolding reading_as
number Set (Some n) r p k = p n k
number Set None r p k = k

pub short : (Set : ℕ → Type 0) (d : Option ℕ) (r : ℕ) → ((n : ℕ) → Set n → r ≡ n) → MatchOption d (r ≡ 256) Set → r ≡ short_as d
unfolding short_as
short Set (Some n) r p k = p n k
short Set None r p k = k

pub short_same : (d e : Option ℕ) (r : ℕ) → r ≡ short_as d → d ≡ e → r ≡ short_as e
short_same d e r p q = p ∙ ap short_as q

pub test_true : (t u : Bool) → t ≡ true → t ≡ u → 1 ≡ test_as u
unfolding test_as
test_true t u e f = ap test_as (sym e ∙ f)

pub test_false : (t u : Bool) → t ≡ false → t ≡ u → 0 ≡ test_as u
unfolding test_as
test_false t u e f = ap test_as (sym e ∙ f)

pub ruleset as_numbers = (short_same, test_true, test_false)

-- ---- bytes in a buffer
module _ (text before : List ℕ) where
  pub count_room : (after : List ℕ) (r : ℕ) → length text ≤ length before → Wrote before after 0 r text → r ≡ count_of text before
  unfolding count_of
  count_room after r h w = rw (le-leb (length text) (length before) h) (w.ends ∙ zero-add (length text))

  pub buffer_room : (after : List ℕ) (r : ℕ) → length text ≤ length before → Wrote before after 0 r text → after ≡ buffer_of text before
  unfolding buffer_of
  buffer_room after r h w = rw (le-leb (length text) (length before) h) (wrote_first w)

  pub count_short : length before < length text → 0 ≡ count_of text before
  unfolding count_of
  count_short h = simp (lt-leb (length text) (length before) h)

  pub buffer_short : length before < length text → before ≡ buffer_of text before
  unfolding buffer_of
  buffer_short h = simp (lt-leb (length text) (length before) h)

pub count_same : (t u l : List ℕ) (r : ℕ) → r ≡ count_of t l → t ≡ u → r ≡ count_of u l
count_same t u l r p q = p ∙ ap (λ (v : List ℕ). count_of v l) q

pub buffer_same : (t u l m : List ℕ) → m ≡ buffer_of t l → t ≡ u → m ≡ buffer_of u l
buffer_same t u l m p q = p ∙ ap (λ (v : List ℕ). buffer_of v l) q

pub ruleset in_buffers = (count_room, buffer_room, count_short, buffer_short, count_same, buffer_same)
