-- What an input prints from a place of a line on, its end included, and the rig that it leaves: within a line that is no text nothing
-- is done, and at its end what its parts ask for.
-- Assumes nothing.
use Rattle.std.specs.Prelude.{Option, Some, None, unwrap_or}
use Prim.Native.Nat.{ℕ, ◌+◌, ◌*◌, ◌-◌}
use mathlib.Core.Path.{◌≡◌, refl, sym, ap, ◌∙◌}
use mathlib.Core.Logic.{inl}
use mathlib.Core.Bool.{Bool, true, false}
use mathlib.Core.List.{List, [], ◌∷◌, ◌++◌, append_assoc, append-nil}
use lib.Dec.{eqb}
use Rattle.base.specs.Text.{letter}
use Rattle.base.proofs.Choices.{false_true}
use Rattle.decimal.specs.Read.{is_digit}
use Rattle.script.specs.Items.{at_newline}
use Rattle.script.specs.Numbers.{grown, ticks_asked, level_asked}
use Rattle.script.specs.Places.{carriage_return, newline, input_end, next, act_on, after_spot}
use Rattle.script.specs.Places.{behind_tick, in_ticks, behind_edge, pin_ended, in_pin, in_level}
use Rattle.player.specs.Rigs.{rig_after, printed}
use Rattle.player.specs.Scripts.{bench_after, turn_says, play, says}
use Rattle.player.specs.declared.feeding.Bench.{Bench}
use Rattle.script.specs.declared.places.Act.{Act}
use Rattle.script.specs.declared.places.Act.TheVariants.{Complain}
use Rattle.script.specs.declared.places.Spot.{Spot}
use Rattle.script.specs.declared.places.Spot.TheVariants.{Start, Tick, Ticks, Edge, Pin, Level, Returned, Bad}
use Rattle.player.specs.declared.rigs.Rig.{Rig}
use Rattle.script.proofs.Cuts.{Cut, ended, at_newline_lem, at_both, at_return, at_other}
use Rattle.script.proofs.Parts.{ticks_act, level_act, blank_act, pin_act, tick_act, edge_act}
use Rattle.script.proofs.Saturating.{Alike, AlikeOnce, none_yet, both_there, alike_grown, alike_once_grown, same_verdict, same_level}

-- ---- all that is printed from here on, and the rig that is left behind the end
pub record Outcome : Type 0 where
  pub lines : List ℕ
  pub left : Rig

abbrev pub outcome : List ℕ → Rig → Outcome
outcome u g = record { lines = u; left = g }

-- these lines before the others
abbrev pub first : List ℕ → Outcome → Outcome
first u o = outcome (u ++ o.lines) o.left

abbrev pub at_end : Rig → Act → Outcome
at_end g a = outcome (printed g a) (rig_after g a)

pub first_first : (u v : List ℕ) (o : Outcome) → first (u ++ v) o ≡ first u (first v o)
first_first u v o = ap (λ (x : List ℕ). outcome x o.left) (append_assoc u v o.lines)

unfoldable pub onward : Rig → Spot → List ℕ → Outcome
onward g p [] = at_end g (input_end p)
onward g p (b ∷ s) = first (printed g (after_spot p b).act) (onward (rig_after g (after_spot p b).act) (after_spot p b).place s)

pub onward_bench :
    (w : Bench) (s : List ℕ) → first (says w s) (at_end (play w s).rig (input_end (play w s).place)) ≡ onward w.rig w.place s
unfolding says play bench_after turn_says onward
onward_bench w [] = refl
onward_bench w (b ∷ s) =
    first_first
    (turn_says w b)
    (says (bench_after w b) s)
    (at_end (play (bench_after w b) s).rig (input_end (play (bench_after w b) s).place))
    ∙ ap (first (turn_says w b)) (onward_bench (bench_after w b) s)

-- a line is done, and the next one begins
abbrev pub acted : Rig → Act → List ℕ → Outcome
acted g a r = first (printed g a) (onward (rig_after g a) Start r)

-- a line that the input's end ends
pub acted_last : (g : Rig) (a : Act) → at_end g a ≡ acted g a []
unfolding onward
acted_last g a = ap (λ (u : List ℕ). outcome u (rig_after g a)) (sym (append-nil (printed g a)))

-- a byte that is neither a newline nor a return
pub onward_other :
    (g : Rig) (p : Spot) (b : ℕ) (s : List ℕ)
    → eqb b newline ≡ false
    → eqb b carriage_return ≡ false
    → onward g p (b ∷ s) ≡ first (printed g (act_on p b)) (onward (rig_after g (act_on p b)) (next p b) s)
unfolding onward after_spot
onward_other g p b s e f = rw (e, f)

-- ---- a line that is no item
pub bad_line : (g : Rig) {s l r : List ℕ} → Cut s l r → onward g Bad s ≡ acted g Complain r
unfolding onward after_spot
bad_line g ended = refl
bad_line g (at_newline_lem r) = refl
bad_line g (at_both r) = refl
bad_line g (at_return s l r h d) = bad_line g d
bad_line g (at_other b s l r e f d) = onward_other g Bad b s e f ∙ bad_line g d

-- nor is one with a return in it that no newline follows
returned_line :
    (g : Rig) (a : Act) {s l r : List ℕ} → at_newline s ≡ false → Cut s l r → onward g (Returned a) s ≡ acted g Complain r
unfolding onward after_spot
returned_line g a h ended = refl
returned_line g a h (at_newline_lem r) = false_true (sym h)
returned_line g a h (at_both r) = refl
returned_line g a h (at_return s l r k d) = bad_line g d
returned_line g a h (at_other b s l r e f d) = onward_other g (Returned a) b s e f ∙ bad_line g d

return_no_digit : is_digit 13 ≡ false
unfolding is_digit
return_no_digit = refl

-- ---- the number of a `T`
module _ (g : Rig) where
  ticks_byte :
      (n m b : ℕ) {s l r : List ℕ}
      → Cut s l r
      → onward g (Ticks (grown n (b - 48))) s ≡ acted g (ticks_act (m * 10 + (b - 48)) l) r
      → (t : Bool)
      → is_digit b ≡ t
      → onward g (in_ticks n b) s ≡ acted g (ticks_act m (b ∷ l)) r
  unfolding in_ticks ticks_act
  ticks_byte n m b d ih true e = rw e ih
  ticks_byte n m b d ih false e = rw e (bad_line g d)

  pub ticks_line_lem :
      (n m : ℕ) → Alike n m → {s l r : List ℕ} → Cut s l r → onward g (Ticks n) s ≡ acted g (ticks_act m l) r
  unfolding onward after_spot ticks_act
  ticks_line_lem n m k ended = ap (λ (a : Act). at_end g a) (same_verdict k).0 ∙ acted_last g (ticks_asked m)
  ticks_line_lem n m k (at_newline_lem r) = ap (λ (a : Act). acted g a r) (same_verdict k).0
  ticks_line_lem n m k (at_both r) = ap (λ (a : Act). acted g a r) (same_verdict k).0
  ticks_line_lem n m k (at_return s l r h d) = rw return_no_digit (returned_line g (ticks_asked n) h d)
  ticks_line_lem n m k (at_other b s l r e f d) =
      onward_other g (Ticks n) b s e f
      ∙ ticks_byte
      n
      m
      b
      d
      (ticks_line_lem (grown n (b - 48)) (m * 10 + (b - 48)) (alike_grown n m (b - 48) k) d)
      (is_digit b)
      refl

-- ---- the level of a pin
module _ (g : Rig) (pin pin' : ℕ) (like : Alike pin pin') where
  level_byte :
      (n m : Option ℕ) (b : ℕ) {s l r : List ℕ}
      → Cut s l r
      → onward g (Level pin (Some (grown (unwrap_or n 0) (b - 48)))) s
      ≡ acted g (level_act pin' (Some (unwrap_or m 0 * 10 + (b - 48))) l) r
      → (t : Bool)
      → is_digit b ≡ t
      → onward g (in_level pin n b) s ≡ acted g (level_act pin' m (b ∷ l)) r
  unfolding in_level level_act
  level_byte n m b d ih true e = rw e ih
  level_byte n m b d ih false e = rw e (bad_line g d)

  pub level_line :
      (n m : Option ℕ)
      → AlikeOnce n m
      → {s l r : List ℕ}
      → Cut s l r
      → onward g (Level pin n) s ≡ acted g (level_act pin' m l) r
  unfolding onward after_spot level_act
  level_line n m k ended = ap (λ (a : Act). at_end g a) (same_level like k) ∙ acted_last g (level_asked pin' m)
  level_line n m k (at_newline_lem r) = ap (λ (a : Act). acted g a r) (same_level like k)
  level_line n m k (at_both r) = ap (λ (a : Act). acted g a r) (same_level like k)
  level_line n m k (at_return s l r h d) = rw return_no_digit (returned_line g (level_asked pin n) h d)
  level_line n m k (at_other b s l r e f d) =
      onward_other g (Level pin n) b s e f
      ∙ level_byte
      n
      m
      b
      d
      (level_line
      (Some (grown (unwrap_or n 0) (b - 48)))
      (Some (unwrap_or m 0 * 10 + (b - 48)))
      (both_there (alike_once_grown (b - 48) k))
      d)
      (is_digit b)
      refl

-- ---- a pin
module _ (g : Rig) where
  pin_blank :
      {n m : Option ℕ}
      → AlikeOnce n m
      → {s l r : List ℕ}
      → Cut s l r
      → onward g (pin_ended n) s ≡ acted g (blank_act m l) r
  unfolding pin_ended
  pin_blank (both_there {n} {m} k) d = level_line g n m k None None none_yet d
  pin_blank none_yet d = bad_line g d

  pin_byte :
      (n m : Option ℕ) (b : ℕ)
      → AlikeOnce n m
      → {s l r : List ℕ}
      → Cut s l r
      → onward g (Pin (Some (grown (unwrap_or n 0) (b - 48)))) s ≡ acted g (pin_act (Some (unwrap_or m 0 * 10 + (b - 48))) l) r
      → (t u : Bool)
      → is_digit b ≡ t
      → eqb b (letter " ") ≡ u
      → onward g (in_pin n b) s ≡ acted g (pin_act m (b ∷ l)) r
  unfolding in_pin pin_act
  pin_byte n m b k d ih true u e f = rw e ih
  pin_byte n m b k d ih false true e f = rw (e, f) (pin_blank k d)
  pin_byte n m b k d ih false false e f = rw (e, f) (bad_line g d)

  pub pin_line :
      (n m : Option ℕ) → AlikeOnce n m → {s l r : List ℕ} → Cut s l r → onward g (Pin n) s ≡ acted g (pin_act m l) r
  unfolding onward after_spot pin_act
  pin_line n m k ended = refl
  pin_line n m k (at_newline_lem r) = refl
  pin_line n m k (at_both r) = refl
  pin_line n m k (at_return s l r h d) = rw return_no_digit (bad_line g d)
  pin_line n m k (at_other b s l r e f d) =
      onward_other g (Pin n) b s e f
      ∙ pin_byte
      n
      m
      b
      k
      d
      (pin_line (Some (grown (unwrap_or n 0) (b - 48))) (Some (unwrap_or m 0 * 10 + (b - 48))) (both_there (alike_once_grown (b - 48) k)) d)
      (is_digit b)
      (eqb b (letter " "))
      refl
      refl

-- ---- behind a `T` and behind an `E`: one blank
module _ (g : Rig) where
  tick_byte :
      (b : ℕ) {s l r : List ℕ}
      → Cut s l r
      → (t : Bool)
      → eqb b (letter " ") ≡ t
      → onward g (behind_tick b) s ≡ acted g (tick_act (b ∷ l)) r
  unfolding behind_tick
  tick_byte b d true e = rw e (ticks_line_lem g 0 0 (inl refl) d)
  tick_byte b d false e = rw e (bad_line g d)

  pub tick_line : {s l r : List ℕ} → Cut s l r → onward g Tick s ≡ acted g (tick_act l) r
  unfolding onward after_spot
  tick_line ended = refl
  tick_line (at_newline_lem r) = refl
  tick_line (at_both r) = refl
  tick_line (at_return s l r h d) = bad_line g d
  tick_line (at_other b s l r e f d) = onward_other g Tick b s e f ∙ tick_byte b d (eqb b (letter " ")) refl

  edge_byte :
      (b : ℕ) {s l r : List ℕ}
      → Cut s l r
      → (t : Bool)
      → eqb b (letter " ") ≡ t
      → onward g (behind_edge b) s ≡ acted g (edge_act (b ∷ l)) r
  unfolding behind_edge
  edge_byte b d true e = rw e (pin_line g None None none_yet d)
  edge_byte b d false e = rw e (bad_line g d)

  pub edge_line : {s l r : List ℕ} → Cut s l r → onward g Edge s ≡ acted g (edge_act l) r
  unfolding onward after_spot
  edge_line ended = refl
  edge_line (at_newline_lem r) = refl
  edge_line (at_both r) = refl
  edge_line (at_return s l r h d) = bad_line g d
  edge_line (at_other b s l r e f d) = onward_other g Edge b s e f ∙ edge_byte b d (eqb b (letter " ")) refl
