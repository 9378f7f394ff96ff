-- The table over bytes says just what the lines and their items say: what the program prints for an input is `script_of` of it, and the
-- pump that it leaves is the one behind the lines.
-- Assumes nothing.
use Rattle.std.specs.Prelude.{if◌then◌else◌, None}
use Prim.Native.Nat.{ℕ, zero, suc, ◌≤◌}
use mathlib.Core.Path.{◌≡◌, refl, sym, ap, ◌∙◌}
use mathlib.Core.Bool.{Bool, true, false}
use mathlib.Core.List.{List, [], ◌∷◌, ◌++◌, append-nil}
use native.Mathlib.Omega.{arith}
use lib.Dec.{eqb}
use lib.ListN.{length}
use Rattle.base.specs.Text.{letter}
use Rattle.pump.specs.Holder.{model_phases, fresh_pump}
use Rattle.pump.specs.declared.holder.Pump.{Pump}
use Rattle.script.specs.Items.{Item, say, level, elapse, no_item, ticks_item, level_item, tick_item, edge_item, item_of}
use Rattle.script.specs.Items.{value_of, up_to_blank, past_blank}
use Rattle.script.specs.Items.{lines_of}
use Rattle.player.specs.Effects.{item_lines, pump_after, all_lines, pump_behind, script_of}
use Rattle.script.specs.Places.{input_end, after_spot, kind}
use Rattle.player.specs.Rigs.{set_rig, set_lines, run_rig, run_lines, rig_after}
use Rattle.player.specs.Scripts.{bench_after, play, says, closed, script}
use Rattle.player.specs.declared.feeding.Bench.{Bench}
use Rattle.script.specs.declared.places.Act.{Act}
use Rattle.script.specs.declared.places.Act.TheVariants.{Set, Run, Complain}
use Rattle.script.specs.declared.places.Spot.{Spot}
use Rattle.script.specs.declared.places.Spot.TheVariants.{Start}
use Rattle.player.specs.declared.rigs.Rig.{Rig}
use Rattle.script.proofs.Cuts.{Cut, at_newline_lem, at_both, at_return, at_other, split, lines_cut, rest_within}
use Rattle.player.proofs.Onward.{Outcome, outcome, first, at_end, onward, onward_bench, onward_other, acted, bad_line}
use Rattle.player.proofs.Onward.{tick_line, edge_line}
use Rattle.script.proofs.Parts.{ticks_act, pin_act, tick_act, edge_act, ticks_test, ticks_parts, level_test, level_parts}
use Rattle.player.proofs.Texts.{text_lines, text_rig, text_line, text_pump, text_says}

-- ---- between two lines no text is under way
abbrev pub idle : Pump → Rig
idle p = record { pump = p; replied = false }

abbrev standing : Rig → Spot → Bench
standing g q = record { rig = g; place = q }

abbrev pub between : Pump → Bench
between p = record { rig = idle p; place = Start }

-- an item is done, and the next line begins
abbrev done : Pump → Item → List ℕ → Outcome
done p i r = first (item_lines p i) (onward (idle (pump_after p i)) Start r)

module _ (p : Pump) (r : List ℕ) where
  -- ---- ticks
  run_done : (n : ℕ) → acted (idle p) (Run n) r ≡ done p (elapse n) r
  unfolding run_rig run_lines
  run_done n = refl

  run_or_none : (t : Bool) (n : ℕ) → acted (idle p) (if t then Run n else Complain) r ≡ done p (if t then elapse n else no_item) r
  run_or_none true n = run_done n
  run_or_none false n = refl

  ticks_done_lem : (l : List ℕ) → acted (idle p) (ticks_act 0 l) r ≡ done p (ticks_item l) r
  unfolding ticks_item
  ticks_done_lem l =
      ap (λ (a : Act). acted (idle p) a r) (ticks_parts l)
      ∙ run_or_none (ticks_test l) (value_of l)

  tick_done_lem : (l : List ℕ) → acted (idle p) (tick_act l) r ≡ done p (tick_item l) r
  tick_done_lem [] = refl
  tick_done_lem (b ∷ l) = go (eqb b (letter " "))
    where
      go :
          (t : Bool) → acted (idle p) (if t then ticks_act 0 l else Complain) r ≡ done p (if t then ticks_item l else no_item) r
      go true = ticks_done_lem l
      go false = refl

  -- ---- a pin and its level
  set_or_none :
      (t : Bool) (pin high : ℕ)
      → acted (idle p) (if t then Set pin high else Complain) r ≡ done p (if t then level pin high else no_item) r
  unfolding set_rig set_lines
  set_or_none true pin high = refl
  set_or_none false pin high = refl

  level_done : (l : List ℕ) → acted (idle p) (pin_act None l) r ≡ done p (level_item (up_to_blank l) (past_blank l)) r
  unfolding level_item
  level_done l =
      ap (λ (a : Act). acted (idle p) a r) (level_parts l)
      ∙ set_or_none (level_test (up_to_blank l) (past_blank l)) (value_of (up_to_blank l)) (value_of (past_blank l))

  edge_done : (l : List ℕ) → acted (idle p) (edge_act l) r ≡ done p (edge_item l) r
  edge_done [] = refl
  edge_done (b ∷ l) = go (eqb b (letter " "))
    where
      go :
          (t : Bool)
          → acted (idle p) (if t then pin_act None l else Complain) r
          ≡ done p (if t then level_item (up_to_blank l) (past_blank l) else no_item) r
      go true = level_done l
      go false = refl

  -- ---- a text
  text_done : (l : List ℕ) → first (text_lines (idle p) l) (onward (text_rig (idle p) l) Start r) ≡ done p (say l) r
  text_done l =
      ap (λ (u : List ℕ). first u (onward (text_rig (idle p) l) Start r)) (text_says p l)
      ∙ ap (λ (g : Rig). first (item_lines p (say l)) (onward g Start r)) (text_pump (idle p) l)

-- ---- the first byte says what the item is
first_byte :
    (p : Pump) (b : ℕ) {s l r : List ℕ}
    → Cut s l r
    → (t u v : Bool)
    → eqb b (letter ">") ≡ t
    → eqb b (letter "T") ≡ u
    → eqb b (letter "E") ≡ v
    → onward (idle p) (kind b) s ≡ done p (item_of (b ∷ l)) r
unfolding kind item_of
first_byte p b {s} {l} {r} d true u v e f g = rw e (text_line (idle p) d ∙ text_done p r l)
first_byte p b {s} {l} {r} d false true v e f g = rw (e, f) (tick_line (idle p) d ∙ tick_done_lem p r l)
first_byte p b {s} {l} {r} d false false true e f g = rw (e, f, g) (edge_line (idle p) d ∙ edge_done p r l)
first_byte p b {s} {l} {r} d false false false e f g = rw (e, f, g) (bad_line (idle p) d)

-- ---- a line: what its item prints, and then the next line with the pump that the item leaves
pub line_itemised : (p : Pump) {b : ℕ} {s l r : List ℕ} → Cut (b ∷ s) l r → onward (idle p) Start (b ∷ s) ≡ done p (item_of l) r
unfolding onward after_spot item_of
line_itemised p (at_newline_lem r) = refl
line_itemised p (at_both r) = refl
line_itemised p (at_return s l r h d) = bad_line (idle p) d
line_itemised p (at_other b s l r e f d) =
    onward_other (idle p) Start b s e f
    ∙ first_byte p b d (eqb b (letter ">")) (eqb b (letter "T")) (eqb b (letter "E")) refl refl refl

-- ---- all the lines
lines_itemised :
    (k : ℕ) (p : Pump) (s : List ℕ)
    → length s ≤ k
    → onward (idle p) Start s ≡ outcome (all_lines p (lines_of s)) (idle (pump_behind p (lines_of s)))
unfolding onward all_lines pump_behind lines_of
lines_itemised zero p [] h = refl
lines_itemised zero p (b ∷ s) h = absurd (omega arith)
lines_itemised (suc k) p [] h = refl
lines_itemised (suc k) p (b ∷ s) h =
    let w = split (b ∷ s) in
    let i = item_of w.line in
    line_itemised p w.cut
    ∙ ap
    (first (item_lines p i))
    (lines_itemised k (pump_after p i) w.rest (let z = rest_within w.cut in omega arith))
    ∙ sym (ap (λ (ls : List (List ℕ)). outcome (all_lines p ls) (idle (pump_behind p ls))) (lines_cut w.cut))

bench_itemised :
    (p : Pump) (s : List ℕ)
    → first (says (between p) s) (at_end (play (between p) s).rig (input_end (play (between p) s).place))
    ≡ outcome (all_lines p (lines_of s)) (idle (pump_behind p (lines_of s)))
bench_itemised p s = onward_bench (between p) s ∙ lines_itemised (length s) p s (omega arith)

-- ---- the whole output for every input is that of its lines
pub itemised : (s : List ℕ) → script s ≡ script_of s
unfolding script script_of closed
itemised s = ap (λ (o : Outcome). o.lines) (bench_itemised (fresh_pump model_phases) s)

-- ---- and so is the pump that is left when the input has ended
pub rig_itemised :
    (p : Pump) (s : List ℕ)
    → rig_after (play (between p) s).rig (input_end (play (between p) s).place) ≡ idle (pump_behind p (lines_of s))
rig_itemised p s = ap (λ (o : Outcome). o.left) (bench_itemised p s)

-- ---- and it comes in time: at each newline all is printed that the lines up to it ask for, and the pump is as they leave it
newline_starts : (w : Bench) (s : List ℕ) → (play w (s ++ (10 ∷ []))).place ≡ Start
unfolding play bench_after after_spot
newline_starts w [] = refl
newline_starts w (b ∷ s) = newline_starts (bench_after w b) s

newline_itemised :
    (p : Pump) (s : List ℕ)
    → outcome (says (between p) (s ++ (10 ∷ []))) (play (between p) (s ++ (10 ∷ []))).rig
    ≡ outcome (all_lines p (lines_of (s ++ (10 ∷ [])))) (idle (pump_behind p (lines_of (s ++ (10 ∷ [])))))
newline_itemised p s =
    let t : List ℕ = s ++ (10 ∷ []) in
    let w : Bench = play (between p) t in
    ap (λ (u : List ℕ). outcome u w.rig) (sym (append-nil (says (between p) t)))
    ∙ ap (λ (q : Spot). first (says (between p) t) (at_end w.rig (input_end q))) (sym (newline_starts (between p) s))
    ∙ bench_itemised p t

pub newline_says : (p : Pump) (s : List ℕ) → says (between p) (s ++ (10 ∷ [])) ≡ all_lines p (lines_of (s ++ (10 ∷ [])))
newline_says p s = ap (λ (o : Outcome). o.lines) (newline_itemised p s)

pub newline_played :
    (p : Pump) (s : List ℕ) → play (between p) (s ++ (10 ∷ [])) ≡ between (pump_behind p (lines_of (s ++ (10 ∷ []))))
newline_played p s =
    ap (λ (q : Spot). standing (play (between p) (s ++ (10 ∷ []))).rig q) (newline_starts (between p) s)
    ∙ ap (λ (o : Outcome). standing o.left Start) (newline_itemised p s)
