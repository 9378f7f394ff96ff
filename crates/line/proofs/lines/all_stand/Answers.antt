-- `all_stand` meets its contract: the test is made of each character.
-- Assumes nothing.
use Rattle.std.proofs.Common.{rules, tests}
use Rattle.std.proofs.lemmas.Iterator.{YieldsList-from_slice}
use Rattle.std.proofs.lemmas.Iterator.Search.{all_from_yields_List}
use Prim.Native.Nat.{ℕ}
use mathlib.Core.Path.{◌≡◌, refl, ap, ◌∙◌}
use mathlib.Core.Bool.{Bool, ◌&&◌}
use mathlib.Core.List.{List, [], ◌∷◌}
use Rattle.std.specs.List.{list_all}
use Rattle.line.specs.Characters.{can_stand}
use Rattle.line.specs.Lines.{all_stand}
use Rattle.line.proofs.lines.all_stand.Goals as goal

all_of_text : (s : List ℕ) → list_all can_stand s ≡ all_stand s
unfolding all_stand
all_of_text [] = refl
all_of_text (c ∷ s) = ap (λ (t : Bool). can_stand c && t) (all_of_text s)

pub returns : goal.returns
returns c =
    let s = c.args.s.now in
    all_from_yields_List can_stand _ _ _ c.all.ensures.ran (YieldsList-from_slice s cc) (λ x b q k. search (rules, tests)) ∙ all_of_text s
