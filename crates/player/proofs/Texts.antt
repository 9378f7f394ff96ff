-- A text: its bytes are sent as they come, a return once it shows that no newline follows, and in the end that is what was asked.
-- Assumes nothing.
use Rattle.std.specs.Prelude.{if◌then◌else◌}
use Prim.Native.Nat.{ℕ}
use mathlib.Core.Path.{◌≡◌, refl, sym, ap, ◌∙◌}
use mathlib.Core.Bool.{Bool, true, false, ◌||◌, or_assoc}
use mathlib.Core.List.{List, [], ◌∷◌, ◌++◌, append_assoc, append-nil}
use Rattle.base.proofs.Choices.{false_true}
use Rattle.pump.specs.declared.holder.Pump.{Pump}
use Rattle.script.specs.Items.{at_newline}
use Rattle.player.specs.Effects.{pump_sent, answers, or_empty_line}
use Rattle.script.specs.Places.{carriage_return, newline, after_spot}
use Rattle.player.specs.Rigs.{sent_rig, sent_line, send_rig, send_lines, finish_rig, finish_lines}
use Rattle.script.specs.declared.places.Act.TheVariants.{Finish}
use Rattle.script.specs.declared.places.Spot.TheVariants.{Start, Text}
use Rattle.player.specs.declared.rigs.Rig.{Rig}
use Rattle.player.proofs.Acting.{some, replied_told}
use Rattle.script.proofs.Cuts.{Cut, ended, at_newline_lem, at_both, at_return, at_other}
use Rattle.player.proofs.Onward.{outcome, first, first_first, onward, onward_other, acted_last}

-- ---- the rest of a text, sent to a rig, and its end
unfoldable pub text_lines : Rig → List ℕ → List ℕ
text_lines g [] = finish_lines g false
text_lines g (b ∷ l) = sent_line g b ++ text_lines (sent_rig g b) l

unfoldable pub text_rig : Rig → List ℕ → Rig
text_rig g [] = finish_rig g false
text_rig g (b ∷ l) = text_rig (sent_rig g b) l

-- a return that was held back is sent, where no newline follows
return_sent :
    (g : Rig) {s l r : List ℕ}
    → at_newline s ≡ false
    → Cut s l r
    → onward g (Text true) s ≡ first (sent_line g 13) (onward (sent_rig g 13) (Text false) s)
unfolding onward after_spot send_rig send_lines finish_rig finish_lines
return_sent g h ended =
    first_first
    (sent_line g 13)
    (sent_line (sent_rig g 13) 13)
    (outcome (if (sent_rig (sent_rig g 13) 13).replied then [] else newline ∷ []) (finish_rig (sent_rig g 13) false))
return_sent g h (at_newline_lem r) = false_true (sym h)
return_sent g h (at_both r) = refl
return_sent g h (at_return s l r k d) = refl
return_sent g h (at_other b s l r e f d) =
    onward_other g (Text true) b s e f
    ∙ first_first (sent_line g 13) (sent_line (sent_rig g 13) b) (onward (sent_rig (sent_rig g 13) b) (Text false) s)
    ∙ ap (first (sent_line g 13)) (sym (onward_other (sent_rig g 13) (Text false) b s e f))

pub text_line :
    (g : Rig) {s l r : List ℕ} → Cut s l r → onward g (Text false) s ≡ first (text_lines g l) (onward (text_rig g l) Start r)
unfolding onward after_spot send_rig send_lines text_lines text_rig
text_line g ended = acted_last g (Finish false)
text_line g (at_newline_lem r) = refl
text_line g (at_both r) = refl
text_line g (at_return s l r h d) =
    return_sent g h d
    ∙ ap (first (sent_line g 13)) (text_line (sent_rig g 13) d)
    ∙ sym (first_first (sent_line g 13) (text_lines (sent_rig g 13) l) (onward (text_rig (sent_rig g 13) l) Start r))
text_line g (at_other b s l r e f d) =
    onward_other g (Text false) b s e f
    ∙ ap (first (sent_line g b)) (text_line (sent_rig g b) d)
    ∙ sym (first_first (sent_line g b) (text_lines (sent_rig g b) l) (onward (text_rig (sent_rig g b) l) Start r))

-- ---- the pump in the end
pub text_pump :
    (g : Rig) (l : List ℕ) → text_rig g l ≡ record { pump = pump_sent g.pump (l ++ (carriage_return ∷ [])); replied = false }
unfolding text_rig pump_sent finish_rig send_rig sent_rig
text_pump g [] = refl
text_pump g (b ∷ l) = text_pump (sent_rig g b) l

-- ---- whether there was an answer
some_append : (s t : List ℕ) → some (s ++ t) ≡ (some s || some t)
some_append [] t = refl
some_append (b ∷ s) t = refl

-- ---- what is printed
abbrev empty_unless : Bool → List ℕ
empty_unless t = if t then [] else newline ∷ []

text_answers :
    (g : Rig) (l : List ℕ)
    → text_lines g l
    ≡ answers g.pump (l ++ (carriage_return ∷ []))
    ++ empty_unless (g.replied || some (answers g.pump (l ++ (carriage_return ∷ []))))
unfolding text_lines finish_lines send_lines send_rig sent_rig sent_line answers
text_answers g [] =
    ap (λ (t : Bool). sent_line g 13 ++ empty_unless t) (replied_told g 13)
    ∙ ap
    (λ (u : List ℕ). u ++ empty_unless (g.replied || some u))
    (sym (append-nil (sent_line g 13)))
text_answers g (b ∷ l) =
    let more = answers (sent_rig g b).pump (l ++ (carriage_return ∷ [])) in
    ap (λ (u : List ℕ). sent_line g b ++ u) (text_answers (sent_rig g b) l)
    ∙ ap (λ (t : Bool). sent_line g b ++ (more ++ empty_unless (t || some more))) (replied_told g b)
    ∙ ap
    (λ (t : Bool). sent_line g b ++ (more ++ empty_unless t))
    (or_assoc g.replied (some (sent_line g b)) (some more)
    ∙ ap (λ (t : Bool). g.replied || t) (sym (some_append (sent_line g b) more)))
    ∙ sym (append_assoc (sent_line g b) more (empty_unless (g.replied || some (sent_line g b ++ more))))

or_empty : (s : List ℕ) → s ++ empty_unless (some s) ≡ or_empty_line s
or_empty [] = refl
or_empty (b ∷ s) = append-nil (b ∷ s)

pub text_says :
    (p : Pump) (l : List ℕ)
    → text_lines (record { pump = p; replied = false }) l ≡ or_empty_line (answers p (l ++ (carriage_return ∷ [])))
text_says p l = text_answers (record { pump = p; replied = false }) l ∙ or_empty (answers p (l ++ (carriage_return ∷ [])))
