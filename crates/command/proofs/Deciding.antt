-- What a command does, by its name, by the verdict, and by the mode and the rate that it finds.
-- Assumes nothing.
use Rattle.std.specs.Prelude.{Result, Ok, Err, ⊤, Option, Some, None, option_map}
use Prim.Native.Nat.{ℕ, ◌<◌}
use mathlib.Core.Path.{◌≡◌, refl, sym, ap, ◌∙◌}
use mathlib.Core.Bool.{Bool, true, false}
use mathlib.Core.Logic.{◌⊎◌, inl, inr}
use mathlib.Core.List.{[], ◌∷◌}
use lib.Dec.{leb}
use denote.Enum.Declared.{tag_of}
use types.Run.{OneOf, miss}
use borrow.Author.Tests.{lt-leb}
use Rattle.base.proofs.Choices.{and_false}
use Rattle.drive.specs.Syringe.{least_diameter, most_diameter, is_diameter}
use Rattle.words.specs.Answers.{declined}
use Rattle.words.specs.declared.answers.Declined.{Declined}
use Rattle.words.specs.declared.answers.Reply.{Reply}
use Rattle.words.specs.declared.answers.Reply.TheVariants as reply
use Rattle.words.specs.declared.commands.Command.{Command}
use Rattle.words.specs.declared.functions.Function.{Function}
use Rattle.words.specs.declared.phases.Phase.{Phase}
use Rattle.dispense.specs.declared.rates.Rate.{Rate}
use Rattle.program.specs.Cores.{with_run, with_syringe}
use Rattle.program.specs.Runs.{is_operating, with_rate}
use Rattle.program.specs.declared.state.Core.{Core}
use Rattle.program.specs.declared.state.Mode.{Mode}
use Rattle.program.specs.declared.state.Mode.TheVariants.{Stopped, Paused, Running}
use Rattle.program.specs.declared.state.Run.{Run}
use Rattle.program.specs.contracts.state.Mode.{the_type}
use Rattle.command.specs.Judging.{judge_diameter}
use Rattle.command.specs.Obeying as o
use Rattle.command.specs.declared.obeying.Edit.{Edit}
use Rattle.command.specs.declared.obeying.Edit.TheVariants.{Keep}
use Rattle.command.specs.declared.obeying.Obeyed.{Obeyed}
use Rattle.command.proofs.Choosing as choosing

-- ---- where what is handed on is itself the result of a call
module _ (s : Core) (r : Obeyed) where
  pub answer_after : (u : Core) (k : Reply) → r ≡ o.answer u k → u ≡ s → r ≡ o.answer s k
  answer_after u k e q = e ∙ ap (λ (v : Core). o.answer v k) q

  pub decide_after :
      (u after : Core) (edit : Edit) (k v : Result ⊤ Declined) → r ≡ o.decide s u edit k → u ≡ after → k ≡ v → r ≡ o.decide s after edit v
  decide_after u after edit k v e p q =
      e ∙ ap (λ (x : Core). o.decide s x edit k) p ∙ ap (o.decide s after edit) q

  pub set_after : (p q : Phase) (k v : Result ⊤ Declined) → r ≡ o.set_phase_to s q k → q ≡ p → k ≡ v → r ≡ o.set_phase_to s p v
  set_after p q k v e f g = e ∙ ap (λ (x : Phase). o.set_phase_to s x k) f ∙ ap (o.set_phase_to s p) g

  -- the program under way, and the reply to what is declined, are themselves results of calls
  pub steer_after :
      (x : Result Run Declined) (u : Run) (v : Core) → x ≡ Ok u → r ≡ o.answer v reply.Status → v ≡ with_run s u → r ≡ o.steer s x
  steer_after x u v e p q = p ∙ ap (λ (k : Core). o.answer k reply.Status) q ∙ ap (o.steer s) (sym e)

  module _ (why : Declined) (k : Reply) (p : r ≡ o.answer s k) (q : k ≡ declined why) where
    pub steer_declined : (x : Result Run Declined) → x ≡ Err why → r ≡ o.steer s x
    steer_declined x e = p ∙ ap (o.answer s) q ∙ ap (o.steer s) (sym e)

    pub decide_declined : (after : Core) (edit : Edit) (v : Result ⊤ Declined) → v ≡ Err why → r ≡ o.decide s after edit v
    decide_declined after edit v e = p ∙ ap (o.answer s) q ∙ ap (o.decide s after edit) (sym e)

pub run_after : (s r : Core) (x u : Run) → r ≡ with_run s u → u ≡ x → r ≡ with_run s x
run_after s r x u e q = e ∙ ap (with_run s) q

-- ---- DIA: a number past the widest syringe is never accepted, so whatever it would have made of the core is not seen
pub never_accepted :
    (s a b : Core) (x : ℕ) (operating : Bool)
    → most_diameter < x
    → o.decide s a Keep (judge_diameter operating x) ≡ o.decide s b Keep (judge_diameter operating x)
unfolding judge_diameter is_diameter
never_accepted s a b x true h = refl
never_accepted s a b x false h = simp (lt-leb x most_diameter h, and_false (leb least_diameter x))

module _
    (s t after : Core) (x : ℕ) (u : Bool) (k : Result ⊤ Declined) (r : Obeyed)
    (e : t ≡ with_run s (o.settle s.run)) (p : u ≡ is_operating s.run) (q : k ≡ judge_diameter u x) (d : r ≡ o.decide s after Keep k)
  where
    pub diameter_set : (after ≡ with_syringe t (record { diameter = x })) ⊎ (most_diameter < x) → r ≡ o.set_diameter s x
    unfolding o.set_diameter
    diameter_set (inl a) = rw (d, a, q, p, e)
    diameter_set (inr h) =
        rw (d, q, p) (never_accepted s after (with_syringe (with_run s (o.settle s.run)) (record { diameter = x })) x (is_operating s.run) h)

-- ---- by the mode, the rate, the verdict, the command
pub settles_by :
    (r : Run) (m : Mode) (x : Run) → r.mode ≡ m → x ≡ o.settle_by r m → x ≡ o.settle r
unfolding o.settle
settles_by r m x e q = q ∙ ap (o.settle_by r) (sym e)

-- `settle` asks for a pause alone
pub unpaused : (r : Run) (m : Mode) → OneOf (0 ∷ 2 ∷ []) (tag_of the_type m) → r ≡ o.settle_by r m
unpaused r (Stopped alarm) h = refl
unpaused r Paused h = absurd (miss (0 ∷ 2 ∷ []) 1 tt h)
unpaused r Running h = refl

-- the same units, with so many thousandths of them
abbrev pub so_many : ℕ → Rate → Rate
so_many x old = record { unit = old.unit; thousandths = x }

pub tunes : (r : Run) (x : ℕ) (rate : Option Rate) → rate ≡ option_map (so_many x) r.rate → with_rate r rate ≡ o.tune r x
unfolding o.tune
tunes r x rate e = ap (with_rate r) e ∙ go r.rate refl
  where
    go : (k : Option Rate) → r.rate ≡ k → with_rate r (option_map (so_many x) k) ≡ o.tune_by r x k
    go None h = ap (with_rate r) (sym h)
    go (Some old) h = refl

pub decides_by :
    (s after : Core) (edit : Edit) (v k : Result ⊤ Declined) (r : Obeyed) → v ≡ k → r ≡ o.decide s after edit k → r ≡ o.decide s after edit v
decides_by s after edit v k r e q = q ∙ ap (o.decide s after edit) (sym e)

pub obeys_by :
    (s : Core) (p : Phase) (next : Function) (phases : ℕ) (c k : Command) (r : Obeyed)
    → c ≡ k
    → r ≡ o.obey s p next phases k
    → r ≡ o.obey s p next phases c
obeys_by s p next phases c k r e q = q ∙ ap (o.obey s p next phases) (sym e)

pub ruleset obeying = (run_after, answer_after, steer_after, steer_declined, decide_declined, settles_by, decides_by)

pub ruleset setting = (decide_after, set_after, run_after, choosing.choices)
