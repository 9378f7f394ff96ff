-- The device: an edge, a whole text and what is said, by what was read and what was called.
-- Assumes nothing.
use Prim.Native.Nat.{ℕ, ◌≤◌, ◌<◌}
use mathlib.Core.Path.{◌≡◌, sym, ap, ◌∙◌}
use mathlib.Core.Bool.{Bool}
use borrow.Author.Tests.{ne_eqb, le-leb, lt-leb}
use Rattle.std.specs.Prelude.{Option, Some, None}
use Rattle.drive.specs.declared.directions.Direction.{Direction}
use Rattle.words.specs.declared.answers.Alarm.{Alarm}
use Rattle.words.specs.declared.answers.Reply.{Reply}
use Rattle.words.specs.declared.answers.Reply.TheVariants as reply
use Rattle.words.specs.declared.answers.Said.{Said}
use Rattle.words.specs.declared.answers.Said.TheVariants as s
use Rattle.words.specs.declared.answers.Status.{Status}
use Rattle.words.specs.declared.commands.Asked.{Asked}
use Rattle.words.specs.declared.commands.Command.{Command}
use Rattle.words.specs.declared.commands.Request.{Request}
use Rattle.words.specs.declared.commands.Request.TheVariants.{AskLimit}
use Rattle.words.specs.declared.functions.Function.{Function}
use Rattle.words.specs.declared.phases.Phase.{Phase}
use Rattle.program.specs.Cores.{with_run}
use Rattle.program.specs.Edges.{pin_two, pin_four, pin_six}
use Rattle.program.specs.Runs.{pending, clear_alarm}
use Rattle.program.specs.declared.state.Core.{Core}
use Rattle.program.specs.declared.state.Run.{Run}
use Rattle.command.specs.Obeying.{obey}
use Rattle.command.specs.declared.obeying.Edit.{Edit}
use Rattle.command.specs.declared.obeying.Edit.TheVariants.{Keep}
use Rattle.command.specs.declared.obeying.Obeyed.{Obeyed}
use Rattle.link.specs.Link.{limited_to, limit_of}
use Rattle.link.specs.declared.Link.{Link}
use Rattle.pump.specs.Device as d
use Rattle.pump.specs.Device.{with_core, with_link, edge_of, hear_text, ours, ours_by, met, replied, set_limit, link_behind, obeyed, obeyed_with}
use Rattle.pump.specs.declared.device.Device.{Device}
use Rattle.pump.specs.declared.device.Heard.{Heard}
use Rattle.pump.specs.declared.device.Told.{Told}
use Rattle.pump.specs.declared.device.Told.TheVariants as told

-- ---- an edge
module _ (s : Core) (pin : ℕ) (high : Bool) (r : Core) where
  pub edge_2 : pin ≡ 2 → r ≡ pin_two s high → r ≡ edge_of s pin high
  edge_2 h q = q ∙ sym (simp h)

  pub edge_4 : pin ≡ 4 → r ≡ pin_four s high → r ≡ edge_of s pin high
  edge_4 h q = q ∙ sym (simp h)

  pub edge_6 : (pin ≡ 2 → ⊥) → (pin ≡ 4 → ⊥) → r ≡ pin_six s high → r ≡ edge_of s pin high
  edge_6 a b q = q ∙ sym (simp (ne_eqb pin 2 a, ne_eqb pin 4 b))

-- ---- a whole text
module _ (v : Device) (hand : Phase) (next : Function) (phases : ℕ) where
  module _ (asked : Asked) where
    pub heard_ours :
        (r : Heard) → asked.address ≡ 0 → r ≡ ours v asked.request hand next phases → r ≡ hear_text v asked hand next phases
    unfolding hear_text
    heard_ours r e q = q ∙ sym (simp e)

    pub heard_nothing :
        (asked.address ≡ 0 → ⊥) → record { device = v; edit = Keep; told = told.Nothing } ≡ hear_text v asked hand next phases
    unfolding hear_text
    heard_nothing n = sym (simp (ne_eqb asked.address 0 n))

  -- ---- a text of ours
  module _ (request : Request) (alarm : Option Alarm) (e : alarm ≡ pending v.core.run) where
    pub heard_alarm :
        (a : Alarm) (run : Run) (core : Core)
        → alarm ≡ Some a
        → run ≡ clear_alarm v.core.run
        → core ≡ with_run v.core run
        → record { device = with_core v core; edit = Keep; told = told.Alarm a } ≡ ours v request hand next phases
    unfolding ours
    heard_alarm a run core k h i =
        ap (λ (x : Core). record { device = with_core v x; edit = Keep; told = told.Alarm a }) (i ∙ ap (with_run v.core) h)
        ∙ ap (ours_by v request hand next phases) (sym k ∙ e)

    pub heard_request : (r : Heard) → alarm ≡ None → r ≡ met v request hand next phases → r ≡ ours v request hand next phases
    unfolding ours
    heard_request r k q = q ∙ ap (ours_by v request hand next phases) (sym k ∙ e)

  -- ---- what is asked of the link, and what of the pump
  pub met_as : (request k : Request) (r : Heard) → request ≡ k → r ≡ met v k hand next phases → r ≡ met v request hand next phases
  met_as request k r e q = q ∙ ap (λ (x : Request). met v x hand next phases) (sym e)

  pub limit_asked_lem : (n : ℕ) (r : Heard) → n ≡ limit_of v.link → r ≡ replied v (reply.Limit n) → r ≡ met v AskLimit hand next phases
  limit_asked_lem n r k q = q ∙ ap (λ (x : ℕ). replied v (reply.Limit x)) k

  pub heard_obeyed :
      (command : Command) (o : Obeyed) (link : Link) (device : Device)
      → o ≡ obey v.core hand next phases command
      → link ≡ link_behind o.edit v.link
      → device ≡ with_core (with_link v link) o.core
      → record { device = device; edit = o.edit; told = told.Reply o.reply } ≡ obeyed v command hand next phases
  unfolding obeyed
  heard_obeyed command o link device h k q =
      ap (λ (x : Device). record { device = x; edit = o.edit; told = told.Reply o.reply })
      (q ∙ ap (λ (l : Link). with_core (with_link v l) o.core) k)
      ∙ ap (obeyed_with v) h

pub ruleset hearing = (heard_ours, heard_nothing, heard_alarm, heard_request, met_as, limit_asked_lem, heard_obeyed)

-- ---- SAF n
module _ (v : Device) (n : ℕ) where
  pub limit_taken :
      (link : Link) (w : Device) (r : Heard)
      → n ≤ 255
      → link ≡ limited_to n
      → w ≡ with_link v link
      → r ≡ replied w reply.Status
      → r ≡ set_limit v n
  unfolding set_limit
  limit_taken link w r h k d q =
      q ∙ ap (λ (x : Device). replied x reply.Status) (d ∙ ap (with_link v) k) ∙ sym (simp (le-leb n 255 h))

  pub limit_refused : (r : Heard) → 255 < n → r ≡ replied v reply.OutOfRange → r ≡ set_limit v n
  unfolding set_limit
  limit_refused r h q = q ∙ sym (simp (lt-leb n 255 h))

-- ---- what an edit leaves of the link
pub link_by : (edit k : Edit) (l r : Link) → edit ≡ k → r ≡ link_behind k l → r ≡ link_behind edit l
link_by edit k l r e q = q ∙ ap (λ (x : Edit). link_behind x l) (sym e)

-- ---- what is said
pub said_by : (v : Device) (way : Direction) (t k : Told) (r : Said) → t ≡ k → r ≡ d.said v k way → r ≡ d.said v t way
said_by v way t k r e q = q ∙ ap (λ (x : Told). d.said v x way) (sym e)

pub said_status : (r : Reply) (x y : Status) → x ≡ y → s.Answer x r ≡ s.Answer y r
said_status r x y e = ap (λ (k : Status). s.Answer k r) e

pub ruleset sayings = (said_by, said_status)
