-- Figures f, h and i: the tick in which the visit ends, and that no other follows, however many more ticks go by: behind the visit one tick
-- stops the pump, and the ticks of a stopped pump leave the visits in the observer's books as they are.
-- Assumes nothing.
use Rattle.std.specs.Prelude.{if◌then◌else◌, None}
use Prim.Native.Nat.{ℕ, zero, suc, ◌+◌, ◌-◌}
use Prim.Native.Char.{Char}
use Prim.Native.String.{String}
use mathlib.Core.Path.{◌≡◌, refl, sym, ap, ap₂, ◌∙◌}
use mathlib.Core.Bool.{Bool, true, false, ◌||◌}
use mathlib.Core.List.{List, [], ◌∷◌, ◌++◌, append_assoc}
use native.Mathlib.Nat.{add-zero}
use native.Mathlib.Omega.{arith}
use lib.ListN.{length}
use Rattle.program.specs.declared.state.Mode.{Mode}
use Rattle.program.specs.declared.state.Mode.TheVariants.{Stopped}
use Rattle.link.specs.Link.{safe_in, is_safe}
use Rattle.link.specs.declared.Link.{Link}
use Rattle.pump.specs.Holder.{model_phases, is_sound_pump}
use Rattle.pump.specs.declared.holder.Pump.{Pump}
use Rattle.pump.specs.declared.reports.Report.{Report}
use Rattle.statement.specs.Facts.{run_of, under_way, link_of}
use Rattle.statement.specs.Histories.{Call, byte_in, pin_at, tick_in, ticks_in, after, Event, trace, Every, single_ticks}
use Rattle.statement.proofs.Always.{model, sound_after}
use Rattle.condition3.specs.Books.{Books, Doing, nothing, Visit, view_of, moves, other, enters, deed_by, doing_by, deed, drops}
use Rattle.condition3.specs.Books.{all_visits, is_whole, blank, noted, books}
use Rattle.condition3.specs.Sending.{lines, blank_buffer, ticks_of}
use Rattle.statement.proofs.Joining.{trace_both, ticks_both}
use Rattle.condition3.proofs.Opening.{opened}
use Rattle.condition3.proofs.Views.{moves_in, view_moves}
use Rattle.condition3.proofs.Stops.{silent_tick, Standing, stopped_stands}
use Rattle.figures.specs.Figures.{in_microlitres, in_millilitres, too_little, just_enough, microlitre}
use Rattle.figures.specs.Rows.{Agrees, at_power_up, books_after, in_progress, over, visits_in, dispenses}

either : {A : Type 0} (t : Bool) (x : A) → (if t then x else x) ≡ x
either true x = refl
either false x = refl

-- the same visits are over, and none is under way
record Rests (b c : Books) : Type 0 where
  none : c.doing ≡ nothing
  same : c.past ≡ b.past

-- ---- one tick of a stopped pump
module _ (b : Books) (e : Event) (h : Standing e) (idle : b.doing ≡ nothing) where
  abbrev reporting : Report → Event
  reporting r = record { before = e.before; call = e.call; report = r; buffer = e.buffer }

  abbrev silent : Event
  silent = reporting (silent_tick e.before)

  -- S is neither I nor W
  still : moves (view_of e.before) ≡ false
  still = view_moves e.before ∙ ap (λ (m : Mode). moves_in m (under_way e.before)) h.before_stopped

  none_begun : (c : Call) → doing_by nothing silent (deed_by nothing (view_of e.before) c) ≡ nothing
  none_begun (byte_in x buffer) = refl
  none_begun (pin_at pin level) = refl
  none_begun (ticks_in n buffer) = refl
  none_begun (tick_in buffer) = ap (λ (t : Bool). doing_by nothing silent (if t then enters (view_of e.before) else other)) still

  none_now : doing_by b.doing silent (deed b silent) ≡ nothing
  none_now =
      ap (λ (x : Doing). doing_by x silent (deed_by x (view_of e.before) e.call)) idle ∙ none_begun e.call

  rests : Rests b (noted b e)
  unfolding noted
  rests =
      record {
        none =
            ap (λ (r : Report). (noted b (reporting r)).doing) h.nothing
            ∙ ap (λ (x : Doing). if is_whole x || drops b silent then nothing else x) none_now
            ∙ either (drops b silent) nothing;
        same =
            ap (λ (r : Report). (noted b (reporting r)).past) h.nothing
            ∙ ap (λ (x : Doing). if is_whole x || drops b silent then all_visits x b.past else b.past) none_now
            ∙ either (drops b silent) b.past;
      }

-- and many
all_rest : (es : List Event) (b : Books) → Every Standing es → b.doing ≡ nothing → Rests b (books b es)
unfolding books
all_rest [] b h idle = record { none = idle; same = refl }
all_rest (e ∷ es) b h idle =
    let one : Rests b (noted b e) = rests b e h.0 idle in
    let more : Rests (noted b e) (books (noted b e) es) = all_rest es (noted b e) h.1 one.none in
    record { none = more.none; same = more.same ∙ one.same }

-- ---- Basic mode, by the link's mode
pub basic_mode : (l : Link) → l.safety ≡ None → is_safe l ≡ false
unfolding is_safe
basic_mode l e = ap safe_in e

-- ---- n ticks of a run, behind which the pump is stopped, and k more
books_both : (b : Books) (es fs : List Event) → books b (es ++ fs) ≡ books (books b es) fs
unfolding books
books_both b [] fs = refl
books_both b (e ∷ es) fs = books_both (noted b e) es fs

module _ (ts : List String) (n : ℕ) where
  abbrev there : Pump
  there = after at_power_up (lines ts ++ ticks_of n)

  books_then : (k : ℕ) → books_after ts (n + k) ≡ books (books_after ts n) (trace there (ticks_of k))
  unfolding books_after
  books_then k =
      ap (λ (cs : List Call). books blank (trace at_power_up cs))
      (ap (λ (cs : List Call). lines ts ++ cs) (ticks_both blank_buffer n k) ∙ sym (append_assoc (lines ts) (ticks_of n) (ticks_of k)))
      ∙ ap (books blank) (trace_both at_power_up (lines ts ++ ticks_of n) (ticks_of k))
      ∙ books_both blank (trace at_power_up (lines ts ++ ticks_of n)) (trace there (ticks_of k))

  for_ever :
      (run_of there).mode ≡ Stopped None
      → (link_of there).safety ≡ None
      → (books_after ts n).doing ≡ nothing
      → (k : ℕ)
      → visits_in (books_after ts (n + k)) ≡ visits_in (books_after ts n)
  for_ever stops basic idle k =
      let sound : is_sound_pump there ≡ true = sound_after model_phases model (lines ts ++ ticks_of n) in
      let stands : Every Standing (trace there (ticks_of k)) =
      stopped_stands there blank_buffer sound (omega arith) (basic_mode (link_of there) basic) None stops k in
      let rest = all_rest (trace there (ticks_of k)) (books_after ts n) stands idle in
      ap visits_in (books_then k) ∙ ap₂ (λ (x : Doing) (ws : List Visit). in_progress x ∷ over ws) (rest.none ∙ sym idle) rest.same

-- ---- a visit that ends in tick n, where the next tick stops the pump
record Ends (ts : List String) (n steps : ℕ) : Type 0 where
  before : (books_after ts (n - 1)).past ≡ []
  at_end_lem : visits_in (books_after ts n) ≡ (0 ∷ 1 ∷ steps ∷ [])
  behind : visits_in (books_after ts (n + 1)) ≡ (0 ∷ 1 ∷ steps ∷ [])
  idle : (books_after ts (n + 1)).doing ≡ nothing
  stops : (run_of (after at_power_up (lines ts ++ ticks_of (n + 1)))).mode ≡ Stopped None
  basic : (link_of (after at_power_up (lines ts ++ ticks_of (n + 1)))).safety ≡ None

module _ (ts : List String) (n steps : ℕ) (h : Ends ts n steps) where
  from_then : (k : ℕ) → visits_in (books_after ts (n + k)) ≡ (0 ∷ 1 ∷ steps ∷ [])
  from_then zero = ap (λ (m : ℕ). visits_in (books_after ts m)) (add-zero n) ∙ h.at_end_lem
  from_then (suc k) =
      let next : n + suc k ≡ n + 1 + k = omega arith in
      ap (λ (m : ℕ). visits_in (books_after ts m)) next ∙ for_ever ts (n + 1) h.stops h.basic h.idle k ∙ h.behind

  ends : (mark : Char) → Agrees (dispenses mark ts n steps)
  ends mark k = ap₂ (λ (ws : List Visit) (ns : List ℕ). length ws ∷ ns) h.before (from_then k)

-- ---- the runs
pub less_than_a_step : Agrees (dispenses "f" in_microlitres 1 0)
unfolding opened single_ticks books_after in_microlitres
less_than_a_step =
    ends in_microlitres 1 0 (record { before = refl; at_end_lem = refl; behind = refl; idle = refl; stops = refl; basic = refl }) "f"

pub a_thousand_times : Agrees (dispenses "f" in_millilitres 19 25)
unfolding opened single_ticks books_after in_millilitres
a_thousand_times =
    ends in_millilitres 19 25 (record { before = refl; at_end_lem = refl; behind = refl; idle = refl; stops = refl; basic = refl }) "f"

pub none_fits : Agrees (dispenses "h" too_little 1 0)
unfolding opened single_ticks books_after too_little
none_fits = ends too_little 1 0 (record { before = refl; at_end_lem = refl; behind = refl; idle = refl; stops = refl; basic = refl }) "h"

pub one_fits : Agrees (dispenses "h" just_enough 2 1)
unfolding opened single_ticks books_after just_enough
one_fits = ends just_enough 2 1 (record { before = refl; at_end_lem = refl; behind = refl; idle = refl; stops = refl; basic = refl }) "h"

pub fifty_fit : Agrees (dispenses "i" microlitre 19 50)
unfolding opened single_ticks books_after microlitre
fifty_fit = ends microlitre 19 50 (record { before = refl; at_end_lem = refl; behind = refl; idle = refl; stops = refl; basic = refl }) "i"
