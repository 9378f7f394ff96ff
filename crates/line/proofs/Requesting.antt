-- What a text asks for of the link or of the pump, by what was read from it, and what such a request can hold.
-- Assumes nothing.
use Rattle.std.specs.Prelude.{if◌then◌else◌, Option, Some, None}
use Rattle.std.specs.Cmp.Lexicographic.{pointwise}
use Prim.Native.Nat.{ℕ, ◌≤◌}
use mathlib.Core.Path.{◌≡◌, refl, sym, ap, ◌∙◌}
use mathlib.Core.Bool.{Bool, true, false}
use mathlib.Core.List.{List}
use lib.Dec.{eqb}
use lib.ListN.{length, take, drop}
use borrow.Author.Tests.{eq-eqb, ne_eqb}
use Rattle.base.specs.Text.{text}
use Rattle.decimal.specs.Short.{read_three}
use Rattle.decimal.proofs.ThreeDigits.{three_small}
use Rattle.words.specs.declared.commands.Command.{Command}
use Rattle.words.specs.declared.commands.Command.TheVariants.{Malformed}
use Rattle.words.specs.declared.commands.Request.{Request}
use Rattle.words.specs.declared.commands.Request.TheVariants.{AskLimit, SetLimit, Pump}
use Rattle.line.specs.Addresses.{address_of, unaddressed}
use Rattle.line.specs.Spelling.{leads}
use Rattle.line.specs.Commands.{command_of}
use Rattle.line.specs.Lines.{line_text}
use Rattle.line.specs.Requests.{limit_by, limit_asked, request_of, asked_of, asked_in}
use Rattle.line.specs.Sendable.{Sendable}
use Rattle.line.specs.declared.lines.Line.{Line}
use Rattle.line.proofs.Leading.{stripped}
use Rattle.line.proofs.Sent.{malformed, command_sendable}

-- ---- SAF by what stands behind it
module _ (s : List ℕ) where
  pub asks_limit : length s ≡ 0 → AskLimit ≡ limit_asked s
  unfolding limit_asked
  asks_limit e = sym (simp (eq-eqb (length s) 0 e))

  module _ (n : length s ≡ 0 → ⊥) (u : Option ℕ) (p : u ≡ read_three s) where
    pub sets_limit : (x : ℕ) → u ≡ Some x → SetLimit x ≡ limit_asked s
    unfolding limit_asked
    sets_limit x e = ap limit_by (sym e ∙ p) ∙ sym (simp (ne_eqb (length s) 0 n))

    pub no_limit : u ≡ None → Pump Malformed ≡ limit_asked s
    unfolding limit_asked
    no_limit e = ap limit_by (sym e ∙ p) ∙ sym (simp (ne_eqb (length s) 0 n))

pub ruleset limits = (asks_limit, sets_limit, no_limit)

-- ---- whether SAF leads the text
module _ (s : List ℕ) where
  pub of_link :
      (rest : List ℕ) (r : Request)
      → pointwise eqb (take 3 s) (text "SAF") ≡ true
      → rest ≡ drop 3 s
      → r ≡ limit_asked rest
      → r ≡ request_of s
  unfolding request_of
  of_link rest r e p q = q ∙ ap limit_asked p ∙ sym (simp (sym (stripped (text "SAF") s) ∙ e))

  pub of_pump : (command : Command) → pointwise eqb (take 3 s) (text "SAF") ≡ false → command ≡ command_of s → Pump command ≡ request_of s
  unfolding request_of
  of_pump command e q = ap Pump q ∙ sym (simp (sym (stripped (text "SAF") s) ∙ e))

-- ---- with the address
pub asked_whole :
    (s rest : List ℕ) (a : ℕ) (r : Request)
    → a ≡ address_of s
    → rest ≡ unaddressed s
    → r ≡ request_of rest
    → record { address = a; request = r } ≡ asked_of s
unfolding asked_of
asked_whole s rest a r p q k = rw (p, k, q)

-- ---- what a request can hold: a limit has three digits at the most, a command can be sent
abbrev pub Holdable : Request → Type 0
Holdable AskLimit = Unit {0}
Holdable (SetLimit n) = n ≤ 999
Holdable (Pump command) = Sendable command

limit_holdable : (s : List ℕ) → Holdable (limit_asked s)
unfolding limit_asked
limit_holdable s = by_length (eqb (length s) 0)
  where
    by_reading : (u : Option ℕ) → read_three s ≡ u → Holdable (limit_by u)
    by_reading (Some n) e = three_small s n e
    by_reading None e = malformed

    by_length : (t : Bool) → Holdable (if t then AskLimit else limit_by (read_three s))
    by_length true = tt
    by_length false = by_reading (read_three s) refl

pub request_holdable : (s : List ℕ) → Holdable (request_of s)
unfolding request_of
request_holdable s = by_name (leads (text "SAF") s)
  where
    by_name : (t : Bool) → Holdable (if t then limit_asked (drop 3 s) else Pump (command_of s))
    by_name true = limit_holdable (drop 3 s)
    by_name false = command_sendable s

pub asked_holdable : (l : Line) → Holdable (asked_in l).request
unfolding asked_in
asked_holdable l = by_length l.overlong
  where
    by_length : (t : Bool) → Holdable (if t then Pump Malformed else request_of (unaddressed (line_text l)))
    by_length true = malformed
    by_length false = request_holdable (unaddressed (line_text l))
