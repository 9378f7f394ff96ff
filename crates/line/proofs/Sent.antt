-- Every command that a text asks for is one that can be sent: what the readers give is writable, or has two digits at the most.
-- Assumes nothing.
use Rattle.std.specs.Prelude.{if◌then◌else◌, Option, Some, None}
use Prim.Native.Nat.{ℕ, ◌≤◌}
use mathlib.Core.Path.{◌≡◌, refl, ap, ◌∙◌}
use mathlib.Core.Bool.{Bool, true, false}
use mathlib.Core.List.{List}
use native.Mathlib.Omega.{arith}
use lib.Dec.{eqb}
use lib.ListN.{length, drop}
use Rattle.decimal.specs.Read.{read}
use Rattle.decimal.specs.Short.{read_one, read_two, read_tenths}
use Rattle.decimal.specs.Writable.{is_writable}
use Rattle.decimal.proofs.Theorems.{read_writable, one_small, two_small, tenths_small}
use Rattle.words.specs.Functions.{datum}
use Rattle.words.specs.Commands.{amount, short_datum}
use Rattle.words.specs.Spelling.{function_name}
use Rattle.words.specs.declared.functions.Function.{Function}
use Rattle.words.specs.declared.functions.Function.TheVariants as f
use Rattle.line.specs.Arguments as asked
use Rattle.line.specs.Arguments.{or_query, if_number, unless_more}
use Rattle.line.specs.Functions as functions
use Rattle.line.specs.Names.{name_of, argument_of}
use Rattle.line.specs.Commands.{asked_by, asked_of_name, command_of}
use Rattle.line.specs.Sendable.{Sendable}
use Rattle.line.specs.declared.arguments.Heading.{Heading}
use Rattle.line.specs.declared.arguments.Heading.TheVariants as heading
use Rattle.line.specs.declared.names.Name.{Name}
use Rattle.line.specs.declared.names.Name.TheVariants as n
use Rattle.words.specs.declared.commands.Command.{Command}
use Rattle.words.specs.declared.commands.Command.TheVariants as c

-- a command that brings nothing, a number, a short datum
zero_writable : is_writable 0 ≡ true
unfolding is_writable
zero_writable = refl

nothing : (command : Command) → amount command ≡ 0 → short_datum command ≡ 0 → Sendable command
nothing command p q = record { number_writable = ap is_writable p ∙ zero_writable; datum_short = omega arith }

a_number : (command : Command) → is_writable (amount command) ≡ true → short_datum command ≡ 0 → Sendable command
a_number command p q = record { number_writable = p; datum_short = omega arith }

a_datum : (command : Command) → amount command ≡ 0 → short_datum command ≤ 99 → Sendable command
a_datum command p q = record { number_writable = ap is_writable p ∙ zero_writable; datum_short = q }

pub malformed : Sendable c.Malformed
malformed = nothing c.Malformed refl refl

-- either of two commands, by a test
either : (t : Bool) (a b : Command) → Sendable a → Sendable b → Sendable (if t then a else b)
either true a b p q = p
either false a b p q = q

-- a setting of what was read
if_number_lem :
    (setting : ℕ → Command) (r : Option ℕ)
    → ((n : ℕ) → r ≡ Some n → Sendable (setting n))
    → Sendable (if_number setting r)
if_number_lem setting (Some n) p = p n refl
if_number_lem setting None p = malformed

unless_more_lem : (s : List ℕ) (command : Command) → Sendable command → Sendable (unless_more s command)
unfolding unless_more
unless_more_lem s command p = either (eqb (length s) 0) command c.Malformed p malformed

-- a query, or else a setting
query :
    (s : List ℕ) (asks : Command) {sets : Command}
    → amount asks ≡ 0
    → short_datum asks ≡ 0
    → Sendable sets
    → Sendable (or_query asks s sets)
query s asks {sets} p q k = either (eqb (length s) 0) asks sets (nothing asks p q) k

-- ---- the datum of a function
set_function : (g : Function) → datum g ≤ 99 → Sendable (c.SetFunction g)
set_function g h = a_datum (c.SetFunction g) refl h

module _ (s : List ℕ) where
  alone : (g : Function) → datum g ≡ 0 → Sendable (unless_more s (c.SetFunction g))
  alone g e = unless_more_lem s (c.SetFunction g) (set_function g (omega arith))

  one_or_two : (g : ℕ → Function) → ((n : ℕ) → datum (g n) ≡ n) → Sendable (if_number (λ n. c.SetFunction (g n)) (read_two s))
  one_or_two g e = if_number_lem (λ n. c.SetFunction (g n)) (read_two s) (λ n p. set_function (g n) (omega (arith, e n, two_small s n p)))

  pause : Sendable (functions.pause_asked s)
  unfolding functions.pause_asked
  pause = go (read_two s) refl
    where
      go : (r : Option ℕ) → read_two s ≡ r → Sendable (functions.pause_by r (read_tenths s))
      go (Some n) e = set_function (f.Pas n) (two_small s n e)
      go None e = if_number_lem (λ n. c.SetFunction (f.Tenths n)) (read_tenths s) (λ n p. set_function (f.Tenths n) (tenths_small s n p))

  level : Sendable (if_number (λ n. c.SetFunction (f.Out n)) (read_one s))
  level = if_number_lem (λ n. c.SetFunction (f.Out n)) (read_one s) (λ n p. set_function (f.Out n) (omega (arith, one_small s n p)))

  with_datum_lem : (g : Function) → Sendable (functions.with_datum g s)
  with_datum_lem f.Rat = alone f.Rat refl
  with_datum_lem f.Inc = alone f.Inc refl
  with_datum_lem f.Dec = alone f.Dec refl
  with_datum_lem f.Stp = alone f.Stp refl
  with_datum_lem (f.Jmp k) = one_or_two f.Jmp (λ n. refl)
  with_datum_lem (f.Lop k) = one_or_two f.Lop (λ n. refl)
  with_datum_lem f.Lps = alone f.Lps refl
  with_datum_lem f.Lpe = alone f.Lpe refl
  with_datum_lem (f.Pas k) = pause
  with_datum_lem (f.Tenths k) = pause
  with_datum_lem (f.If k) = one_or_two f.If (λ n. refl)
  with_datum_lem (f.Evn k) = one_or_two f.Evn (λ n. refl)
  with_datum_lem f.Evr = alone f.Evr refl
  with_datum_lem f.Bep = alone f.Bep refl
  with_datum_lem (f.Out k) = level

function_by_lem : (g : Option Function) (s : List ℕ) → Sendable (functions.function_by g s)
function_by_lem (Some g) s = with_datum_lem (drop (length (function_name g)) s) g
function_by_lem None s = malformed

-- ---- each name
module _ (s : List ℕ) where
  diameter : Sendable (asked.diameter_asked s)
  unfolding asked.diameter_asked
  diameter = query s c.AskDiameter refl refl (if_number_lem c.SetDiameter (read s) (λ x p. a_number (c.SetDiameter x) (read_writable s x p) refl))

  rate : Sendable (asked.rate_asked s)
  unfolding asked.rate_asked
  rate =
      query s c.AskRate refl refl
      (if_number_lem (λ x. c.SetRate x (asked.units_at_end s)) (read (asked.amount_of s)) (λ x p. a_number (c.SetRate x (asked.units_at_end s)) (read_writable (asked.amount_of s) x p) refl))

  volume : Sendable (asked.volume_asked s)
  unfolding asked.volume_asked
  volume = query s c.AskVolume refl refl (if_number_lem c.SetVolume (read s) (λ x p. a_number (c.SetVolume x) (read_writable s x p) refl))

  direction : Sendable (asked.direction_asked s)
  unfolding asked.direction_asked
  direction = query s c.AskDirection refl refl (go (asked.heading_of s))
    where
      go : (t : Option Heading) → Sendable (asked.direction_by t)
      go (Some (heading.To d)) = nothing (c.SetDirection d) refl refl
      go (Some heading.Reverse) = nothing c.Reverse refl refl
      go None = malformed

  clear : Sendable (asked.clear_asked s)
  unfolding asked.clear_asked
  clear = go (asked.heading_of s)
    where
      go : (t : Option Heading) → Sendable (asked.clear_by t)
      go (Some (heading.To d)) = nothing (c.Clear d) refl refl
      go (Some heading.Reverse) = malformed
      go None = malformed

  phase : Sendable (asked.phase_asked s)
  unfolding asked.phase_asked
  phase =
      query s c.AskPhase refl refl
      (if_number_lem c.SetPhase (read_two s) (λ n p. a_datum (c.SetPhase n) refl (two_small s n p)))

  run : Sendable (asked.run_asked s)
  unfolding asked.run_asked
  run =
      query s c.Run refl refl
      (if_number_lem c.RunFrom (read_two s) (λ n p. a_datum (c.RunFrom n) refl (two_small s n p)))

  function : Sendable (functions.function_asked s)
  unfolding functions.function_asked
  function = query s c.AskFunction refl refl (function_by_lem (functions.called_in s) s)

by_name : (name : Name) (s : List ℕ) → Sendable (asked_by name s)
by_name n.Dia s = diameter s
by_name n.Rat s = rate s
by_name n.Vol s = volume s
by_name n.Dir s = direction s
by_name n.Phn s = phase s
by_name n.Fun s = function s
by_name n.Run s = run s
by_name n.Stp s = unless_more_lem s c.Stop (nothing c.Stop refl refl)
by_name n.Dis s = unless_more_lem s c.AskDispensed (nothing c.AskDispensed refl refl)
by_name n.Cld s = clear s
by_name n.Reset s = unless_more_lem s c.Reset (nothing c.Reset refl refl)

by_option : (name : Option Name) (s : List ℕ) → Sendable (asked_of_name name s)
by_option (Some name) s = by_name name s
by_option None s = malformed

pub command_sendable : (s : List ℕ) → Sendable (command_of s)
unfolding command_of
command_sendable s = query s c.Status refl refl (by_option (name_of s) (argument_of s))
