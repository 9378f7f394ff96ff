-- What stands behind FUN, and behind any name, by what was read of it.
-- Assumes nothing.
use Rattle.std.specs.Prelude.{Option, Some, None}
use Prim.Native.Nat.{ℕ, ◌-◌}
use mathlib.Core.Path.{◌≡◌, sym, ap, ◌∙◌}
use mathlib.Core.List.{List}
use lib.ListN.{length, take, drop}
use borrow.Author.Tests.{eq-eqb, ne_eqb}
use Rattle.decimal.specs.Short.{read_two, read_tenths}
use Rattle.words.specs.Spelling.{function_name}
use Rattle.words.specs.declared.functions.Function.{Function}
use Rattle.words.specs.declared.functions.Function.TheVariants as f
use Rattle.line.specs.Names.{name_of, argument_of}
use Rattle.line.specs.Functions.{called_in, holding, if_held, pause_by, pause_asked, with_datum, function_by, function_asked}
use Rattle.line.specs.Commands.{asked_by, asked_of_name, command_of}
use Rattle.line.proofs.Leading.{part_behind}
use Rattle.line.specs.declared.names.Name.{Name}
use Rattle.words.specs.declared.commands.Command.{Command}
use Rattle.words.specs.declared.commands.Command.TheVariants as c

-- ---- a datum
pub held : (g h : Function) (u : Option ℕ) (n : ℕ) → u ≡ Some n → h ≡ holding g n → c.SetFunction h ≡ if_held g u
held g h u n e p = ap c.SetFunction p ∙ ap (if_held g) (sym e)

module _ (s : List ℕ) (u : Option ℕ) (p : u ≡ read_two s) where
  pub whole_seconds : (n : ℕ) → u ≡ Some n → c.SetFunction (f.Pas n) ≡ pause_asked s
  unfolding pause_asked
  whole_seconds n e = ap (λ (v : Option ℕ). pause_by v (read_tenths s)) (sym e ∙ p)

  pub or_tenths : (t : Option ℕ) (r : Command) → u ≡ None → t ≡ read_tenths s → r ≡ if_held (f.Tenths 0) t → r ≡ pause_asked s
  unfolding pause_asked
  or_tenths t r e k q = q ∙ ap (if_held (f.Tenths 0)) k ∙ ap (λ (v : Option ℕ). pause_by v (read_tenths s)) (sym e ∙ p)

pub ruleset pauses = (whole_seconds, or_tenths)

-- ---- FUN
module _ (s : List ℕ) where
  pub asks_function : length s ≡ 0 → c.AskFunction ≡ function_asked s
  unfolding function_asked
  asks_function e = sym (simp (eq-eqb (length s) 0 e))

  module _ (n : length s ≡ 0 → ⊥) (u : Option Function) (p : u ≡ called_in s) where
    pub by_called : function_asked s ≡ function_by u s
    unfolding function_asked
    by_called = simp (ne_eqb (length s) 0 n) (ap (λ (v : Option Function). function_by v s) (sym p))

    pub no_function : u ≡ None → c.Malformed ≡ function_asked s
    no_function e = sym (by_called ∙ ap (λ (v : Option Function). function_by v s) e)

    pub some_function :
        (g : Function) (name : List ℕ) (r : Command)
        → u ≡ Some g
        → name ≡ function_name g
        → r ≡ with_datum g (take (length s - length name) (drop (length name) s))
        → r ≡ function_asked s
    some_function g name r e h q =
        let behind : take (length s - length name) (drop (length name) s) ≡ drop (length (function_name g)) s =
        part_behind s (length name) ∙ ap (λ (v : List ℕ). drop (length v) s) h in
        q ∙ ap (with_datum g) behind ∙ sym (by_called ∙ ap (λ (v : Option Function). function_by v s) e)

-- ---- a command by its name
module _ (s : List ℕ) where
  pub asks_status : length s ≡ 0 → c.Status ≡ command_of s
  unfolding command_of
  asks_status e = sym (simp (eq-eqb (length s) 0 e))

  module _ (o : length s ≡ 0 → ⊥) (m : Option Name) (p : m ≡ name_of s) where
    by_option : command_of s ≡ asked_of_name m (argument_of s)
    unfolding command_of
    by_option = simp (ne_eqb (length s) 0 o) (ap (λ (v : Option Name). asked_of_name v (argument_of s)) (sym p))

    pub asks_by_name :
        (n : Name) (rest : List ℕ) (r : Command)
        → m ≡ Some n
        → rest ≡ argument_of s
        → r ≡ asked_by n rest
        → r ≡ command_of s
    asks_by_name n rest r e q k =
        k ∙ ap (asked_by n) q ∙ sym (by_option ∙ ap (λ (v : Option Name). asked_of_name v (argument_of s)) e)

    pub asks_nothing : m ≡ None → c.Malformed ≡ command_of s
    asks_nothing e = sym (by_option ∙ ap (λ (v : Option Name). asked_of_name v (argument_of s)) e)

pub ruleset commands = (asks_status, asks_by_name, asks_nothing)
