-- The observer reads a line or a packet's data as the engine does: he drops up to two leading digits of the characters and compares texts
-- (Books), the engine parses them, of a line the first 40 (asked_in, asked_of). Of every text:
--     line_agrees, data_agree   the two agree on it (Agree), and so
--     clears_as_asked   what he takes for a clearing of a direction's total is what asks the engine to clear it
--     starts_as_asked   what he takes for RUN with a phase is that, or the text is malformed, and so not obeyed
--     reset_as_asked    what asks the engine for *RESET he takes for it
--     collected_more    a line that has collected one byte more is the line after that byte
-- Assumes nothing.
use Rattle.std.specs.Prelude.{if◌then◌else◌, Option, Some, None}
use Prim.Native.Nat.compare
use Prim.Native.Nat.{ℕ, ◌+◌, ◌≤◌, ◌<◌}
use mathlib.Core.Path.{◌≡◌, refl, sym, ap, subst, ◌∙◌}
use mathlib.Core.Logic.{◌⊎◌, inl, inr}
use mathlib.Core.Bool.{Bool, true, false, ◌&&◌, ◌||◌, or-false, or-true}
use mathlib.Core.List.{List, [], ◌∷◌, ◌++◌}
use native.Mathlib.Omega.{arith}
use lib.Dec.{leb, ltb, eqb}
use lib.ListN.{length, drop}
use lib.Seq.{take_all}
use borrow.Author.Tests.{eqb-true, eqb-false, ne_eqb, eq-eqb, ltb-true, ltb-false, lt-ltb, le-ltb}
use Rattle.base.specs.Text.{text}
use Rattle.base.proofs.Choices.{and_left, and_right, and_false, false_true}
use Rattle.decimal.specs.Read.{is_digit, read}
use Rattle.decimal.specs.Short.{read_one, read_two, read_tenths, read_three}
use Rattle.drive.specs.declared.directions.Direction.{Direction}
use Rattle.drive.specs.declared.directions.Direction.TheVariants.{Infuse, Withdraw}
use Rattle.words.specs.Commands.{command_number, asks_to_clear, clear_number, is_reset}
use Rattle.words.specs.Spelling.{function_name, direction_letters}
use Rattle.words.specs.declared.functions.Function.{Function}
use Rattle.words.specs.declared.functions.Function.TheVariants as f
use Rattle.words.specs.declared.commands.Command.{Command}
use Rattle.words.specs.declared.commands.Command.TheVariants as c
use Rattle.words.specs.declared.commands.Request.{Request}
use Rattle.words.specs.declared.commands.Request.TheVariants as request
use Rattle.line.specs.Addresses.{address_width, unaddressed}
use Rattle.line.specs.Arguments as asked
use Rattle.line.specs.Arguments.{or_query, if_number, unless_more}
use Rattle.line.specs.Functions as functions
use Rattle.line.specs.Collected.{collect, Holds}
use Rattle.line.specs.Commands.{asked_by, asked_of_name, command_of}
use Rattle.line.specs.Lines.{empty_line, after_byte}
use Rattle.line.specs.Names.{names, name_among, name_of, letters_of, letters_led, argument_of}
use Rattle.line.specs.Requests.{limit_by, limit_asked, request_of, asked_of, asked_in}
use Rattle.line.specs.Spelling.{leads, is_text}
use Rattle.line.specs.declared.arguments.Heading.{Heading}
use Rattle.line.specs.declared.arguments.Heading.TheVariants as heading
use Rattle.line.specs.declared.lines.Line.{Line}
use Rattle.line.specs.declared.names.Name.{Name}
use Rattle.line.specs.declared.names.Name.TheVariants as n
use Rattle.line.proofs.Leading.{leads_is, word_is}
use Rattle.line.proofs.Naming.{name_is}
use Rattle.condition3.specs.Books.{of_way, past_digit}

-- ---- one byte more
more_collected : (l : Line) (bs : List ℕ) (b : ℕ) → collect l (bs ++ b ∷ []) ≡ (after_byte (collect l bs) b).line
unfolding collect
more_collected l [] b = refl
more_collected l (a ∷ bs) b = more_collected (after_byte l a).line bs b

pub collected_more : (bs : List ℕ) (b : ℕ) → collect empty_line (bs ++ b ∷ []) ≡ (after_byte (collect empty_line bs) b).line
collected_more bs b = more_collected empty_line bs b

-- ---- behind the address
abbrev pub said : List ℕ → List ℕ
said cs = past_digit (past_digit cs)

said_is : (cs : List ℕ) → said cs ≡ unaddressed cs
unfolding unaddressed address_width is_digit
said_is [] = refl
said_is (a ∷ []) = go (leb 48 a && leb a 57) refl
  where
    go : (t : Bool) → (leb 48 a && leb a 57) ≡ t → past_digit (if t then [] else a ∷ []) ≡ drop (if t then 1 else 0) (a ∷ [])
    go true e = refl
    go false e = simp e
said_is (a ∷ b ∷ s) = go (leb 48 a && leb a 57) (leb 48 b && leb b 57) refl refl
  where
    go :
        (t u : Bool)
        → (leb 48 a && leb a 57) ≡ t
        → (leb 48 b && leb b 57) ≡ u
        → past_digit (if t then b ∷ s else a ∷ b ∷ s) ≡ drop (if t then if u then 2 else 1 else 0) (a ∷ b ∷ s)
    go true true e k = simp k
    go true false e k = simp k
    go false u e k = simp e

one_less : (s : List ℕ) → length s ≤ length (past_digit s) + 1
one_less [] = omega arith
one_less (a ∷ s) = go (leb 48 a && leb a 57)
  where
    go : (t : Bool) → length (a ∷ s) ≤ length (if t then s else a ∷ s) + 1
    go true = omega arith
    go false = omega arith

-- ---- texts and words
-- a text is not a word that is shorter, nor one whose front does not lead it
other_length : (word s : List ℕ) → length word < length s → is_text word s ≡ false
unfolding is_text
other_length word s h = simp (ne_eqb (length s) (length word) (λ e. omega arith))

leads_front : (a b s : List ℕ) → leads (a ++ b) s ≡ true → leads a s ≡ true
unfolding leads
leads_front [] b s e = refl
leads_front (x ∷ a) b [] e = e
leads_front (x ∷ a) b (y ∷ s) e =
    let k = leads_front a b s (and_right (eqb y x) (leads (a ++ b) s) e) in simp (and_left (eqb y x) (leads (a ++ b) s) e, k)

other_front : (a b s : List ℕ) → leads a s ≡ false → is_text (a ++ b) s ≡ false
unfolding is_text
other_front a b s h = go (eqb (length s) (length (a ++ b))) (leads (a ++ b) s) refl
  where
    go : (t u : Bool) → leads (a ++ b) s ≡ u → (t && u) ≡ false
    go t true e = false_true (sym h ∙ leads_front a b s e)
    go t false e = and_false t

-- it is a word where that is so behind the same front, and then they are equal
same_front : (a word s : List ℕ) → is_text (a ++ word) (a ++ s) ≡ is_text word s
unfolding is_text leads
same_front [] word s = refl
same_front (x ∷ a) word s =
    simp (compare.suc-suc (length (a ++ s)) (length (a ++ word)), eq-eqb x x refl) (same_front a word s)

-- its name leads a text, and the argument follows; where the name is unknown, none of the names leads it
among_leads : (ns : List Name) (s : List ℕ) → leads (letters_led (name_among ns s)) s ≡ true
unfolding leads
among_leads [] s = refl
among_leads (m ∷ ns) s = go (leads (letters_of m) s) refl (among_leads ns s)
  where
    go :
        (t : Bool)
        → leads (letters_of m) s ≡ t
        → leads (letters_led (name_among ns s)) s ≡ true
        → leads (letters_led (if t then Some m else name_among ns s)) s ≡ true
    go true e h = e
    go false e h = h

name_and_argument : (s : List ℕ) → s ≡ letters_led (name_of s) ++ argument_of s
unfolding name_of argument_of
name_and_argument s = leads_is (letters_led (name_of s)) s (among_leads names s)

unknown_leads : (s : List ℕ) (m : Name) → name_of s ≡ None → leads (letters_of m) s ≡ false
unknown_leads s m e = go (leads (letters_of m) s) refl
  where
    go : (t : Bool) → leads (letters_of m) s ≡ t → t ≡ false
    go true k = let z : Some m ≡ None = sym (name_is m s k) ∙ e in cc
    go false k = refl

-- ---- what asks neither to clear nor to start
abbrev Apart : Command → Type 0
Apart command = (eqb (command_number command) 16 || (asks_to_clear Infuse command || asks_to_clear Withdraw command)) ≡ false

either : (t : Bool) (a b : Command) → Apart a → Apart b → Apart (if t then a else b)
either true a b p q = p
either false a b p q = q

if_number_lem : (setting : ℕ → Command) (r : Option ℕ) → ((x : ℕ) → Apart (setting x)) → Apart (if_number setting r)
if_number_lem setting (Some x) p = p x
if_number_lem setting None p = refl

unless_more_lem : (s : List ℕ) (command : Command) → Apart command → Apart (unless_more s command)
unfolding unless_more
unless_more_lem s command p = either (eqb (length s) 0) command c.Malformed p refl

module _ (s : List ℕ) where
  alone : (g : Function) → Apart (unless_more s (c.SetFunction g))
  alone g = unless_more_lem s (c.SetFunction g) refl

  held : (g : ℕ → Function) (r : Option ℕ) → Apart (if_number (λ k. c.SetFunction (g k)) r)
  held g r = if_number_lem (λ k. c.SetFunction (g k)) r (λ k. refl)

  pause : Apart (functions.pause_asked s)
  unfolding functions.pause_asked
  pause = go (read_two s)
    where
      go : (r : Option ℕ) → Apart (functions.pause_by r (read_tenths s))
      go (Some k) = refl
      go None = held f.Tenths (read_tenths s)

  with_datum_lem : (g : Function) → Apart (functions.with_datum g s)
  with_datum_lem f.Rat = alone f.Rat
  with_datum_lem f.Inc = alone f.Inc
  with_datum_lem f.Dec = alone f.Dec
  with_datum_lem f.Stp = alone f.Stp
  with_datum_lem (f.Jmp k) = held f.Jmp (read_two s)
  with_datum_lem (f.Lop k) = held f.Lop (read_two s)
  with_datum_lem f.Lps = alone f.Lps
  with_datum_lem f.Lpe = alone f.Lpe
  with_datum_lem (f.Pas k) = pause
  with_datum_lem (f.Tenths k) = pause
  with_datum_lem (f.If k) = held f.If (read_two s)
  with_datum_lem (f.Evn k) = held f.Evn (read_two s)
  with_datum_lem f.Evr = alone f.Evr
  with_datum_lem f.Bep = alone f.Bep
  with_datum_lem (f.Out k) = held f.Out (read_one s)

module _ (s : List ℕ) where
  function_by_lem : (g : Option Function) → Apart (functions.function_by g s)
  function_by_lem (Some g) = with_datum_lem (drop (length (function_name g)) s) g
  function_by_lem None = refl

  heading_by : (h : Option Heading) → Apart (asked.direction_by h)
  heading_by (Some (heading.To d)) = refl
  heading_by (Some heading.Reverse) = refl
  heading_by None = refl

  query : (asks sets : Command) → Apart asks → Apart sets → Apart (or_query asks s sets)
  query asks sets p q = either (eqb (length s) 0) asks sets p q

  diameter : Apart (asked.diameter_asked s)
  unfolding asked.diameter_asked
  diameter = query c.AskDiameter (if_number c.SetDiameter (read s)) refl (if_number_lem c.SetDiameter (read s) (λ x. refl))

  rate : Apart (asked.rate_asked s)
  unfolding asked.rate_asked
  rate =
      let setting : ℕ → Command = λ x. c.SetRate x (asked.units_at_end s) in
      let amount = read (asked.amount_of s) in
      query c.AskRate (if_number setting amount) refl (if_number_lem setting amount (λ x. refl))

  volume : Apart (asked.volume_asked s)
  unfolding asked.volume_asked
  volume = query c.AskVolume (if_number c.SetVolume (read s)) refl (if_number_lem c.SetVolume (read s) (λ x. refl))

  direction : Apart (asked.direction_asked s)
  unfolding asked.direction_asked
  direction = query c.AskDirection (asked.direction_by (asked.heading_of s)) refl (heading_by (asked.heading_of s))

  phase : Apart (asked.phase_asked s)
  unfolding asked.phase_asked
  phase = query c.AskPhase (if_number c.SetPhase (read_two s)) refl (if_number_lem c.SetPhase (read_two s) (λ k. refl))

  function : Apart (functions.function_asked s)
  unfolding functions.function_asked
  function = query c.AskFunction (functions.function_by (functions.called_in s) s) refl (function_by_lem (functions.called_in s))

-- ---- what the observer takes a text for, and what a command is
abbrev pub clears_by : Direction → List ℕ → Bool
clears_by d s = is_text (of_way d (text "CLDINF") (text "CLDWDR")) s || is_text (text "*RESET") s

abbrev pub starts_by : List ℕ → Bool
starts_by s = leads (text "RUN") s && ltb 3 (length s)

no_clear : (d : Direction) (s : List ℕ) → leads (text "CLD") s ≡ false → is_text (of_way d (text "CLDINF") (text "CLDWDR")) s ≡ false
no_clear Infuse s p = other_front (text "CLD") (text "INF") s p
no_clear Withdraw s p = other_front (text "CLD") (text "WDR") s p

clears_not : (d : Direction) (s : List ℕ) → leads (text "CLD") s ≡ false → leads (text "*RESET") s ≡ false → clears_by d s ≡ false
clears_not d s p q = simp (no_clear d s p, other_front (text "*RESET") [] s q)

pub record Agree (s : List ℕ) (command : Command) : Type 0 where
  pub infuse : clears_by Infuse s ≡ asks_to_clear Infuse command
  pub withdraw : clears_by Withdraw s ≡ asks_to_clear Withdraw command
  pub start : (command ≡ c.Malformed) ⊎ (starts_by s ≡ eqb (command_number command) 16)

neither : (t u : Bool) → (t || u) ≡ false → (t ≡ false) × (u ≡ false)
neither true u e = false_true (sym e)
neither false u e = (refl, e)

-- a text that none of the three names leads, and a command that asks for nothing of theirs
module _ (s : List ℕ) (command : Command) (a : Apart command) where
  apart_agree : leads (text "CLD") s ≡ false → leads (text "*RESET") s ≡ false → leads (text "RUN") s ≡ false → Agree s command
  apart_agree p q r =
      let one = neither (eqb (command_number command) 16) (asks_to_clear Infuse command || asks_to_clear Withdraw command) a in
      let two = neither (asks_to_clear Infuse command) (asks_to_clear Withdraw command) one.1 in
      record {
        infuse = clears_not Infuse s p q ∙ sym two.0;
        withdraw = clears_not Withdraw s p q ∙ sym two.1;
        start = inr (simp r (sym one.0));
      }

-- CLD, *RESET, RUN and what stands behind them
clear_direction : (d : Direction) → Agree (text "CLD" ++ direction_letters d) (c.Clear d)
unfolding leads is_text
clear_direction Infuse = record { infuse = refl; withdraw = refl; start = inr refl }
clear_direction Withdraw = record { infuse = refl; withdraw = refl; start = inr refl }

clear_other : (t : List ℕ) → is_text (text "INF") t ≡ false → is_text (text "WDR") t ≡ false → Agree (text "CLD" ++ t) c.Malformed
unfolding leads
clear_other t p q =
    let reset : is_text (text "*RESET") (text "CLD" ++ t) ≡ false = other_front (text "*RESET") [] (text "CLD" ++ t) refl in
    record {
      infuse = simp (same_front (text "CLD") (text "INF") t ∙ p, reset);
      withdraw = simp (same_front (text "CLD") (text "WDR") t ∙ q, reset);
      start = inl refl;
    }

clear_agree : (t : List ℕ) → Agree (text "CLD" ++ t) (asked.clear_asked t)
unfolding asked.clear_asked asked.heading_of
clear_agree t = go (is_text (text "INF") t) (is_text (text "WDR") t) (is_text (text "REV") t) refl refl
  where
    found : (d : Direction) → is_text (direction_letters d) t ≡ true → Agree (text "CLD" ++ t) (c.Clear d)
    found d e = subst (λ (s : List ℕ). Agree (text "CLD" ++ s) (c.Clear d)) (sym (word_is (direction_letters d) t e)) (clear_direction d)

    go :
        (a b r : Bool)
        → is_text (text "INF") t ≡ a
        → is_text (text "WDR") t ≡ b
        → Agree (text "CLD" ++ t)
        (asked.clear_by
        (if a then Some (heading.To Infuse) else if b then Some (heading.To Withdraw) else if r then Some heading.Reverse else None))
    go true b r p q = found Infuse p
    go false true r p q = found Withdraw q
    go false false true p q = clear_other t p q
    go false false false p q = clear_other t p q

reset_agree : (t : List ℕ) → Agree (text "*RESET" ++ t) (unless_more t c.Reset)
unfolding unless_more leads is_text
reset_agree t = go (eqb (length t) 0) refl
  where
    whole : (d : Direction) (u : Bool) → eqb (length t) 0 ≡ u → clears_by d (text "*RESET" ++ t) ≡ u
    whole d true e = simp (no_clear d (text "*RESET" ++ t) refl, same_front (text "*RESET") [] t, e)
    whole d false e = simp (no_clear d (text "*RESET" ++ t) refl, same_front (text "*RESET") [] t, e)

    go : (u : Bool) → eqb (length t) 0 ≡ u → Agree (text "*RESET" ++ t) (if u then c.Reset else c.Malformed)
    go true e = record { infuse = whole Infuse true e; withdraw = whole Withdraw true e; start = inr refl }
    go false e = record { infuse = whole Infuse false e; withdraw = whole Withdraw false e; start = inl refl }

run_agree : (t : List ℕ) → Agree (text "RUN" ++ t) (asked.run_asked t)
unfolding asked.run_asked leads
run_agree t = go (eqb (length t) 0) (read_two t) refl
  where
    silent : (d : Direction) → clears_by d (text "RUN" ++ t) ≡ false
    silent d = clears_not d (text "RUN" ++ t) refl refl

    go : (u : Bool) (r : Option ℕ) → eqb (length t) 0 ≡ u → Agree (text "RUN" ++ t) (if u then c.Run else if_number c.RunFrom r)
    go true r e =
        record {
          infuse = silent Infuse;
          withdraw = silent Withdraw;
          start = inr (le-ltb 3 (length (text "RUN" ++ t)) (omega (arith, eqb-true (length t) 0 e)));
        }
    go false (Some x) e =
        record {
          infuse = silent Infuse;
          withdraw = silent Withdraw;
          start = inr (lt-ltb 3 (length (text "RUN" ++ t)) (omega (arith, eqb-false (length t) 0 e)));
        }
    go false None e = record { infuse = silent Infuse; withdraw = silent Withdraw; start = inl refl }

-- ---- every text
by_name : (m : Name) (t : List ℕ) → Agree (letters_of m ++ t) (asked_by m t)
unfolding leads
by_name n.Dia t = apart_agree (text "DIA" ++ t) (asked.diameter_asked t) (diameter t) refl refl refl
by_name n.Rat t = apart_agree (text "RAT" ++ t) (asked.rate_asked t) (rate t) refl refl refl
by_name n.Vol t = apart_agree (text "VOL" ++ t) (asked.volume_asked t) (volume t) refl refl refl
by_name n.Dir t = apart_agree (text "DIR" ++ t) (asked.direction_asked t) (direction t) refl refl refl
by_name n.Phn t = apart_agree (text "PHN" ++ t) (asked.phase_asked t) (phase t) refl refl refl
by_name n.Fun t = apart_agree (text "FUN" ++ t) (functions.function_asked t) (function t) refl refl refl
by_name n.Run t = run_agree t
by_name n.Stp t = apart_agree (text "STP" ++ t) (unless_more t c.Stop) (unless_more_lem t c.Stop refl) refl refl refl
by_name n.Dis t = apart_agree (text "DIS" ++ t) (unless_more t c.AskDispensed) (unless_more_lem t c.AskDispensed refl) refl refl refl
by_name n.Cld t = clear_agree t
by_name n.Reset t = reset_agree t

unknown_agree : (s : List ℕ) → name_of s ≡ None → Agree s c.Malformed
unknown_agree s e =
    apart_agree s c.Malformed refl (unknown_leads s n.Cld e) (unknown_leads s n.Reset e) (unknown_leads s n.Run e)

named_agree : (s : List ℕ) → Agree s (asked_of_name (name_of s) (argument_of s))
named_agree s = go (name_of s) refl
  where
    go : (r : Option Name) → name_of s ≡ r → Agree s (asked_of_name r (argument_of s))
    go (Some m) e =
        let f : s ≡ letters_of m ++ argument_of s =
        name_and_argument s ∙ ap (λ (r : Option Name). letters_led r ++ argument_of s) e in
        subst (λ (t : List ℕ). Agree t (asked_by m (argument_of s))) (sym f) (by_name m (argument_of s))
    go None e = unknown_agree s e

command_agree : (s : List ℕ) → Agree s (command_of s)
unfolding command_of leads is_text
command_agree [] = record { infuse = refl; withdraw = refl; start = inr refl }
command_agree (b ∷ s) = simp (ne_eqb (length (b ∷ s)) 0 (λ e. omega arith)) (named_agree (b ∷ s))

-- ---- every request: SAF is asked of the link, and asks the pump for nothing, as the empty command does   (02, 2/12)
abbrev pub pump_asked : Request → Command
pump_asked request.AskLimit = c.Status
pump_asked (request.SetLimit k) = c.Status
pump_asked (request.Pump command) = command

limit_agree : (t : List ℕ) → Agree (text "SAF" ++ t) (pump_asked (limit_asked t))
unfolding limit_asked leads
limit_agree t = go (eqb (length t) 0) (read_three t)
  where
    go : (u : Bool) (r : Option ℕ) → Agree (text "SAF" ++ t) (pump_asked (if u then request.AskLimit else limit_by r))
    go true r = apart_agree (text "SAF" ++ t) c.Status refl refl refl refl
    go false (Some k) = apart_agree (text "SAF" ++ t) c.Status refl refl refl refl
    go false None = apart_agree (text "SAF" ++ t) c.Malformed refl refl refl refl

request_agree : (s : List ℕ) → Agree s (pump_asked (request_of s))
unfolding request_of
request_agree s = go (leads (text "SAF") s) refl
  where
    go : (u : Bool) → leads (text "SAF") s ≡ u → Agree s (pump_asked (if u then limit_asked (drop 3 s) else request.Pump (command_of s)))
    go true e =
        subst (λ (t : List ℕ). Agree t (pump_asked (limit_asked (drop 3 s)))) (sym (leads_is (text "SAF") s e)) (limit_agree (drop 3 s))
    go false e = command_agree s

-- ---- every line
module _ (l : Line) (cs : List ℕ) (h : Holds l cs) where
  within : length cs ≤ 40 → (asked_in l).request ≡ request_of (said cs)
  unfolding asked_in
  within k =
      simp (h.more ∙ le-ltb 40 (length cs) k) (ap request_of (ap unaddressed (h.kept ∙ take_all 40 cs k) ∙ sym (said_is cs)))

  longer : 40 < length cs → (asked_in l).request ≡ request.Pump c.Malformed
  unfolding asked_in
  longer k = simp (h.more ∙ lt-ltb 40 (length cs) k)

  longer_agree : 40 < length cs → Agree (said cs) c.Malformed
  longer_agree k =
      let long : 39 ≤ length (said cs) = omega (arith, one_less cs, one_less (past_digit cs)) in
      let reset : is_text (text "*RESET") (said cs) ≡ false = other_length (text "*RESET") (said cs) (omega arith) in
      record {
        infuse = simp (other_length (text "CLDINF") (said cs) (omega arith), reset);
        withdraw = simp (other_length (text "CLDWDR") (said cs) (omega arith), reset);
        start = inl refl;
      }

  pub line_agrees : Agree (said cs) (pump_asked (asked_in l).request)
  line_agrees = go (ltb 40 (length cs)) refl
    where
      go : (t : Bool) → ltb 40 (length cs) ≡ t → Agree (said cs) (pump_asked (asked_in l).request)
      go true e =
          let k : 40 < length cs = ltb-true 40 (length cs) e in
          subst (λ (r : Request). Agree (said cs) (pump_asked r)) (sym (longer k)) (longer_agree k)
      go false e =
          subst (λ (r : Request). Agree (said cs) (pump_asked r)) (sym (within (ltb-false 40 (length cs) e))) (request_agree (said cs))

-- ---- every packet's data
pub data_agree : (s : List ℕ) → Agree (said s) (pump_asked (asked_of s).request)
unfolding asked_of
data_agree s = subst (λ (t : List ℕ). Agree (said s) (pump_asked (request_of t))) (said_is s) (request_agree (said s))

-- ---- what the observer takes a text for
module _ (s : List ℕ) (command : Command) (a : Agree s command) where
  pub clears_as_asked : (d : Direction) → clears_by d s ≡ asks_to_clear d command
  clears_as_asked Infuse = a.infuse
  clears_as_asked Withdraw = a.withdraw

  pub starts_as_asked : (command ≡ c.Malformed) ⊎ (starts_by s ≡ eqb (command_number command) 16)
  starts_as_asked = a.start

  -- ---- *RESET
  pub reset_as_asked : is_reset command ≡ true → is_text (text "*RESET") s ≡ true
  unfolding is_text leads
  reset_as_asked r = go (is_text (text "*RESET") s) refl
    where
      both : (d : Direction) → clears_by d s ≡ true
      both d =
          clears_as_asked d
          ∙ ap (λ (t : Bool). eqb (command_number command) (clear_number d) || t) r
          ∙ or-true (eqb (command_number command) (clear_number d))

      clear : (d : Direction) → is_text (text "*RESET") s ≡ false → s ≡ of_way d (text "CLDINF") (text "CLDWDR")
      clear d e =
          word_is (of_way d (text "CLDINF") (text "CLDWDR")) s
          (sym (or-false (is_text (of_way d (text "CLDINF") (text "CLDWDR")) s))
          ∙ ap (λ (t : Bool). is_text (of_way d (text "CLDINF") (text "CLDWDR")) s || t) (sym e)
          ∙ both d)

      go : (t : Bool) → is_text (text "*RESET") s ≡ t → is_text (text "*RESET") s ≡ true
      go true e = e
      go false e = false_true (ap (is_text (text "CLDINF")) (sym (clear Withdraw e) ∙ clear Infuse e))
