-- What stands behind FUN: a function's name, and a datum of the kind that the function takes. A missing or a needless datum is
-- malformed; one out of range is judged later.   (01, Commands, FUN; Numbers)
use Rattle.std.specs.Prelude.{ℕ, List, [], ◌∷◌, eqb, length, drop, if◌then◌else◌, Option, Some, None}
use Rattle.decimal.specs.Short.{read_one, read_two, read_tenths}
use Rattle.words.specs.Spelling.{function_name}
use Rattle.words.specs.declared.functions.Function.{Function}
use Rattle.words.specs.declared.functions.Function.TheVariants as f
use Rattle.line.specs.Spelling.{leads}
use Rattle.line.specs.Arguments.{if_number, unless_more}
use Rattle.words.specs.declared.commands.Command.{Command}
use Rattle.words.specs.declared.commands.Command.TheVariants.{AskFunction, SetFunction, Malformed}

-- a function, if its name leads the text
abbrev pub called_by : Function → List ℕ → List ℕ → Option Function
called_by g name s = if leads name s then Some g else None

-- the first of some functions whose name leads the text
abbrev pub called_among : List Function → List ℕ → Option Function
called_among [] s = None
called_among (g ∷ gs) s = if leads (function_name g) s then Some g else called_among gs s

-- the fourteen names, each with the datum 0, since PAS is one name; none leads another (proofs/Calling.antt, called-is)
abbrev pub functions : List Function
functions =
    f.Rat
    ∷ f.Inc
    ∷ f.Dec
    ∷ f.Stp
    ∷ f.Jmp 0
    ∷ f.Lop 0
    ∷ f.Lps
    ∷ f.Lpe
    ∷ f.Pas 0
    ∷ f.If 0
    ∷ f.Evn 0
    ∷ f.Evr
    ∷ f.Bep
    ∷ f.Out 0
    ∷ []

unfoldable pub called_in : List ℕ → Option Function
called_in s = called_among functions s

-- a function with another datum; one that takes none stays as it is
abbrev pub holding : Function → ℕ → Function
holding f.Rat n = f.Rat
holding f.Inc n = f.Inc
holding f.Dec n = f.Dec
holding f.Stp n = f.Stp
holding (f.Jmp _) n = f.Jmp n
holding (f.Lop _) n = f.Lop n
holding f.Lps n = f.Lps
holding f.Lpe n = f.Lpe
holding (f.Pas _) n = f.Pas n
holding (f.Tenths _) n = f.Tenths n
holding (f.If _) n = f.If n
holding (f.Evn _) n = f.Evn n
holding f.Evr n = f.Evr
holding f.Bep n = f.Bep
holding (f.Out _) n = f.Out n

abbrev pub if_held : Function → Option ℕ → Command
if_held g digits = if_number (λ n. SetFunction (holding g n)) digits

-- PAS: one or two digits are seconds; digit, point, digit are kept as tenths
abbrev pub pause_by : Option ℕ → Option ℕ → Command
pause_by (Some n) tenths = SetFunction (f.Pas n)
pause_by None tenths = if_number (λ n. SetFunction (f.Tenths n)) tenths

unfoldable pub pause_asked : List ℕ → Command
pause_asked s = pause_by (read_two s) (read_tenths s)

-- what may stand behind each name: nothing; one or two digits; for PAS also tenths; for OUT one digit
abbrev pub with_datum : Function → List ℕ → Command
with_datum f.Rat s = unless_more s (SetFunction f.Rat)
with_datum f.Inc s = unless_more s (SetFunction f.Inc)
with_datum f.Dec s = unless_more s (SetFunction f.Dec)
with_datum f.Stp s = unless_more s (SetFunction f.Stp)
with_datum (f.Jmp _) s = if_number (λ n. SetFunction (f.Jmp n)) (read_two s)
with_datum (f.Lop _) s = if_number (λ n. SetFunction (f.Lop n)) (read_two s)
with_datum f.Lps s = unless_more s (SetFunction f.Lps)
with_datum f.Lpe s = unless_more s (SetFunction f.Lpe)
with_datum (f.Pas _) s = pause_asked s
with_datum (f.Tenths _) s = pause_asked s
with_datum (f.If _) s = if_number (λ n. SetFunction (f.If n)) (read_two s)
with_datum (f.Evn _) s = if_number (λ n. SetFunction (f.Evn n)) (read_two s)
with_datum f.Evr s = unless_more s (SetFunction f.Evr)
with_datum f.Bep s = unless_more s (SetFunction f.Bep)
with_datum (f.Out _) s = if_number (λ n. SetFunction (f.Out n)) (read_one s)

-- FUN f
abbrev pub function_by : Option Function → List ℕ → Command
function_by (Some g) s = with_datum g (drop (length (function_name g)) s)
function_by None s = Malformed

unfoldable pub function_asked : List ℕ → Command
function_asked s = if eqb (length s) 0 then AskFunction else function_by (called_in s) s
