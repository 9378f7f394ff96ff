-- The commands' names, and the argument behind them.   (01, Line and answer; Commands)
use Rattle.std.specs.Prelude.{ℕ, List, [], ◌∷◌, length, drop, if◌then◌else◌, Option, Some, None}
use Rattle.base.specs.Text.{text}
use Rattle.line.specs.Spelling.{leads}
use Rattle.line.specs.declared.names.Name.{Name}
use Rattle.line.specs.declared.names.Name.TheVariants.{Dia, Rat, Vol, Dir, Phn, Fun, Run, Stp, Dis, Cld, Reset}

-- each name's letters
abbrev pub letters_of : Name → List ℕ
letters_of Dia = text "DIA"
letters_of Rat = text "RAT"
letters_of Vol = text "VOL"
letters_of Dir = text "DIR"
letters_of Phn = text "PHN"
letters_of Fun = text "FUN"
letters_of Run = text "RUN"
letters_of Stp = text "STP"
letters_of Dis = text "DIS"
letters_of Cld = text "CLD"
letters_of Reset = text "*RESET"

-- a name, if its letters lead the text
abbrev pub named_by : Option Name → List ℕ → Option Name
named_by (Some n) s = if leads (letters_of n) s then Some n else None
named_by None s = None

-- the first of some names that leads the text
abbrev pub name_among : List Name → List ℕ → Option Name
name_among [] s = None
name_among (n ∷ ns) s = if leads (letters_of n) s then Some n else name_among ns s

-- the eleven names: none leads another, so that their order does not matter (proofs/Naming.antt, name_is)
abbrev pub names : List Name
names = Dia ∷ Rat ∷ Vol ∷ Dir ∷ Phn ∷ Fun ∷ Run ∷ Stp ∷ Dis ∷ Cld ∷ Reset ∷ []

unfoldable pub name_of : List ℕ → Option Name
name_of s = name_among names s

-- the letters that a name takes of the text, none where there is no name
abbrev pub letters_led : Option Name → List ℕ
letters_led (Some n) = letters_of n
letters_led None = []

-- the rest of the text
unfoldable pub argument_of : List ℕ → List ℕ
argument_of s = drop (length (letters_led (name_of s))) s
