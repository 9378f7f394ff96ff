-- `only_function` meets its contract: the letters that are looked at leave one function to be tried.
-- Assumes nothing.
use lib.Dec.{lit<}
use Rattle.base.specs.Text.{text, letter}
use Rattle.words.specs.declared.functions.Function.TheVariants as f
use Rattle.line.specs.Functions.{called_in, called_by}
use Rattle.line.proofs.Letters.{by_first, by_second, by_third}
use Rattle.line.proofs.Calling.{only_rat, only_inc, only_dec, only_stp, only_jmp, only_lop, only_lps, only_lpe, only_pas, only_if}
use Rattle.line.proofs.Calling.{only_evn, only_evr, only_bep, only_out}
use Rattle.line.proofs.functions.only_function.Goals as goal

pub returns-in-78 : goal.returns-in-78
returns-in-78 c = search (by_second called_in (called_by f.Inc (text "INC")) (letter "I") (letter "N") (lit< tt) only_inc)

pub returns-in_default-second : goal.returns-in_default-second
returns-in_default-second c = search only_if

pub returns-in-68 : goal.returns-in-68
returns-in-68 c = search (by_first called_in (called_by f.Dec (text "DEC")) (letter "D") (lit< tt) only_dec)

pub returns-in-83 : goal.returns-in-83
returns-in-83 c = search (by_first called_in (called_by f.Stp (text "STP")) (letter "S") (lit< tt) only_stp)

pub returns-in-74 : goal.returns-in-74
returns-in-74 c = search (by_first called_in (called_by (f.Jmp 0) (text "JMP")) (letter "J") (lit< tt) only_jmp)

pub returns-in-80-third : goal.returns-in-80-third
returns-in-80-third c = search (by_third called_in (called_by (f.Lop 0) (text "LOP")) (letter "L") (letter "P") (lit< tt) only_lop)

pub returns-in-83-third : goal.returns-in-83-third
returns-in-83-third c = search (by_third called_in (called_by f.Lps (text "LPS")) (letter "L") (letter "S") (lit< tt) only_lps)

pub returns-in_default-third : goal.returns-in_default-third
returns-in_default-third c = search only_lpe

pub returns-in-80 : goal.returns-in-80
returns-in-80 c = search (by_first called_in (called_by (f.Pas 0) (text "PAS")) (letter "P") (lit< tt) only_pas)

pub returns-in-78-third : goal.returns-in-78-third
returns-in-78-third c = search (by_third called_in (called_by (f.Evn 0) (text "EVN")) (letter "E") (letter "N") (lit< tt) only_evn)

pub returns-in_default-third-2 : goal.returns-in_default-third-2
returns-in_default-third-2 c = search only_evr

pub returns-in-66 : goal.returns-in-66
returns-in-66 c = search (by_first called_in (called_by f.Bep (text "BEP")) (letter "B") (lit< tt) only_bep)

pub returns-in-79 : goal.returns-in-79
returns-in-79 c = search (by_first called_in (called_by (f.Out 0) (text "OUT")) (letter "O") (lit< tt) only_out)

pub returns-in_default : goal.returns-in_default
returns-in_default c = search only_rat
