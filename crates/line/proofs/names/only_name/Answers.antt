-- `only_name` meets its contract: the letters that are looked at leave one name to be tried.
-- Assumes nothing.
use Rattle.std.specs.Prelude.{Some}
use lib.Dec.{lit<}
use Rattle.base.specs.Text.{letter}
use Rattle.line.specs.Names.{name_of, named_by}
use Rattle.line.specs.declared.names.Name.TheVariants as n
use Rattle.line.proofs.Letters.{by_first, by_second, by_third}
use Rattle.line.proofs.Naming.{only_dia, only_dir, only_dis, only_rat, only_run, only_vol, only_phn}
use Rattle.line.proofs.Naming.{only_fun, only_stp, only_cld, only_reset, only_none}
use Rattle.line.proofs.names.only_name.Goals as goal

pub returns-in-65 : goal.returns-in-65
returns-in-65 c = search (by_third name_of (named_by (Some n.Dia)) (letter "D") (letter "A") (lit< tt) only_dia)

pub returns-in-82-third : goal.returns-in-82-third
returns-in-82-third c = search (by_third name_of (named_by (Some n.Dir)) (letter "D") (letter "R") (lit< tt) only_dir)

pub returns-in_default-third : goal.returns-in_default-third
returns-in_default-third c = search only_dis

pub returns-in-65-second : goal.returns-in-65-second
returns-in-65-second c = search (by_second name_of (named_by (Some n.Rat)) (letter "R") (letter "A") (lit< tt) only_rat)

pub returns-in_default-second : goal.returns-in_default-second
returns-in_default-second c = search only_run

pub returns-in-86 : goal.returns-in-86
returns-in-86 c = search (by_first name_of (named_by (Some n.Vol)) (letter "V") (lit< tt) only_vol)

pub returns-in-80 : goal.returns-in-80
returns-in-80 c = search (by_first name_of (named_by (Some n.Phn)) (letter "P") (lit< tt) only_phn)

pub returns-in-70 : goal.returns-in-70
returns-in-70 c = search (by_first name_of (named_by (Some n.Fun)) (letter "F") (lit< tt) only_fun)

pub returns-in-83 : goal.returns-in-83
returns-in-83 c = search (by_first name_of (named_by (Some n.Stp)) (letter "S") (lit< tt) only_stp)

pub returns-in-67 : goal.returns-in-67
returns-in-67 c = search (by_first name_of (named_by (Some n.Cld)) (letter "C") (lit< tt) only_cld)

pub returns-in-42 : goal.returns-in-42
returns-in-42 c = search (by_first name_of (named_by (Some n.Reset)) (letter "*") (lit< tt) only_reset)

pub returns-in_default : goal.returns-in_default
returns-in_default c = search only_none
