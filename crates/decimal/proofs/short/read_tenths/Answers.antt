-- `read_tenths` meets its contract: of three bytes with the point in the middle, `read_tenths` is what `joined` ensures; else none.
use Rattle.std.proofs.Common.{rules}
use Rattle.decimal.proofs.ShortTexts.{short_texts}
use Rattle.decimal.proofs.short.read_tenths.Goals as goal

pub returns-in-46 : goal.returns-in-46
returns-in-46 c = search (rules, short_texts)

pub returns-in_default : goal.returns-in_default
returns-in_default c = search (rules, short_texts)

pub returns-in_default-2 : goal.returns-in_default-2
returns-in_default-2 c = search (rules, short_texts)

pub returns-in_default-3 : goal.returns-in_default-3
returns-in_default-3 c = search (rules, short_texts)
