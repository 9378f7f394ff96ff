-- `read_two` meets its contract: by the length of the text, `read_two` is what `read_one` or `joined` ensures, or none.
use Rattle.std.proofs.Common.{rules}
use Rattle.decimal.proofs.ShortTexts.{short_texts}
use Rattle.decimal.proofs.short.read_two.Goals as goal

pub returns-in-len1 : goal.returns-in-len1
returns-in-len1 c = search (rules, short_texts)

pub returns-in-len2 : goal.returns-in-len2
returns-in-len2 c = search (rules, short_texts)

pub returns-in_default : goal.returns-in_default
returns-in_default c = search (rules, short_texts)

pub returns-in_default-2 : goal.returns-in_default-2
returns-in_default-2 c = search (rules, short_texts)
