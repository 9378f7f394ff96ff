-- `joined` meets its contract: `short_texts` has `joined` by the classes of the two bytes.
use Rattle.std.proofs.Common.{rules}
use Rattle.decimal.proofs.ShortTexts.{short_texts}
use Rattle.decimal.proofs.short.joined.Goals as goal

pub returns-in-48-to-57-48-to-57 : goal.returns-in-48-to-57-48-to-57
returns-in-48-to-57-48-to-57 c = search (rules, short_texts)

pub returns-in_default : goal.returns-in_default
returns-in_default c = search (rules, short_texts)

pub returns-in_default-2 : goal.returns-in_default-2
returns-in_default-2 c = search (rules, short_texts)

pub returns-in_default-3 : goal.returns-in_default-3
returns-in_default-3 c = search (rules, short_texts)

pub returns-in_default-4 : goal.returns-in_default-4
returns-in_default-4 c = search (rules, short_texts)
