-- The bytes that stand behind the status letter, for each case of a reply.   (01, Line and answer; the queries of Commands; 02, 2/12)
use Rattle.std.specs.Prelude.{ℕ, List, [], ◌++◌}
use Rattle.base.specs.Text.{text}
use Rattle.decimal.specs.Print.{print, print_two, print_three}
use Rattle.drive.specs.declared.syringe.VolumeUnit.{VolumeUnit}
use Rattle.words.specs.Spelling.{function_name, datum_text, rate_letters, volume_letters, direction_letters}
use Rattle.words.specs.declared.answers.Reply.{Reply}
use Rattle.words.specs.declared.answers.Reply.TheVariants as r
use Rattle.words.specs.declared.functions.Function.{Function}

-- FUN's answer: the name and the datum
abbrev pub function_text : Function → List ℕ
function_text g = function_name g ++ datum_text g

-- DIS's answer: `I` total `W` total unit
abbrev pub totals_text : ℕ → ℕ → VolumeUnit → List ℕ
totals_text infused withdrawn unit = (text "I") ++ print infused ++ (text "W") ++ print withdrawn ++ volume_letters unit

-- each case of a reply
abbrev pub data_of : Reply → List ℕ
data_of r.Status = []
data_of r.Malformed = text "?"
data_of r.NotApplicable = text "?NA"
data_of r.OutOfRange = text "?OOR"
data_of r.Garbled = text "?COM"
data_of (r.Number x) = print x
data_of (r.Rate x unit) = print x ++ rate_letters unit
data_of (r.Volume x unit) = print x ++ volume_letters unit
data_of (r.Direction d) = direction_letters d
data_of (r.Phase n) = print_two n
data_of (r.Limit n) = print_three n
data_of (r.Function g) = function_text g
data_of (r.Totals infused withdrawn unit) = totals_text infused withdrawn unit
