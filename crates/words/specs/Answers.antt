-- What a declined command is answered.   (01, Line and answer: "Checks in order")
use Rattle.words.specs.declared.answers.Declined.{Declined}
use Rattle.words.specs.declared.answers.Declined.TheVariants as why
use Rattle.words.specs.declared.answers.Reply.{Reply}
use Rattle.words.specs.declared.answers.Reply.TheVariants as reply

-- ?NA and ?OOR
abbrev pub declined : Declined → Reply
declined why.NotApplicable = reply.NotApplicable
declined why.OutOfRange = reply.OutOfRange
