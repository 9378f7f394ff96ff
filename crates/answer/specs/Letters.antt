-- The status letters and the alarms' letters.   (01, Line and answer; Commands, Power-up; Ticks and phases; 02, 2/12)
use Rattle.std.specs.Prelude.{ℕ}
use Rattle.base.specs.Text.{letter}
use Rattle.words.specs.declared.answers.Status.{Status}
use Rattle.words.specs.declared.answers.Status.TheVariants.{Stopped, Paused, TimedPause, TriggerWait, Infusing, Withdrawing}
use Rattle.words.specs.declared.answers.Alarm.{Alarm}
use Rattle.words.specs.declared.answers.Alarm.TheVariants.{PowerUp, Program, TimeOut}

abbrev pub status_letter : Status → ℕ
status_letter Stopped = letter "S"
status_letter Paused = letter "P"
status_letter TimedPause = letter "T"
status_letter TriggerWait = letter "U"
status_letter Infusing = letter "I"
status_letter Withdrawing = letter "W"

abbrev pub alarm_letter : Alarm → ℕ
alarm_letter PowerUp = letter "R"
alarm_letter Program = letter "E"
alarm_letter TimeOut = letter "T"
