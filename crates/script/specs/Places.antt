-- Where in a line the input stands, and what a byte asks for there: how the program reads, a byte at a time. What an input says stands
-- in Items, line by line, and `itemised` (player/proofs/Itemised.antt) says that the two are the same.   (01, Marked figures: the bench
-- program; docs/DECISIONS.md, 29 to 31)
use Rattle.std.specs.Prelude.{ℕ, ◌-◌, Bool, true, false, eqb, if◌then◌else◌, Option, Some, None, unwrap_or}
use Rattle.base.specs.Text.{letter}
use Rattle.decimal.specs.Read.{is_digit}
use Rattle.script.specs.Numbers.{grown, ticks_asked, level_asked}
use Rattle.script.specs.declared.places.Act.{Act}
use Rattle.script.specs.declared.places.Act.TheVariants as act
use Rattle.script.specs.declared.places.Spot.{Spot}
use Rattle.script.specs.declared.places.Spot.TheVariants.{Start, Text, Tick, Ticks, Edge, Pin, Level, Returned, Bad}
use Rattle.script.specs.declared.places.Step.{Step}

abbrev pub newline : ℕ
newline = 10

abbrev pub carriage_return : ℕ
carriage_return = 13

-- anything but to wait
abbrev pub is_deed : Act → Bool
is_deed act.Wait = false
is_deed (act.Send held b) = true
is_deed (act.Finish held) = true
is_deed (act.Set pin level) = true
is_deed (act.Run n) = true
is_deed act.Complain = true

-- ---- a newline ends the line, and the line is done: a text is ended, ticks are run, a pin is set; any other line is `!`, an empty
-- ---- one too. A return just before the newline belongs to the line's end.
abbrev pub line_end : Spot → Act
line_end Start = act.Complain
line_end (Text held) = act.Finish false
line_end Tick = act.Complain
line_end (Ticks n) = ticks_asked n
line_end Edge = act.Complain
line_end (Pin n) = act.Complain
line_end (Level pin n) = level_asked pin n
line_end (Returned a) = a
line_end Bad = act.Complain

-- ---- the input's end: a last line without a newline counts, and a return at its end is part of it
abbrev pub input_end : Spot → Act
input_end Start = act.Wait
input_end (Text held) = act.Finish held
input_end Tick = act.Complain
input_end (Ticks n) = ticks_asked n
input_end Edge = act.Complain
input_end (Pin n) = act.Complain
input_end (Level pin n) = level_asked pin n
input_end (Returned a) = act.Complain
input_end Bad = act.Complain

-- ---- a return: held back in a text, until it shows whether a newline follows; behind a whole item it may belong to the line's end;
-- ---- no other item has one in it
abbrev pub returned : Spot → Spot
returned Start = Bad
returned (Text held) = Text true
returned Tick = Bad
returned (Ticks n) = Returned (ticks_asked n)
returned Edge = Bad
returned (Pin n) = Bad
returned (Level pin n) = Returned (level_asked pin n)
returned (Returned a) = Bad
returned Bad = Bad

-- a return behind another in a text: no newline followed the first, so it is sent as it is
abbrev pub returned_act : Spot → Act
returned_act Start = act.Wait
returned_act (Text held) = if held then act.Send false carriage_return else act.Wait
returned_act Tick = act.Wait
returned_act (Ticks n) = act.Wait
returned_act Edge = act.Wait
returned_act (Pin n) = act.Wait
returned_act (Level pin n) = act.Wait
returned_act (Returned a) = act.Wait
returned_act Bad = act.Wait

-- ---- any other byte. The first of a line says what the item is.
unfoldable pub kind : ℕ → Spot
kind b =
    if eqb b (letter ">") then Text false else if eqb b (letter "T") then Tick else if eqb b (letter "E") then Edge else Bad

-- exactly one blank between the parts, and plain decimal digits
unfoldable pub behind_tick : ℕ → Spot
behind_tick b = if eqb b (letter " ") then Ticks 0 else Bad

unfoldable pub in_ticks : ℕ → ℕ → Spot
in_ticks n b = if is_digit b then Ticks (grown n (b - 48)) else Bad

unfoldable pub behind_edge : ℕ → Spot
behind_edge b = if eqb b (letter " ") then Pin None else Bad

-- a pin has at least one digit
unfoldable pub pin_ended : Option ℕ → Spot
pin_ended None = Bad
pin_ended (Some pin) = Level pin None

unfoldable pub in_pin : Option ℕ → ℕ → Spot
in_pin n b =
    if is_digit b
    then Pin (Some (grown (unwrap_or n 0) (b - 48)))
    else if eqb b (letter " ") then pin_ended n else Bad

unfoldable pub in_level : ℕ → Option ℕ → ℕ → Spot
in_level pin n b = if is_digit b then Level pin (Some (grown (unwrap_or n 0) (b - 48))) else Bad

abbrev pub next : Spot → ℕ → Spot
next Start b = kind b
next (Text held) b = Text false
next Tick b = behind_tick b
next (Ticks n) b = in_ticks n b
next Edge b = behind_edge b
next (Pin n) b = in_pin n b
next (Level pin n) b = in_level pin n b
next (Returned a) b = Bad
next Bad b = Bad

-- the bytes of a text are sent as they come; of a return that was held back it now shows that no newline follows
abbrev pub act_on : Spot → ℕ → Act
act_on Start b = act.Wait
act_on (Text held) b = act.Send held b
act_on Tick b = act.Wait
act_on (Ticks n) b = act.Wait
act_on Edge b = act.Wait
act_on (Pin n) b = act.Wait
act_on (Level pin n) b = act.Wait
act_on (Returned a) b = act.Wait
act_on Bad b = act.Wait

-- ---- one byte more
unfoldable pub after_spot : Spot → ℕ → Step
after_spot place b =
    if eqb b newline
    then record { place = Start; act = line_end place }
    else if eqb b carriage_return
    then record { place = returned place; act = returned_act place }
    else record { place = next place b; act = act_on place b }
