-- Runs from power-up, computed from the definitions: the claims speak of something.   (01, Marked figures: the bench program)
-- Assumes nothing.
use Rattle.std.specs.Prelude.{if◌then◌else◌}
use Prim.Native.Nat.{ℕ}
use mathlib.Core.Path.{◌≡◌, refl}
use mathlib.Core.List.{List, [], ◌∷◌, ◌++◌}
use lib.ListN.{length}
use Rattle.base.specs.Rows.{Gives}
use Rattle.base.specs.Text.{text}
use Rattle.drive.specs.declared.directions.Direction.TheVariants.{Infuse}
use Rattle.loops.specs.declared.Loop.{Loop}
use Rattle.pump.specs.Calls.{in_turn, ticks_call, ticks_buffer}
use Rattle.pump.specs.Holder.{model_phases, fresh_pump}
use Rattle.pump.specs.Reports.{of_ticks}
use Rattle.statement.specs.Histories.{Call, ticks_in, trace, single_ticks, tick_by_tick}
use Rattle.condition3.specs.Books.{Books, Visit, visiting, is_whole, blank, books}
use Rattle.condition3.specs.Sending.{blank_buffer, bytes_in, line, lines, packet, packets, one_tick, ticks_of}
use Rattle.condition3.proofs.Opening.{opened}

-- ---- the document's example: 50 steps of 19,635,000 fl in 19 ticks, and one tick more to stop
abbrev dispensed : ℕ → List Call
dispensed n = lines ("" ∷ "RAT200MH" ∷ "VOL1" ∷ "RUN" ∷ []) ++ ticks_of n

abbrev books_after : List Call → Books
books_after cs = books blank (trace (fresh_pump model_phases) cs)

abbrev pub rows : List (List Call × ℕ)
rows =
    (dispensed 1, 0)
    ∷ (dispensed 5, 215_985_000)
    ∷ (dispensed 19, 981_750_000)
    -- CLD does not apply while operating, and is accepted of the stopped pump; the other direction's leaves this total
    ∷ (dispensed 19 ++ line "CLDINF", 981_750_000)
    ∷ (dispensed 20 ++ line "CLDINF", 0)
    ∷ (dispensed 20 ++ line "CLDWDR", 981_750_000)
    ∷ (dispensed 20 ++ line "5CLDINF", 981_750_000)
    ∷ (dispensed 20 ++ line "*RESET", 0)
    -- another diameter leaves what was given at its price
    ∷ (dispensed 20 ++ line "DIA20", 981_750_000)
    ∷ []

pub as_the_document : Gives (λ (cs : List Call). (books_after cs).given Infuse) rows
unfolding opened single_ticks
as_the_document = refl

-- ---- the same by the last phase of a pump of 99; one of fewer has no such phase, and both PHN and RUN are out of range
abbrev in_last : List Call
in_last = lines ("" ∷ "PHN99" ∷ "FUNRAT" ∷ "RAT200MH" ∷ "VOL1" ∷ "RUN99" ∷ []) ++ ticks_of 20

pub of_many_phases :
    Gives (λ (n : ℕ). (books blank (trace (fresh_pump n) in_last)).given Infuse) ((99, 981_750_000) ∷ (98, 0) ∷ (41, 0) ∷ [])
unfolding opened single_ticks
of_many_phases = refl

-- ---- the example by one call of 19 ticks and a single tick, booked tick by tick; of 1,000,001 in a call none is done   (02, 1/12)
abbrev at_once : ℕ → List Call
at_once n = lines ("" ∷ "RAT200MH" ∷ "VOL1" ∷ "RUN" ∷ []) ++ ticks_in n blank_buffer ∷ one_tick ∷ []

abbrev books_at : List Call → Books
books_at cs = books blank (tick_by_tick (trace (fresh_pump model_phases) cs))

pub in_one_call :
    Gives (λ (n : ℕ). (books_at (at_once n)).given Infuse)
    ((19, 981_750_000) ∷ (0, 0) ∷ (1_000_001, 0) ∷ [])
unfolding opened single_ticks tick_by_tick ticks_call ticks_buffer in_turn of_ticks
in_one_call = refl

-- ---- three visits to a RAT phase at 10 mm, where a step has 0.019635 microlitres: one of 1.000 microlitres runs to its end, one of 0.019
-- ends at entry, and one is cut: the last setting is accepted while paused, which stops the pump
abbrev visited : List Call
visited =
    dispensed 20
    ++ lines ("VOL0.019" ∷ "RUN" ∷ [])
    ++ ticks_of 2
    ++ lines ("VOL1.000" ∷ "RUN" ∷ [])
    ++ ticks_of 5
    ++ lines ("STP" ∷ "VOL2.000" ∷ [])

-- of each visit its volume, its steps, and 1 where it ended of itself
abbrev pub figures_of : List Visit → List (ℕ × ℕ × ℕ)
figures_of [] = []
figures_of (w ∷ ws) = (w.volume, w.steps, if is_whole (visiting w) then 1 else 0) ∷ figures_of ws

-- the newest first
pub three_visits :
    figures_of (books_after visited).past ≡ ((1_000_000_000, 11, 0) ∷ (19_000_000, 0, 1) ∷ (1_000_000_000, 50, 1) ∷ [])
unfolding opened single_ticks
three_visits = refl

-- ---- LPS in phases 1, 2 and 4, LOP 3 in phase 3, and phase 5 jumps to 1: the loop of phase 2 has its three passes and closes, and phase 1
-- closes what is open and begins anew. Of each open loop its beginner and its passes, the newest first
abbrev looped : ℕ → List Call
looped n =
    lines ("" ∷ "FUNLPS" ∷ "PHN2" ∷ "FUNLPS" ∷ "PHN3" ∷ "FUNLOP3" ∷ "PHN4" ∷ "FUNLPS" ∷ "PHN5" ∷ "FUNJMP1" ∷ "RUN" ∷ []) ++ ticks_of n

abbrev pub open_of : List Loop → List (ℕ × ℕ)
open_of [] = []
open_of (l ∷ ls) = (l.begun, l.passes) ∷ open_of ls

pub loops_booked :
    Gives (λ (n : ℕ). open_of (books_after (looped n)).loops)
    ((1, (1, 0) ∷ [])
    ∷ (2, (2, 0) ∷ (1, 0) ∷ [])
    ∷ (4, (2, 2) ∷ (1, 0) ∷ [])
    ∷ (5, (1, 0) ∷ [])
    ∷ (6, (4, 0) ∷ (1, 0) ∷ [])
    ∷ (8, (1, 0) ∷ [])
    ∷ [])
unfolding opened single_ticks
loops_booked = refl

-- ---- the example in packets, behind SAF 200, which comes as a line   (02, 2/12)
abbrev safely : ℕ → List Call
safely n = lines ("" ∷ "SAF200" ∷ []) ++ packets ("RAT200MH" ∷ "VOL1" ∷ "RUN" ∷ []) ++ ticks_of n

abbrev pub safe_rows : List (List Call × ℕ)
safe_rows =
    (safely 1, 0)
    ∷ (safely 5, 215_985_000)
    ∷ (safely 20, 981_750_000)
    ∷ (safely 20 ++ packet "CLDINF", 0)
    -- to another pump; in a packet with a wrong check; in small letters, which nothing raises; as a line, which is not taken
    ∷ (safely 20 ++ packet "5CLDINF", 981_750_000)
    ∷ (safely 20 ++ bytes_in (2 ∷ 10 ∷ (text "CLDINF" ++ 0 ∷ 0 ∷ 3 ∷ [])), 981_750_000)
    ∷ (safely 20 ++ packet "cldinf", 981_750_000)
    ∷ (safely 20 ++ line "CLDINF", 981_750_000)
    -- SAF 0 and *RESET return to Basic mode
    ∷ (safely 20 ++ packet "SAF0" ++ line "CLDINF", 0)
    ∷ (safely 20 ++ packet "*RESET", 0)
    -- behind a part packet: after 499 ticks STX and what follows belong to it, after 500 it is dropped
    ∷ (safely 20 ++ bytes_in (2 ∷ 10 ∷ text "CLD") ++ ticks_of 499 ++ packet "CLDINF", 981_750_000)
    ∷ (safely 20 ++ bytes_in (2 ∷ 10 ∷ text "CLD") ++ ticks_of 500 ++ packet "CLDINF", 0)
    ∷ []

pub as_in_packets : Gives (λ (cs : List Call). (books_after cs).given Infuse) safe_rows
unfolding opened single_ticks
as_in_packets = refl

-- ---- alarm T comes with the 1,000th tick behind SAF 1, gives its steps, and stops the pump; the visit is over   (02, 2/12)
abbrev limited : ℕ → List Call
limited n = lines ("" ∷ "RAT200MH" ∷ "RUN" ∷ "SAF1" ∷ []) ++ ticks_of n

pub until_the_alarm :
    Gives {B = ℕ × ℕ} (λ (n : ℕ). ((books_after (limited n)).given Infuse, length (books_after (limited n)).past))
    ((999, (55_429_605_000, 0)) ∷ (1_000, (55_488_510_000, 1)) ∷ (1_001, (55_488_510_000, 1)) ∷ [])
unfolding opened single_ticks
until_the_alarm = refl

-- and it ends a call of 2,000 ticks
pub ends_the_call : (books_at (limited 0 ++ ticks_in 2_000 blank_buffer ∷ [])).given Infuse ≡ 55_488_510_000
unfolding opened single_ticks tick_by_tick ticks_call ticks_buffer in_turn of_ticks
ends_the_call = refl
