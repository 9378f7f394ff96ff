-- Answers as the documents write them, computed from the definitions: STX and ETX stand around each text, in Safe mode a packet.
-- (01, Line and answer; 02, 2/12)
-- Assumes nothing.
use Prim.Native.Nat.{ℕ}
use Prim.Native.String.{String}
use mathlib.Core.Path.{refl}
use mathlib.Core.Bool.{xor}
use mathlib.Core.List.{List, [], ◌∷◌, ◌++◌}
use Rattle.base.specs.Rows.{Gives}
use Rattle.base.specs.Text.{text}
use Rattle.decimal.specs.Print.{last_digit, print, print_two, print_three, print_tenths}
use Rattle.drive.specs.declared.rates.RateUnit.TheVariants.{Mh}
use Rattle.drive.specs.declared.syringe.VolumeUnit.TheVariants.{Microlitre}
use Rattle.drive.specs.declared.directions.Direction.TheVariants.{Infuse}
use Rattle.words.specs.declared.answers.Alarm.TheVariants.{PowerUp, Program, TimeOut}
use Rattle.words.specs.declared.answers.Reply.TheVariants as r
use Rattle.words.specs.declared.answers.Said.{Said}
use Rattle.words.specs.declared.answers.Said.TheVariants as said
use Rattle.words.specs.declared.answers.Status.TheVariants.{Stopped, Paused, TimedPause, TriggerWait, Infusing, Withdrawing}
use Rattle.words.specs.declared.functions.Function.TheVariants as f
use Rattle.crc.specs.Xor.{◌⊕◌}
use Rattle.crc.specs.Check.{bit, shifted, after, bits_of, bits, check_of}
use Rattle.packet.specs.Packets.{check_bytes, packet_of}
use Rattle.answer.specs.Answers.{text_of, answer_of}
use Rattle.answer.specs.declared.frame.Frame.TheVariants as frame

-- an address and what is said, and the bytes of the answer
abbrev pub Row : Type 0
Row = (ℕ × Said) × List ℕ

abbrev stx_etx : String → List ℕ
stx_etx s = (2 ∷ []) ++ text s ++ (3 ∷ [])

abbrev pub rows : List Row
rows =
    ((0, said.Nothing), [])
    ∷ ((0, said.Answer Stopped r.Status), stx_etx "00S")
    ∷ ((0, said.Answer Paused r.Status), stx_etx "00P")
    ∷ ((0, said.Answer TimedPause r.Status), stx_etx "00T")
    ∷ ((0, said.Answer TriggerWait r.Status), stx_etx "00U")
    ∷ ((0, said.Answer Infusing r.Status), stx_etx "00I")
    ∷ ((0, said.Answer Withdrawing r.Status), stx_etx "00W")
    ∷ ((0, said.Alarm PowerUp), stx_etx "00A?R")
    ∷ ((0, said.Alarm Program), stx_etx "00A?E")
    ∷ ((0, said.Answer Stopped r.Malformed), stx_etx "00S?")
    ∷ ((0, said.Answer Infusing r.NotApplicable), stx_etx "00I?NA")
    ∷ ((0, said.Answer Paused r.OutOfRange), stx_etx "00P?OOR")
    ∷ ((0, said.Answer Stopped (r.Limit 0)), stx_etx "00S000")
    ∷ ((0, said.Answer Stopped (r.Number 10_000)), stx_etx "00S10.00")
    ∷ ((0, said.Answer Stopped (r.Rate 200_000 Mh)), stx_etx "00S200.0MH")
    ∷ ((0, said.Answer Stopped (r.Volume 1_000 Microlitre)), stx_etx "00S1.000UL")
    ∷ ((0, said.Answer Stopped (r.Direction Infuse)), stx_etx "00SINF")
    ∷ ((0, said.Answer Stopped (r.Phase 7)), stx_etx "00S07")
    ∷ ((0, said.Answer Stopped (r.Function (f.Jmp 5))), stx_etx "00SJMP05")
    ∷ ((0, said.Answer Stopped (r.Function (f.Tenths 5))), stx_etx "00SPAS0.5")
    ∷ ((0, said.Answer Stopped (r.Function (f.Pas 7))), stx_etx "00SPAS07")
    ∷ ((0, said.Answer Stopped (r.Function (f.If 3))), stx_etx "00SIF03")
    ∷ ((0, said.Answer Stopped (r.Function (f.Out 1))), stx_etx "00SOUT1")
    ∷ ((0, said.Answer Stopped (r.Function f.Evr)), stx_etx "00SEVR")
    ∷ ((0, said.Answer Stopped (r.Totals 981 0 Microlitre)), stx_etx "00SI0.981W0.000UL")
    ∷ ((7, said.Answer Stopped r.Status), stx_etx "07S")
    ∷ ((99, said.Alarm Program), stx_etx "99A?E")
    ∷ []

pub rows_answered : Gives (λ (of : ℕ × Said). answer_of frame.Line of.0 of.1) rows
unfolding last_digit print print_two print_three print_tenths text_of
rows_answered = refl

-- a text with its length and its check, by another program's computation
abbrev packet : ℕ → String → ℕ → ℕ → List ℕ
packet n s high low = (2 ∷ n ∷ []) ++ text s ++ (high ∷ low ∷ 3 ∷ [])

abbrev pub packets : List Row
packets =
    ((0, said.Nothing), [])
    ∷ ((0, said.Answer Stopped r.Status), packet 7 "00S" 0xAA 0xA6)
    ∷ ((0, said.Answer Stopped r.Garbled), packet 11 "00S?COM" 0xB5 0x80)
    ∷ ((0, said.Answer Stopped (r.Limit 5)), packet 10 "00S005" 0x6B 0x43)
    ∷ ((0, said.Alarm Program), packet 9 "00A?E" 0x07 0x50)
    ∷ ((0, said.Alarm TimeOut), packet 9 "00A?T" 0x05 0x40)
    ∷ ((0, said.Answer Stopped (r.Totals 981 0 Microlitre)), packet 21 "00SI0.981W0.000UL" 0x3E 0x6F)
    ∷ []

pub packets_answered : Gives (λ (of : ℕ × Said). answer_of frame.Packet of.0 of.1) packets
unfolding last_digit print print_two print_three text_of packet_of check_bytes ◌⊕◌ bit shifted after bits_of bits check_of xor
packets_answered = refl
