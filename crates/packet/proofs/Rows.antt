-- Packets and streams that documents name, as rows.
-- Assumes nothing.
use mathlib.Core.Path.{refl}
use mathlib.Core.Bool.{xor}
use mathlib.Core.List.{[], ◌∷◌, ◌++◌}
use Rattle.base.specs.Rows.{Gives}
use Rattle.base.specs.Text.{text}
use Rattle.crc.specs.Xor.{◌⊕◌}
use Rattle.crc.specs.Check.{bit, shifted, after, bits_of, bits, check_of}
use Rattle.packet.specs.Packets.{check_bytes, packet_of, nothing, wrong, good, is_length, is_check, ending, judged}
use Rattle.packet.specs.Streams.{outside, told, next, reading}

-- the packet that document 02 quotes, and the empty command
packets : Gives packet_of
    (
    (text "SAF0", 0x02 ∷ 0x08 ∷ (text "SAF0" ++ (0x55 ∷ 0x43 ∷ 0x03 ∷ [])))
    ∷ ([], 0x02 ∷ 0x04 ∷ 0x00 ∷ 0x00 ∷ 0x03 ∷ [])
    ∷ []
    )
unfolding packet_of check_bytes ◌⊕◌ bit shifted after bits_of bits check_of xor
packets = refl

-- STX STX is a wrong length, and the second one begins no packet; 3 is no length, 45 neither; a byte before STX, and the empty command;
-- a wrong check, and a wrong ETX that is STX; STX as a byte of the data is that byte, and has the check 2042
streams : Gives (reading outside)
    (
    (2 ∷ 2 ∷ 4 ∷ 0 ∷ 0 ∷ 3 ∷ [], nothing ∷ wrong ∷ nothing ∷ nothing ∷ nothing ∷ nothing ∷ [])
    ∷ (2 ∷ 3 ∷ [], nothing ∷ wrong ∷ [])
    ∷ (2 ∷ 45 ∷ [], nothing ∷ wrong ∷ [])
    ∷ (65 ∷ 2 ∷ 4 ∷ 0 ∷ 0 ∷ 3 ∷ [], nothing ∷ nothing ∷ nothing ∷ nothing ∷ nothing ∷ good [] ∷ [])
    ∷ (2 ∷ 4 ∷ 0 ∷ 1 ∷ 3 ∷ [], nothing ∷ nothing ∷ nothing ∷ wrong ∷ nothing ∷ [])
    ∷ (2 ∷ 4 ∷ 0 ∷ 0 ∷ 2 ∷ 4 ∷ [], nothing ∷ nothing ∷ nothing ∷ nothing ∷ wrong ∷ nothing ∷ [])
    ∷ (2 ∷ 5 ∷ 2 ∷ 0x20 ∷ 0x42 ∷ 3 ∷ [], nothing ∷ nothing ∷ nothing ∷ nothing ∷ nothing ∷ good (2 ∷ []) ∷ [])
    ∷ []
    )
unfolding reading told next judged ending is_length is_check ◌⊕◌ bit shifted after bits_of bits check_of xor
streams = refl
