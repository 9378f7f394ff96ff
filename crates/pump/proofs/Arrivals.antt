-- A byte that arrives: in Basic mode it goes to the line, in Safe mode to the packet under way; and what it brought is heard.
-- Assumes nothing.
use Prim.Native.Nat.{ℕ, ◌≤◌}
use mathlib.Core.Path.{◌≡◌, refl, sym, ap, ◌∙◌, subst}
use mathlib.Core.Bool.{Bool, true, false}
use native.Mathlib.Omega.{arith}
use lib.ListN.{take}
use Rattle.words.specs.declared.answers.Reply.TheVariants.{Garbled}
use Rattle.words.specs.declared.answers.Said.{Said}
use Rattle.words.specs.declared.answers.Said.TheVariants as s
use Rattle.words.specs.declared.commands.Asked.{Asked}
use Rattle.words.specs.declared.phases.Phase.{Phase}
use Rattle.line.specs.Lines.{empty_line, after_byte}
use Rattle.line.specs.Requests.{asked_in, asked_of}
use Rattle.line.specs.declared.lines.Arrived.{Arrived}
use Rattle.line.specs.declared.lines.Line.{Line}
use Rattle.packet.specs.declared.receiver.Outcome.{Outcome}
use Rattle.packet.specs.declared.receiver.Outcome.TheVariants as o
use Rattle.link.specs.Link.{is_safe, is_sound_link, link_after, cleared_link}
use Rattle.link.specs.declared.Link.{Link}
use Rattle.link.specs.declared.Taken.{Taken}
use Rattle.link.proofs.Theorems.{good_few}
use Rattle.pump.specs.Arriving.{arrival, line_arrival, packet_arrival, data_in}
use Rattle.pump.specs.Calls.{after_text, told_of}
use Rattle.pump.specs.Device.{with_line, with_link, said}
use Rattle.pump.specs.Holder.{here_of}
use Rattle.pump.specs.declared.arriving.Arrival.{Arrival}
use Rattle.pump.specs.declared.arriving.Brought.{Brought}
use Rattle.pump.specs.declared.arriving.Brought.TheVariants.{Nothing, Wrong, Text}
use Rattle.pump.specs.declared.calls.Listened.{Listened}
use Rattle.pump.specs.declared.device.Device.{Device}
use Rattle.pump.specs.declared.device.Told.TheVariants as answer
use Rattle.pump.specs.declared.holder.Pump.{Pump}

-- ---- a byte by the mode in which it comes
module _ (v : Device) (b : ℕ) (t : Bool) (is : t ≡ is_safe v.link) where
  pub by_packet :
      (k : Taken) (r : Arrival) → t ≡ true → k ≡ link_after v.link b → r ≡ packet_arrival v k.link k.outcome → r ≡ arrival v b
  unfolding arrival
  by_packet k r safe e q = q ∙ ap (λ (x : Taken). packet_arrival v x.link x.outcome) e ∙ sym (simp (sym is ∙ safe))

  module _ (a : Arrived) (basic : t ≡ false) (k : a ≡ after_byte v.line b) where
    by_line : (r : Arrival) → r ≡ line_arrival v a → r ≡ arrival v b
    unfolding arrival
    by_line r q = q ∙ ap (line_arrival v) k ∙ sym (simp (sym is ∙ basic))

    pub line_goes_on : a.ended ≡ false → record { device = with_line v a.line; brought = Nothing } ≡ arrival v b
    line_goes_on e = by_line _ (sym (simp e))

    pub line_ends :
        (empty : Line) (asked : Asked)
        → a.ended ≡ true
        → empty ≡ empty_line
        → asked ≡ asked_in a.line
        → record { device = with_line v empty; brought = Text asked } ≡ arrival v b
    line_ends empty asked e n h =
        by_line _
        (ap (λ (x : Line). record { device = with_line v x; brought = Text asked }) n
        ∙ ap (λ (x : Asked). record { device = with_line v empty_line; brought = Text x }) h
        ∙ sym (simp e))

pub ruleset arrivals = (by_packet, line_goes_on, line_ends)

-- ---- what it makes of the packet under way
module _ (v : Device) (l : Link) (x : Outcome) where
  pub brings_nothing : x ≡ o.Nothing → record { device = with_link v l; brought = Nothing } ≡ packet_arrival v l x
  brings_nothing e = ap (packet_arrival v l) (sym e)

  pub brings_wrong : x ≡ o.Wrong → record { device = with_link v l; brought = Wrong } ≡ packet_arrival v l x
  brings_wrong e = ap (packet_arrival v l) (sym e)

  pub brings_text :
      (n : ℕ) (asked : Asked) (c : Link)
      → x ≡ o.Good n
      → asked ≡ asked_of (take n l.bytes)
      → c ≡ cleared_link l
      → record { device = with_link v c; brought = Text asked } ≡ packet_arrival v l x
  brings_text n asked c e h d =
      ap (λ (y : Link). record { device = with_link v y; brought = Text asked }) d
      ∙ ap (λ (y : Asked). record { device = with_link v (cleared_link l); brought = Text y }) h
      ∙ ap (packet_arrival v l) (sym e)

pub ruleset outcomes = (brings_nothing, brings_wrong, brings_text)

-- ---- a good packet has at most 40 data
pub data_few : (l : Link) (b : ℕ) → is_sound_link l ≡ true → data_in (link_after l b).outcome ≤ 40
data_few l b h = go (link_after l b).outcome refl
  where
    go : (x : Outcome) → (link_after l b).outcome ≡ x → data_in x ≤ 40
    go o.Nothing e = omega arith
    go o.Wrong e = omega arith
    go (o.Good n) e = good_few l b n h e

pub good_data : (x : Outcome) (n : ℕ) → x ≡ o.Good n → data_in x ≤ 40 → n ≤ 40
good_data x n e h = subst (λ (y : Outcome). data_in y ≤ 40) e h

-- ---- what was brought is heard
module _ (p : Pump) (x : Brought) where
  pub told_nothing : x ≡ Nothing → record { pump = p; said = s.Nothing } ≡ told_of p x
  told_nothing e = ap (told_of p) (sym e)

  pub told_wrong :
      (here : Phase) (y : Said)
      → x ≡ Wrong
      → here ≡ here_of p
      → y ≡ said p.device (answer.Reply Garbled) here.direction
      → record { pump = p; said = y } ≡ told_of p x
  told_wrong here y e h q = rw (q, h, e)

  pub told_text : (asked : Asked) (r : Listened) → x ≡ Text asked → r ≡ after_text p asked → r ≡ told_of p x
  told_text asked r e q = q ∙ ap (told_of p) (sym e)

pub ruleset tellings = (told_nothing, told_wrong, told_text)
