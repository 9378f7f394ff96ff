-- What the pump stores of the program under way, and no query shows, is what the observer has in his books: the visit's time store, its
-- target and its count of steps, the open loops, the trap, pin 4, the line, the packet under way, the totals. That it is so after any
-- calls is a theorem (proofs/Theorem.antt, stored_as_booked), with which condition 3 is proved.
use Rattle.std.specs.Prelude.{ℕ, ◌/◌, ◌<◌, ◌≡◌, List, reverse, is_some, Bool, true, false, Option, None, Some}
use Rattle.drive.specs.declared.directions.Direction.{Direction}
use Rattle.dispense.specs.Ledgers.{total_of}
use Rattle.dispense.specs.declared.visits.Visit as stored
use Rattle.program.specs.declared.state.Work.{Work}
use Rattle.program.specs.declared.state.Work.TheVariants.{Entering, Visiting, Pausing, Waiting}
use Rattle.packet.specs.Follows.{came}
use Rattle.packet.specs.declared.receiver.Part.{Part}
use Rattle.link.specs.declared.Safety.{Safety}
use Rattle.link.specs.declared.Link.{Link}
use Rattle.line.specs.Collected.{characters, Holds}
use Rattle.pump.specs.Holder.{here_of}
use Rattle.pump.specs.declared.holder.Pump.{Pump}
use Rattle.statement.specs.Facts.{core_of, run_of, under_way, loops_of}
use Rattle.condition3.specs.Books.{Books, Visit, Doing, nothing, visiting, Packet, outside, inside, step_at, volume_at}

-- a visit: its phase is the current one, of its volume and, but for a continuous one, its direction, at its step volume; a continuous visit
-- counts no steps
pub record SameVisit (p : Pump) (v : stored.Visit) (w : Visit) : Type 0 where
  pub phase : w.phase ≡ (run_of p).place.current
  pub volume : w.volume ≡ volume_at (core_of p).syringe.diameter (here_of p).volume
  pub step : w.v ≡ step_at (core_of p).syringe.diameter
  pub direction : 0 < w.volume → (here_of p).direction ≡ w.direction
  pub store : v.store ≡ w.store
  pub target : v.target ≡ w.volume / w.v
  pub count : 0 < w.volume → v.given ≡ w.steps

-- a visit is under way in both, or in neither
abbrev pub SameWork : Pump → Work → Doing → Type 0
SameWork p Entering nothing = Unit {0}
SameWork p Entering (visiting w) = ⊥
SameWork p (Visiting v) nothing = ⊥
SameWork p (Visiting v) (visiting w) = SameVisit p v w
SameWork p (Pausing left) nothing = Unit {0}
SameWork p (Pausing left) (visiting w) = ⊥
SameWork p Waiting nothing = Unit {0}
SameWork p Waiting (visiting w) = ⊥

-- a packet is under way in both, with the same bytes since STX and the same ticks since the last byte, or in neither; in Basic mode in
-- neither   (02, 2/12)
abbrev pub SamePlace : List ℕ → Option Part → Packet → ℕ → Type 0
SamePlace bytes None outside quiet = Unit {0}
SamePlace bytes None (inside s) quiet = ⊥
SamePlace bytes (Some part) outside quiet = ⊥
SamePlace bytes (Some part) (inside s) quiet = (came bytes part.stage ≡ s) × (part.quiet ≡ quiet)

abbrev pub place_in : Option Safety → Option Part
place_in None = None
place_in (Some s) = s.part

abbrev pub SamePacket : Link → Packet → ℕ → Type 0
SamePacket l packet quiet = SamePlace l.bytes (place_in l.safety) packet quiet

pub record Stored (p : Pump) (b : Books) : Type 0 where
  pub work : SameWork p (under_way p) b.doing
  pub loops : loops_of p ≡ reverse b.loops
  pub trap : is_some (run_of p).trap ≡ b.trap
  pub four : (core_of p).pins.four ≡ b.four
  -- the line holds the first 40 of the characters since the last return, and is over-long where there are more   (01, Line and answer)
  pub line : Holds p.device.line (characters b.line)
  pub packet : SamePacket p.device.link b.packet b.quiet
  pub totals : (d : Direction) → total_of (core_of p).ledger d ≡ b.given d
