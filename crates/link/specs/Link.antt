-- The mode: Basic, where lines are taken, or Safe, where packets are, with a time limit, its timer and the packet under way. What one
-- byte and one tick make of it, and which links are sound.   (02, 2/12)
use Rattle.std.specs.Prelude.{ℕ, zero, suc, ◌-◌, ◌*◌, Bool, true, false, ◌&&◌, List, leb, eqb, replicate, if◌then◌else◌, Option, None, Some}
use Rattle.packet.specs.Receiver.{outside_receiver, after_byte, tick, sound_receiver}
use Rattle.packet.specs.declared.receiver.Part.{Part}
use Rattle.packet.specs.declared.receiver.Receiver.{Receiver}
use Rattle.packet.specs.declared.receiver.Outcome.{Outcome}
use Rattle.packet.specs.declared.receiver.Outcome.TheVariants.{Nothing, Wrong, Good}
use Rattle.packet.specs.declared.receiver.Arrived.{Arrived}
use Rattle.link.specs.declared.Safety.{Safety}
use Rattle.link.specs.declared.Link.{Link}
use Rattle.link.specs.declared.Taken.{Taken}

-- ---- the two modes
-- the receiver that the bytes beside the mode and the part packet in it are
abbrev pub receiver_of : List ℕ → Option Part → Receiver
receiver_of bytes part = record { bytes = bytes; part = part }

-- Safe mode with a time limit of n seconds
abbrev pub safe_link : ℕ → Option ℕ → Receiver → Link
safe_link n timer r = record { bytes = r.bytes; safety = Some (record { limit = n; timer = timer; part = r.part }) }

-- a fresh pump's, and what *RESET leaves: "0 and *RESET return to Basic"
abbrev pub basic_link : Link
basic_link = record { bytes = replicate 40 0; safety = None }

-- the whole limit: n seconds of 1,000 ticks
abbrev pub whole_limit : ℕ → Option ℕ
whole_limit n = Some (1000 * n)

-- "`SAF n` sets a time limit in seconds": counted from there on, outside a packet
unfoldable pub limited_to : ℕ → Link
limited_to n = if eqb n 0 then basic_link else safe_link n (whole_limit n) outside_receiver

-- the same link, its data read
abbrev pub cleared_link : Link → Link
cleared_link l = record { bytes = replicate 40 0; safety = l.safety }

-- ---- what can be asked
abbrev pub safe_in : Option Safety → Bool
safe_in None = false
safe_in (Some s) = true

unfoldable pub is_safe : Link → Bool
is_safe l = safe_in l.safety

-- the query's figure: 0 in Basic mode
abbrev pub limit_in : Option Safety → ℕ
limit_in None = 0
limit_in (Some s) = s.limit

unfoldable pub limit_of : Link → ℕ
limit_of l = limit_in l.safety

-- how many ticks there are until alarm T, its own among them; 0 where no timer runs
abbrev pub timer_left : Option ℕ → ℕ
timer_left None = 0
timer_left (Some t) = t

abbrev pub left_in : Option Safety → ℕ
left_in None = 0
left_in (Some s) = timer_left s.timer

unfoldable pub ticks_left : Link → ℕ
ticks_left l = left_in l.safety

-- the next tick raises alarm T
unfoldable pub fires : Link → Bool
fires l = eqb (ticks_left l) 1

-- ---- one byte
-- "When n seconds pass after `SAF n` or the last good packet (to any address)": a good packet restarts the timer, a wrong one does not
abbrev pub timer_after : Safety → Outcome → Option ℕ
timer_after s Nothing = s.timer
timer_after s Wrong = s.timer
timer_after s (Good n) = whole_limit s.limit

abbrev pub heard_by : Safety → Arrived → Taken
heard_by s a = record { link = safe_link s.limit (timer_after s a.outcome) a.receiver; outcome = a.outcome }

-- in Basic mode packets are not taken; in Safe mode each byte is the receiver's
abbrev pub after_in : Link → Option Safety → ℕ → Taken
after_in l None b = record { link = l; outcome = Nothing }
after_in l (Some s) b = heard_by s (after_byte (receiver_of l.bytes s.part) b)

unfoldable pub link_after : Link → ℕ → Taken
link_after l b = after_in l l.safety b

-- ---- ticks
-- with alarm T "the timer waits for the next good packet"
abbrev pub timer_tick : Option ℕ → Option ℕ
timer_tick None = None
timer_tick (Some t) = if leb t 1 then None else Some (t - 1)

unfoldable pub timer_ticks : ℕ → Option ℕ → Option ℕ
timer_ticks zero t = t
timer_ticks (suc n) t = timer_tick (timer_ticks n t)

-- one tick; its 500th without a byte drops a part packet, in silence
abbrev pub tick_in : Link → Option Safety → Link
tick_in l None = l
tick_in l (Some s) = safe_link s.limit (timer_tick s.timer) (tick (receiver_of l.bytes s.part))

unfoldable pub link_tick : Link → Link
link_tick l = tick_in l l.safety

-- n ticks, one after the other
unfoldable pub link_ticks : ℕ → Link → Link
link_ticks zero l = l
link_ticks (suc n) l = link_tick (link_ticks n l)

-- ---- sound: a limit of at least a second in Safe mode; the timer waits, or has 1 to 1,000 n ticks left; a sound receiver
abbrev pub is_sound_timer : ℕ → Option ℕ → Bool
is_sound_timer n None = true
is_sound_timer n (Some t) = leb 1 t && leb t (1000 * n)

abbrev pub is_sound_in : List ℕ → Option Safety → Bool
is_sound_in bytes None = true
is_sound_in bytes (Some s) = leb 1 s.limit && is_sound_timer s.limit s.timer && sound_receiver (receiver_of bytes s.part)

unfoldable pub is_sound_link : Link → Bool
is_sound_link l = is_sound_in l.bytes l.safety
