-- Condition 3 of the observer's books (specs/Books.antt): what is claimed of each event with the books before it, of visits and loops,
-- and the record, a field for each sentence. The theorem is condition3 (proofs/Theorem.antt), tick by tick, for a pump of 1 to 99 phases.
use Rattle.std.specs.Prelude.{if◌then◌else◌, ℕ, ◌+◌, ◌*◌, ◌≤◌, ◌<◌, ◌≡◌, true, false, leb, List, [], ◌∷◌, reverse, length, get_or}
use Rattle.condition3.specs.Terms.{Direction, Infuse, Withdraw, datum, text, is_text, Loop, Pump, loops_of, Event, Every}
use Rattle.condition3.specs.Books.{Visit, View, view_of, kind_of, moves, later, stops, told, of_way, stored_in, is_usable_at, is_whole}
use Rattle.condition3.specs.Books.{still_open, newest_loop, is_last, Books, visiting, Deed, other, enters, works, deed, doing_by, ruled_by}
use Rattle.condition3.specs.Books.{is_full, all_visits, asked, timed_out, blank, noted, books}

-- what holds of every event, with the books as they were before it
abbrev pub Throughout : (Books → Event → Type 0) → Books → List Event → Type 0
Throughout P b [] = Unit {0}
Throughout P b (e ∷ es) = P b e × Throughout P (noted b e) es

-- ---- in one direction: the total is the volume of the steps told since it was cleared, and these are the steps that the rules give
pub record Dispensed (d : Direction) (p : Pump) (es : List Event) : Type 0 where
  pub total : of_way d p.device.core.ledger.totals.infused p.device.core.ledger.totals.withdrawn ≡ (books blank es).given d
  pub ruled : Throughout (λ b e. told d e ≡ ruled_by d (b.given d) (deed b e)) blank es

-- ---- no more steps than fit in the volume; and if it ended of itself, one more would not fit
pub record Fits (w : Visit) : Type 0 where
  pub at_most : 0 < w.volume → w.steps * w.v ≤ w.volume
  pub exact : is_whole (visiting w) ≡ true → w.volume < (w.steps + 1) * w.v

-- ---- a visit's phase is the running one, and pumps; in the visit's direction, but for a continuous one
pub record In (w : Visit) (x : View) : Type 0 where
  pub runs : moves x ≡ true
  pub its_phase : x.running ≡ w.phase
  pub pumps : kind_of x ≤ 2
  pub its_direction : 0 < w.volume → x.phase.direction ≡ w.direction

-- ---- a phase is entered: RAT makes a usable rate current; LPS stops the pump where three loops stay open; LOP and LPE go by the newest
pub record Entry (e : Event) (x : View) (ls : List Loop) : Type 0 where
  pub rat : kind_of x ≡ 0 → is_usable_at x.diameter (stored_in x.phase) ≡ true → (stops e ≡ false) × ((later e).rate ≡ stored_in x.phase)
  pub lps : kind_of x ≡ 6 → stops e ≡ leb 3 (length (still_open x.running ls ls))
  pub lop : kind_of x ≡ 5 → (later e).running ≡ (if is_last (datum x.phase.function) ls then x.running else (newest_loop ls).begun) + 1
  pub lpe : kind_of x ≡ 7 → (later e).running ≡ (newest_loop ls).begun + 1

-- a visit is worked in its phase, and is there later unless whole, or the total full; in I and W no byte or pin but *RESET stops the pump.
-- Alarm T stops it in any tick, once that has done its work: of what is entered and what is there later nothing is said then
abbrev pub Goes : Books → Event → Deed → Type 0
Goes b e other = moves (view_of e.before) ≡ true → stops e ≡ true → is_text (text "*RESET") (asked b e) ≡ true
Goes b e (enters x) = timed_out e ≡ false → Entry e x b.loops
Goes b e (works w x) =
    In w x
    × (timed_out e ≡ false
    → is_whole (doing_by b.doing e (works w x)) ≡ false
    → is_full (b.given x.phase.direction) w x.rate ≡ false
    → In w (later e))

-- the loops that are stored are those of the books, at most three, no two begun by the same phase
pub record ThreeLoops (stored ls : List Loop) : Type 0 where
  pub booked : stored ≡ reverse ls
  pub three : length stored ≤ 3
  pub different : (i j : ℕ) → i < j → j < length stored → (get_or stored i (newest_loop [])).begun ≡ (get_or stored j (newest_loop [])).begun → ⊥

pub record Condition3 (p : Pump) (es : List Event) : Type 0 where
  -- each total equals the volume of the steps actually given since it was last cleared, each at the step volume then in force
  pub given : (d : Direction) → Dispensed d p es
  -- no visit gives more steps than fit in its volume, and one that ends of itself gives exactly that many
  pub visits_fit : Every Fits (all_visits (books blank es).doing (books blank es).past)
  pub none_silent : Throughout (λ b e. Goes b e (deed b e)) blank es
  -- never more than three loops, no two begun by the same phase
  pub three_loops : ThreeLoops (loops_of p) (books blank es).loops
  -- no tick gives more than four steps
  pub four_steps : Every (λ (e : Event). told Infuse e + told Withdraw e ≤ 4) es
