-- The packet under way, in the link and in the books: a byte and a tick lead both to the same; and what the observer reads in a packet that
-- is whole is its data.
-- Assumes nothing.
use Rattle.std.specs.Prelude.{if◌then◌else◌, Option, None, Some}
use Prim.Native.Nat.{ℕ, ◌+◌, ◌-◌, ◌<◌, ◌≤◌}
use mathlib.Core.Path.{◌≡◌, refl, sym, ap, ap₂, subst, ◌∙◌}
use mathlib.Core.Bool.{Bool, true, false, ◌&&◌, ◌||◌, or-true}
use mathlib.Core.List.{List, [], ◌∷◌, ◌++◌}
use native.Mathlib.Omega.{arith}
use lib.Dec.{leb, ltb, eqb}
use lib.ListN.{length, take, drop, length-append, length-drop}
use lib.Seq.{take_at}
use borrow.Author.Tests.{ltb-true, ltb-false, leb-true, leb-false, eq-eqb, ne_eqb}
use Rattle.base.proofs.Choices.{false_true}
use Rattle.packet.specs.Follows.{standing_in, standing, heard, Sound}
use Rattle.packet.specs.Packets.{etx, check_bytes, packet_of, Heard, nothing, wrong, good, is_length, is_check, ending, judged}
use Rattle.packet.specs.Receiver.{waiting, outside_receiver, tick_in, tick, after_byte}
use Rattle.packet.specs.Streams as streams
use Rattle.packet.specs.Streams.{Standing, goes_on, told, next}
use Rattle.packet.specs.Timed.{Fresh}
use Rattle.packet.specs.declared.receiver.Part.{Part}
use Rattle.packet.specs.declared.receiver.Receiver.{Receiver}
use Rattle.packet.proofs.Following.{byte_right}
use Rattle.packet.proofs.Judging.{range_of, good_packet_only}
use Rattle.packet.proofs.Waiting.{byte_fresh}
use Rattle.link.specs.Link.{receiver_of, limited_to, link_after, link_tick}
use Rattle.link.specs.declared.Link.{Link}
use Rattle.link.specs.declared.Safety.{Safety}
use Rattle.link.specs.declared.Taken.{Taken}
use Rattle.link.proofs.Modes.{basic_tick, safe_tick, safe_after}
use Rattle.soundness.proofs.Runs.{by_test}
use Rattle.condition3.specs.Books.{Packet, outside, inside, has_all, packet_by, packet_data}
use Rattle.condition3.specs.Stored.{SamePlace, place_in, SamePacket}

-- ---- where there is none
pub none_booked : (bytes : List ℕ) (packet : Packet) (q : ℕ) → SamePlace bytes None packet q → packet ≡ outside
none_booked bytes outside q h = refl
none_booked bytes (inside s) q h = absurd h

pub none_there : (l : Link) (q : ℕ) → place_in l.safety ≡ None → SamePacket l outside q
none_there l q e = subst (λ (x : Option Part). SamePlace l.bytes x outside q) (sym e) tt

pub limited_outside : (n : ℕ) → place_in (limited_to n).safety ≡ None
unfolding limited_to
limited_outside n = by_test (λ (l : Link). place_in l.safety ≡ None) (eqb n 0) (λ _. refl) (λ _. refl)

-- ---- ticks
tick_place :
    (bytes : List ℕ) (place : Option Part) (packet : Packet) (q : ℕ)
    → SamePlace bytes place packet q
    → SamePlace (tick_in (receiver_of bytes place) place).bytes (tick_in (receiver_of bytes place) place).part
    (if leb 500 (q + 1) then outside else packet) (q + 1)
tick_place bytes None outside q h =
    by_test (λ (x : Packet). SamePlace bytes None x (q + 1)) (leb 500 (q + 1)) (λ _. tt) (λ _. tt)
tick_place bytes None (inside s) q h = absurd h
tick_place bytes (Some part) outside q h = absurd h
tick_place bytes (Some part) (inside s) q h = go (ltb (part.quiet + 1) 500) (leb 500 (q + 1)) refl refl
  where
    Leaves : Bool → Receiver
    Leaves t = if t then waiting bytes part.stage (part.quiet + 1) else outside_receiver

    go :
        (t u : Bool)
        → ltb (part.quiet + 1) 500 ≡ t
        → leb 500 (q + 1) ≡ u
        → SamePlace (Leaves t).bytes (Leaves t).part (if u then outside else inside s) (q + 1)
    go true true e f =
        let a : part.quiet + 1 < 500 = ltb-true (part.quiet + 1) 500 e in
        let c : 500 ≤ q + 1 = leb-true 500 (q + 1) f in
        absurd (omega (arith, h.1))
    go true false e f = (h.0, ap (λ (n : ℕ). n + 1) h.1)
    go false true e f = tt
    go false false e f =
        let a : 500 ≤ part.quiet + 1 = ltb-false (part.quiet + 1) 500 e in
        let c : q + 1 < 500 = leb-false 500 (q + 1) f in
        absurd (omega (arith, h.1))

pub tick_packet :
    (l : Link) (packet : Packet) (q : ℕ)
    → SamePacket l packet q
    → SamePacket (link_tick l) (if leb 500 (q + 1) then outside else packet) (q + 1)
unfolding tick
tick_packet l packet q h = go l.safety refl h
  where
    go :
        (m : Option Safety)
        → l.safety ≡ m
        → SamePlace l.bytes (place_in m) packet q
        → SamePacket (link_tick l) (if leb 500 (q + 1) then outside else packet) (q + 1)
    go None e k =
        subst (λ (x : Link). SamePacket x (if leb 500 (q + 1) then outside else packet) (q + 1)) (sym (basic_tick l e))
        (subst (λ (m : Option Safety). SamePlace l.bytes (place_in m) (if leb 500 (q + 1) then outside else packet) (q + 1)) (sym e)
        (tick_place l.bytes None packet q k))
    go (Some s) e k =
        subst (λ (x : Link). SamePacket x (if leb 500 (q + 1) then outside else packet) (q + 1)) (sym (safe_tick l s e))
        (tick_place l.bytes s.part packet q k)

-- ---- as a stream has it
abbrev stands_as : Packet → Standing
stands_as outside = streams.outside
stands_as (inside s) = streams.behind s

abbrev is_behind : Standing → Bool
is_behind streams.outside = false
is_behind (streams.behind s) = true

abbrev bytes_in : Standing → List ℕ
bytes_in streams.outside = []
bytes_in (streams.behind s) = s

stands_as_lem :
    (bytes : List ℕ) (place : Option Part) (packet : Packet) (q : ℕ)
    → SamePlace bytes place packet q
    → standing_in bytes place ≡ stands_as packet
stands_as_lem bytes None outside q h = refl
stands_as_lem bytes None (inside s) q h = absurd h
stands_as_lem bytes (Some part) outside q h = absurd h
stands_as_lem bytes (Some part) (inside s) q h = ap streams.behind h.0

placed_as :
    (bytes : List ℕ) (place : Option Part) (packet : Packet)
    → standing_in bytes place ≡ stands_as packet
    → Fresh place
    → SamePlace bytes place packet 0
placed_as bytes None outside e f = tt
placed_as bytes None (inside s) e f = false_true (ap is_behind e)
placed_as bytes (Some part) outside e f = false_true (sym (ap is_behind e))
placed_as bytes (Some part) (inside s) e f = (ap bytes_in e, f)

-- ---- as many bytes as the first one says
abbrev is_nothing : Heard → Bool
is_nothing nothing = true
is_nothing wrong = false
is_nothing (good d) = false

three_tell : (s t : List ℕ) → length t ≡ 3 → is_nothing (ending s t) ≡ false
unfolding ending
three_tell s [] e = absurd (omega arith)
three_tell s (h ∷ []) e = absurd (omega arith)
three_tell s (h ∷ l ∷ []) e = absurd (omega arith)
three_tell s (h ∷ l ∷ x ∷ []) e = go (is_check s h l && eqb x etx)
  where
    go : (t : Bool) → is_nothing (if t then good s else wrong) ≡ false
    go true = refl
    go false = refl
three_tell s (h ∷ l ∷ x ∷ y ∷ more) e = absurd (omega arith)

whole_told : (n : ℕ) (s : List ℕ) → length (n ∷ s) ≡ n → is_nothing (judged (n ∷ s)) ≡ false
unfolding judged
whole_told n s z = go (is_length n) refl
  where
    go : (t : Bool) → is_length n ≡ t → is_nothing (if t then ending (take (n - 4) s) (drop (n - 4) s) else wrong) ≡ false
    go true e =
        let r = range_of n e in
        three_tell (take (n - 4) s) (drop (n - 4) s) (omega (arith, length-drop (n - 4) s, z))
    go false e = refl

not_all : (t : List ℕ) → judged t ≡ nothing → has_all t ≡ false
not_all [] e = refl
not_all (n ∷ s) e = ne_eqb (length (n ∷ s)) n (λ z. false_true (sym (whole_told n s z) ∙ ap is_nothing e))

-- a good one is its length, its data, its check and ETX
good_is : (t d : List ℕ) → judged t ≡ good d → t ≡ ((length d + 4) ∷ (d ++ check_bytes d)) ++ (etx ∷ [])
unfolding packet_of
good_is t d e = ap (drop 1) (good_packet_only t d e).1

all_came : (d : List ℕ) → length (((length d + 4) ∷ (d ++ check_bytes d)) ++ (etx ∷ [])) ≡ length d + 4
unfolding check_bytes
all_came d = omega (arith, length-append (d ++ check_bytes d) (etx ∷ []), length-append d (check_bytes d))

has_all_lem : (t d : List ℕ) → judged t ≡ good d → has_all t ≡ true
has_all_lem t d e = ap has_all (good_is t d e) ∙ eq-eqb _ (length d + 4) (all_came d)

pub data_read : (packet : Packet) (x : ℕ) (d : List ℕ) → told (stands_as packet) x ≡ good d → packet_data packet ≡ d
unfolding told check_bytes
data_read outside x d e = false_true (sym (ap is_nothing e))
data_read (inside s) x d e =
    let t = s ++ (x ∷ []) in
    let front = (length d + 4) ∷ (d ++ check_bytes d) in
    let is : t ≡ front ++ (etx ∷ []) = good_is t d e in
    let long : length front ≡ length d + 3 = omega (arith, length-append d (check_bytes d)) in
    let same : length s ≡ length front =
    omega (arith, ap length is, length-append s (x ∷ []), length-append front (etx ∷ [])) in
    let held : s ≡ front =
    sym (take_at s (x ∷ []) (length s) refl) ∙ ap (take (length s)) is ∙ take_at front (etx ∷ []) (length s) (sym same) in
    ap (λ (u : List ℕ). take (length u - 3) (drop 1 u)) held ∙ take_at d (check_bytes d) (length front - 3) (omega arith)

-- ---- one byte in Safe mode: it is answered where it makes the packet wrong, not where it tells nothing, and either way where it makes
-- it good
abbrev pub AnsweredBy : Heard → Bool → Type 0
AnsweredBy nothing t = t ≡ false
AnsweredBy wrong t = t ≡ true
AnsweredBy (good d) t = Unit {0}

module _ (x : ℕ) (answered : Bool) where
  led :
      (packet : Packet) (h : Heard)
      → told (stands_as packet) x ≡ h
      → AnsweredBy h answered
      → next (stands_as packet) x ≡ stands_as (packet_by packet answered x)
  unfolding next told
  led outside h e a = go (eqb x 2)
    where
      go : (t : Bool) → (if t then streams.behind [] else streams.outside) ≡ stands_as (if t then inside [] else outside)
      go true = refl
      go false = refl
  led (inside s) nothing e a =
      ap (goes_on (s ++ x ∷ [])) e
      ∙ sym (ap₂ (λ (t u : Bool). stands_as (if t || u then outside else inside (s ++ x ∷ []))) a (not_all (s ++ x ∷ []) e))
  led (inside s) wrong e a =
      ap (goes_on (s ++ x ∷ [])) e
      ∙ sym (ap (λ (t : Bool). stands_as (if t || has_all (s ++ x ∷ []) then outside else inside (s ++ x ∷ []))) a)
  led (inside s) (good d) e a =
      ap (goes_on (s ++ x ∷ [])) e
      ∙ sym (ap (λ (t : Bool). stands_as (if answered || t then outside else inside (s ++ x ∷ []))) (has_all_lem (s ++ x ∷ []) d e)
      ∙ ap (λ (t : Bool). stands_as (if t then outside else inside (s ++ x ∷ []))) (or-true answered))

  -- a good one is over
  pub good_over : (packet : Packet) (d : List ℕ) → told (stands_as packet) x ≡ good d → packet_by packet answered x ≡ outside
  unfolding told
  good_over outside d e = false_true (sym (ap is_nothing e))
  good_over (inside s) d e =
      ap (λ (t : Bool). if answered || t then outside else inside (s ++ x ∷ [])) (has_all_lem (s ++ x ∷ []) d e)
      ∙ ap (λ (t : Bool). if t then outside else inside (s ++ x ∷ [])) (or-true answered)

-- ---- of the link
module _ (l : Link) (s : Safety) (is : l.safety ≡ Some s) (sound : Sound (receiver_of l.bytes s.part)) (packet : Packet) (q : ℕ)
    (same : SamePacket l packet q) (x : ℕ) where
  abbrev r : Receiver
  r = receiver_of l.bytes s.part

  stands_there : standing r ≡ stands_as packet
  stands_there =
      stands_as_lem l.bytes s.part packet q (subst (λ (m : Option Safety). SamePlace l.bytes (place_in m) packet q) is same)

  pub tells : heard (after_byte r x) ≡ told (stands_as packet) x
  tells = (byte_right r x sound).tells ∙ ap (λ (p : Standing). told p x) stands_there

  pub byte_packet :
      (answered : Bool)
      → AnsweredBy (heard (after_byte r x)) answered
      → SamePacket (link_after l x).link (packet_by packet answered x) 0
  byte_packet answered a =
      let to = (after_byte r x).receiver in
      subst (λ (k : Taken). SamePacket k.link (packet_by packet answered x) 0) (sym (safe_after l s x is))
      (placed_as to.bytes to.part (packet_by packet answered x)
      ((byte_right r x sound).leads ∙ ap (λ (p : Standing). next p x) stands_there
      ∙ led x answered packet (heard (after_byte r x)) (sym tells) a)
      (byte_fresh r x))

  pub read_data : (d : List ℕ) → heard (after_byte r x) ≡ good d → packet_data packet ≡ d
  read_data d e = data_read packet x d (sym tells ∙ e)

  pub over_good : (answered : Bool) (d : List ℕ) → heard (after_byte r x) ≡ good d → packet_by packet answered x ≡ outside
  over_good answered d e = good_over x answered packet d (sym tells ∙ e)
