-- What the definitions of a line say together:
--     collected        whatever bytes but the return come, a line holds the first 40 of their characters, and is over-long if
--                      there are more
--     empty_sound      the empty line is sound
--     byte_sound       a sound line is sound after any byte; places_kept: it keeps its 40 places
--     asked_sendable   what a line asks for can be sent: its numbers are writable, its short data have two digits at the most
--     request_sendable, limit_short    so can a command that a text asks the pump for; a limit has three digits at the most
--     line_sendable, line_limit_short  the same of a line, over-long or not
--     asked_text       a line that is not over-long asks for what its characters ask for
-- That a name which leads a text is its name stands in Naming (name_is) and Calling (called_is), that what is printed reads back
-- in ReadBack.
-- Assumes nothing.
use Rattle.std.specs.Prelude.{if◌then◌else◌}
use Prim.Native.Nat.{ℕ, ◌+◌, ◌-◌, ◌≤◌, ◌<◌, min}
use mathlib.Core.Path.{◌≡◌, refl, sym, ap, subst, ◌∙◌}
use mathlib.Core.Bool.{Bool, true, false, ◌&&◌, ◌||◌, not}
use mathlib.Core.List.{List, [], ◌∷◌, ◌++◌, append_assoc, append-nil}
use native.Mathlib.Numerals.{add-one}
use native.Mathlib.Omega.{arith}
use lib.Dec.{leb, ltb}
use lib.ListN.{length, take, set, length-append, length-set}
use lib.Seq.{take_all, take-append-le, take-suc-set}
use borrow.Author.Tests.{lt-ltb, le-ltb, ltb-true, ltb-false, le-leb, leb-true}
use Rattle.base.proofs.Choices.{and_left, and_right}
use Rattle.line.specs.Characters.{is_return, is_dropped, is_lower, raised, arrival_of, can_stand}
use Rattle.line.specs.Lines.{empty_line, with_character, after_arrival, after_byte, line_text}
use Rattle.line.specs.Lines.{all_stand, is_sound_line, address_in, command_in, kept, over_long}
use Rattle.line.specs.Addresses.{unaddressed}
use Rattle.line.specs.Collected.{collect, characters, Holds}
use Rattle.line.specs.Commands.{command_of}
use Rattle.line.specs.Requests.{request_of, asked_of, asked_in}
use Rattle.line.specs.Sendable.{Sendable}
use Rattle.line.specs.declared.arriving.Arrival.{Arrival}
use Rattle.line.specs.declared.arriving.Arrival.TheVariants.{End, Dropped, Kept}
use Rattle.line.specs.declared.lines.Line.{Line}
use Rattle.words.specs.declared.commands.Command.{Command}
use Rattle.words.specs.declared.commands.Command.TheVariants as c
use Rattle.words.specs.declared.commands.Request.TheVariants.{SetLimit, Pump}
use Rattle.line.proofs.Characters.{not_dropped, below_lower}
use Rattle.line.proofs.Sent.{malformed, command_sendable}
use Rattle.line.proofs.Requesting.{Holdable, request_holdable, asked_holdable}

-- ---- collecting
-- what a line under way keeps to, with the characters so far
record Under (l : Line) (cs : List ℕ) : Type 0 where
  places : length l.bytes ≡ 40
  count : l.len ≡ min 40 (length cs)
  kept : line_text l ≡ take 40 cs
  more : l.overlong ≡ ltb 40 (length cs)

none_yet : Under empty_line []
none_yet = record { places = refl; count = refl; kept = refl; more = refl }

module _ (l : Line) (cs : List ℕ) (c : ℕ) (u : Under l cs) where
  longer : length (cs ++ (c ∷ [])) ≡ length cs + 1
  longer = length-append cs (c ∷ [])

  room : length cs < 40 → Under (with_character l c) (cs ++ (c ∷ []))
  unfolding with_character
  room h =
      let n : l.len ≡ length cs = omega (arith, u.count) in
      let fits : l.len < length l.bytes = omega (arith, u.places) in
      let all : take 40 cs ≡ cs = take_all 40 cs (omega arith) in
      let both : take 40 (cs ++ (c ∷ [])) ≡ cs ++ (c ∷ []) = take_all 40 (cs ++ (c ∷ [])) (omega (arith, longer)) in
      simp (lt-ltb l.len 40 (omega arith))
      (record {
        places = length-set l.bytes l.len c ∙ u.places;
        count = omega (arith, longer);
        kept =
            ap (λ (k : ℕ). take k (set l.bytes l.len c)) (add-one l.len)
            ∙ take-suc-set l.bytes l.len c fits
            ∙ ap (λ (t : List ℕ). t ++ (c ∷ [])) (u.kept ∙ all)
            ∙ sym both;
        more = u.more ∙ le-ltb 40 (length cs) (omega arith) ∙ sym (le-ltb 40 (length (cs ++ (c ∷ []))) (omega (arith, longer)));
      })

  full : 40 ≤ length cs → Under (with_character l c) (cs ++ (c ∷ []))
  unfolding with_character
  full h =
      simp (le-ltb l.len 40 (omega (arith, u.count)))
      (record {
        places = u.places;
        count = omega (arith, u.count, longer);
        kept = u.kept ∙ sym (take-append-le 40 cs (c ∷ []) h);
        more = sym (lt-ltb 40 (length (cs ++ (c ∷ []))) (omega (arith, longer)));
      })

  one_more : Under (with_character l c) (cs ++ (c ∷ []))
  one_more = go (ltb (length cs) 40) refl
    where
      go : (t : Bool) → ltb (length cs) 40 ≡ t → Under (with_character l c) (cs ++ (c ∷ []))
      go true e = room (ltb-true (length cs) 40 e)
      go false e = full (ltb-false (length cs) 40 e)

-- one byte more: a character, or none
after_byte_lem :
    (l : Line) (cs : List ℕ) (b : ℕ)
    → Under l cs
    → Under (after_byte l b).line (cs ++ (if is_return b || is_dropped b then [] else raised b ∷ []))
unfolding after_byte arrival_of
after_byte_lem l cs b u = go (is_return b) (is_dropped b)
  where
    go :
        (r d : Bool)
        → Under (after_arrival l (if r then End else if d then Dropped else Kept (raised b))).line
        (cs ++ (if r || d then [] else raised b ∷ []))
    go true d = rw append-nil u
    go false true = rw append-nil u
    go false false = one_more l cs (raised b) u

characters_cons : (b : ℕ) (bs : List ℕ) → (if is_return b || is_dropped b then [] else raised b ∷ []) ++ characters bs ≡ characters (b ∷ bs)
unfolding characters
characters_cons b bs = go (is_return b || is_dropped b)
  where
    go : (t : Bool) → (if t then [] else raised b ∷ []) ++ characters bs ≡ (if t then characters bs else raised b ∷ characters bs)
    go true = refl
    go false = refl

collecting : (l : Line) (cs bs : List ℕ) → Under l cs → Under (collect l bs) (cs ++ characters bs)
unfolding collect characters
collecting l cs [] u = rw append-nil u
collecting l cs (b ∷ bs) u =
    let more = if is_return b || is_dropped b then [] else raised b ∷ [] in
    subst (λ (t : List ℕ). Under (collect (after_byte l b).line bs) t)
    (append_assoc cs more (characters bs) ∙ ap (λ (t : List ℕ). cs ++ t) (characters_cons b bs))
    (collecting (after_byte l b).line (cs ++ more) bs (after_byte_lem l cs b u))

pub collected : (bs : List ℕ) → Holds (collect empty_line bs) (characters bs)
collected bs = let u = collecting empty_line [] bs none_yet in record { kept = u.kept; more = u.more }

-- ---- soundness
pub empty_sound : is_sound_line empty_line ≡ true
unfolding is_sound_line all_stand
empty_sound = refl

-- a letter that was raised is neither dropped nor raised again
module _ (b : ℕ) (e : is_lower b ≡ true) where
  letter_bounds : (97 ≤ b) × (b ≤ 122)
  unfolding is_lower
  letter_bounds = (leb-true 97 b (and_left (leb 97 b) (leb b 122) e), leb-true b 122 (and_right (leb 97 b) (leb b 122) e))

  upper_kept : is_dropped (b - 32) ≡ false
  upper_kept = not_dropped (b - 32) (omega (arith, letter_bounds.0)) (λ z. omega (arith, letter_bounds.0, letter_bounds.1))

  upper_not_lower : is_lower (b - 32) ≡ false
  upper_not_lower = below_lower (b - 32) (omega (arith, letter_bounds.0, letter_bounds.1))

-- what a byte becomes can stand in a line
raised_stands : (b : ℕ) → is_dropped b ≡ false → can_stand (raised b) ≡ true
unfolding can_stand raised
raised_stands b d = go (is_lower b) refl
  where
    go : (t : Bool) → is_lower b ≡ t → (not (is_dropped (if t then b - 32 else b)) && not (is_lower (if t then b - 32 else b))) ≡ true
    go true e = simp (upper_kept b e, upper_not_lower b e)
    go false e = simp (d, e)

all_more : (s : List ℕ) (c : ℕ) → all_stand s ≡ true → can_stand c ≡ true → all_stand (s ++ (c ∷ [])) ≡ true
unfolding all_stand
all_more [] c p q = simp q
all_more (b ∷ s) c p q =
    let r = all_more s c (and_right (can_stand b) (all_stand s) p) q in
    simp (and_left (can_stand b) (all_stand s) p, r)

-- the three clauses of a sound line
record Sound (l : Line) : Type 0 where
  short : l.len ≤ 40
  over : (not l.overlong || leb 40 l.len) ≡ true
  stand : all_stand (line_text l) ≡ true

sound_facts : (l : Line) → is_sound_line l ≡ true → Sound l
unfolding is_sound_line
sound_facts l e =
    let p = and_left (leb l.len 40 && (not l.overlong || leb 40 l.len)) (all_stand (line_text l)) e in
    record {
      short = leb-true l.len 40 (and_left (leb l.len 40) (not l.overlong || leb 40 l.len) p);
      over = and_right (leb l.len 40) (not l.overlong || leb 40 l.len) p;
      stand = and_right (leb l.len 40 && (not l.overlong || leb 40 l.len)) (all_stand (line_text l)) e;
    }

facts_sound : (l : Line) → Sound l → is_sound_line l ≡ true
unfolding is_sound_line
facts_sound l s = simp (le-leb l.len 40 s.short, s.over, s.stand)

-- a line that is not full is not over-long
not_over : (t : Bool) (n : ℕ) → (not t || leb 40 n) ≡ true → n < 40 → t ≡ false
not_over true n e h = let z : 40 ≤ n = leb-true 40 n e in absurd (omega arith)
not_over false n e h = refl

character_sound : (l : Line) (c : ℕ) → length l.bytes ≡ 40 → can_stand c ≡ true → Sound l → Sound (with_character l c)
unfolding with_character
character_sound l c p q s = go (ltb l.len 40) refl
  where
    go : (t : Bool) → ltb l.len 40 ≡ t → Sound (if t then kept l c else over_long l)
    go true e =
        let h : l.len < 40 = ltb-true l.len 40 e in
        let k : l.len < length l.bytes = omega arith in
        record {
          short = omega arith;
          over = simp (not_over l.overlong l.len s.over h);
          stand =
              ap (λ (n : ℕ). all_stand (take n (set l.bytes l.len c))) (add-one l.len)
              ∙ ap all_stand (take-suc-set l.bytes l.len c k)
              ∙ all_more (line_text l) c s.stand q;
        }
    go false e =
        record { short = s.short; over = le-leb 40 l.len (ltb-false l.len 40 e); stand = s.stand }

pub byte_sound : (l : Line) (b : ℕ) → length l.bytes ≡ 40 → is_sound_line l ≡ true → is_sound_line (after_byte l b).line ≡ true
unfolding after_byte arrival_of
byte_sound l b p e = go (is_return b) (is_dropped b) refl
  where
    go :
        (r d : Bool)
        → is_dropped b ≡ d
        → is_sound_line (after_arrival l (if r then End else if d then Dropped else Kept (raised b))).line ≡ true
    go true d k = e
    go false true k = e
    go false false k =
        facts_sound (with_character l (raised b)) (character_sound l (raised b) p (raised_stands b k) (sound_facts l e))

pub places_kept : (l : Line) (b : ℕ) → length l.bytes ≡ 40 → length (after_byte l b).line.bytes ≡ 40
unfolding after_byte with_character
places_kept l b p = go (arrival_of b)
  where
    pick : (t : Bool) (c : ℕ) → length (if t then kept l c else over_long l).bytes ≡ 40
    pick true c = length-set l.bytes l.len c ∙ p
    pick false c = p

    go : (a : Arrival) → length (after_arrival l a).line.bytes ≡ 40
    go End = p
    go Dropped = p
    go (Kept c) = pick (ltb l.len 40) c

-- ---- what a line asks for
pub asked_sendable : (l : Line) → Sendable (command_in l)
unfolding command_in
asked_sendable l = go l.overlong
  where
    go : (t : Bool) → Sendable (if t then c.Malformed else command_of (unaddressed (line_text l)))
    go true = malformed
    go false = command_sendable (unaddressed (line_text l))

-- ---- what a text asks for, of the pump or of the link   (02, 2/12)
module _ (s : List ℕ) where
  pub request_sendable : (command : Command) → request_of s ≡ Pump command → Sendable command
  request_sendable command e = subst Holdable e (request_holdable s)

  pub limit_short : (n : ℕ) → request_of s ≡ SetLimit n → n ≤ 999
  limit_short n e = subst Holdable e (request_holdable s)

module _ (l : Line) where
  pub line_sendable : (command : Command) → (asked_in l).request ≡ Pump command → Sendable command
  line_sendable command e = subst Holdable e (asked_holdable l)

  pub line_limit_short : (n : ℕ) → (asked_in l).request ≡ SetLimit n → n ≤ 999
  line_limit_short n e = subst Holdable e (asked_holdable l)

  pub asked_text : l.overlong ≡ false → asked_in l ≡ asked_of (line_text l)
  unfolding asked_in asked_of address_in
  asked_text o = simp o
