-- A stream that tells of a good packet holds that packet, and its last byte is where it is told.
-- Assumes nothing.
use Rattle.std.specs.Prelude.{if◌then◌else◌}
use Prim.Native.Nat.{ℕ, ◌≤◌}
use mathlib.Core.Path.{◌≡◌, refl, sym, ap, ◌∙◌}
use mathlib.Core.Logic.{inl, inr}
use mathlib.Core.Bool.{Bool, true, false}
use mathlib.Core.List.{List, [], ◌∷◌, ◌++◌, append_assoc, append-nil}
use lib.Dec.{eqb}
use lib.ListN.{length}
use borrow.Author.Tests.{eqb-true}
use Rattle.packet.specs.Packets.{stx, packet_of, Heard, nothing, wrong, good, judged}
use Rattle.packet.specs.Streams.{Standing, outside, behind, goes_on, told, next, reading, ended, Among, HoldsPacket}
use Rattle.packet.proofs.Judging.{nothing_good, good_packet_only}

-- the bytes of the packet under way
abbrev opened : Standing → List ℕ
opened outside = []
opened (behind s) = stx ∷ s

-- one byte goes on with the packet under way, or leaves it, or begins one
left_behind : (p : Standing) (b : ℕ) → (x : List ℕ) × (opened p ++ (b ∷ []) ≡ x ++ opened (next p b))
unfolding next
left_behind outside b = go (eqb b stx) refl
  where
    go : (t : Bool) → eqb b stx ≡ t → (x : List ℕ) × ((b ∷ []) ≡ x ++ opened (if t then behind [] else outside))
    go true e = ([], ap (λ (k : ℕ). k ∷ []) (eqb-true b stx e))
    go false e = (b ∷ [], refl)
left_behind (behind s) b = go (judged (s ++ (b ∷ [])))
  where
    go : (h : Heard) → (x : List ℕ) × ((stx ∷ s) ++ (b ∷ []) ≡ x ++ opened (goes_on (s ++ (b ∷ [])) h))
    go nothing = ([], refl)
    go wrong = ((stx ∷ s) ++ (b ∷ []), sym (append-nil ((stx ∷ s) ++ (b ∷ []))))
    go (good d) = ((stx ∷ s) ++ (b ∷ []), sym (append-nil ((stx ∷ s) ++ (b ∷ []))))

told_at : (p : Standing) (b : ℕ) (d : List ℕ) → told p b ≡ good d → (length d ≤ 40) × (opened p ++ (b ∷ []) ≡ packet_of d)
unfolding told
told_at outside b d e = nothing_good e
told_at (behind s) b d e = good_packet_only (s ++ (b ∷ [])) d e

-- told at the last byte of some: they end with the packet
ends_with : (bs : List ℕ) (p : Standing) (b : ℕ) (d : List ℕ) → told (ended p bs) b ≡ good d
    → (x : List ℕ) × ((length d ≤ 40) × (opened p ++ bs ++ (b ∷ []) ≡ x ++ packet_of d))
unfolding ended
ends_with [] p b d e =
    let w = told_at p b d e in
    ([], (w.0, ap (λ (u : List ℕ). u ++ (b ∷ [])) (append-nil (opened p)) ∙ w.1))
ends_with (a ∷ bs) p b d e =
    let v = left_behind p a in
    let w = ends_with bs (next p a) b d e in (
      v.0 ++ w.0,
      (
        w.1.0,
        ap (λ (u : List ℕ). u ++ (b ∷ []))
            (sym (append_assoc (opened p) (a ∷ []) bs) ∙ ap (λ (u : List ℕ). u ++ bs) v.1 ∙ append_assoc v.0 (opened (next p a)) bs)
            ∙ append_assoc v.0 (opened (next p a) ++ bs) (b ∷ [])
            ∙ ap (λ (u : List ℕ). v.0 ++ u) w.1.1
            ∙ sym (append_assoc v.0 w.0 (packet_of d)),
      ),
    )

pub told_at_end : (bs : List ℕ) (b : ℕ) (d : List ℕ) → told (ended outside bs) b ≡ good d
    → (x : List ℕ) × ((length d ≤ 40) × (bs ++ (b ∷ []) ≡ x ++ packet_of d))
told_at_end bs b d e = ends_with bs outside b d e

-- told anywhere
held_from : (bs : List ℕ) (p : Standing) (d : List ℕ) → Among (good d) (reading p bs) → HoldsPacket (opened p ++ bs) d
unfolding reading
held_from [] p d h = absurd h
held_from (b ∷ bs) p d (inl e) =
    let w = told_at p b d e in
    record {
      before = [];
      rest = bs;
      whole = sym (append_assoc (opened p) (b ∷ []) bs) ∙ ap (λ (u : List ℕ). u ++ bs) w.1;
      few = w.0;
    }
held_from (b ∷ bs) p d (inr h) =
    let v = left_behind p b in
    let w = held_from bs (next p b) d h in
    record {
      before = v.0 ++ w.before;
      rest = w.rest;
      whole =
          sym (append_assoc (opened p) (b ∷ []) bs)
          ∙ ap (λ (u : List ℕ). u ++ bs) v.1
          ∙ append_assoc v.0 (opened (next p b)) bs
          ∙ ap (λ (u : List ℕ). v.0 ++ u) w.whole
          ∙ sym (append_assoc v.0 (w.before ++ packet_of d) w.rest)
          ∙ ap (λ (u : List ℕ). u ++ w.rest) (sym (append_assoc v.0 w.before (packet_of d)));
      few = w.few;
    }

pub good_held : (bs d : List ℕ) → Among (good d) (reading outside bs) → HoldsPacket bs d
good_held bs d h = held_from bs outside d h
