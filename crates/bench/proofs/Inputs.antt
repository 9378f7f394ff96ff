-- The input, a part of it at a time: what the loop of `play` knows of the bench, of the buffer and of what was written.
-- Assumes nothing.
use Rattle.std.proofs.Common.{◌≡◌, ℕ, ◌+◌, ◌-◌, ◌≤◌, ◌<◌, List, [], ◌++◌, length, take, drop, refl, sym, ap, ◌∙◌, arith, length-drop, append_assoc}
use mathlib.Core.List.{append-nil}
use lib.ListN.{take-append-drop, drop_of_length-le, length-take}
use lib.Seq.{take_all, drop-drop, take_at}
use Rattle.std.specs.Io.KnownBytes.{Appends}
use Rattle.std.specs.declared.option.Option.{Option}
use Rattle.base.specs.Wrote.{Wrote}
use Rattle.base.proofs.Writing.{wrote_length}
use Rattle.player.specs.Scripts.{play, says, Feeds}
use Rattle.player.specs.declared.feeding.Bench.{Bench}
use Rattle.player.specs.declared.feeding.Fed.{Fed}
use Rattle.player.proofs.Playing.{played_append, says_append}
use Rattle.bench.proofs.Known.{appends_none, appends_then}

-- ---- a run that was written from the buffer's first byte on
pub part_written : {l m : List ℕ} {j : ℕ} {v : List ℕ} → Wrote l m 0 j v → take j m ≡ v
part_written {l} {m} {j} {v} w = ap (λ (t : List ℕ). take j t) w.holds ∙ take_at v (drop j l) j (omega arith)

pub written_length : {l m : List ℕ} {j : ℕ} {v : List ℕ} → Wrote l m 0 j v → j ≡ length (take j m)
written_length w = simp length-take (omega (arith, wrote_length w, w.fits))

-- ---- a part of the input was played: the rest is played from there
module _ (s : List ℕ) (from : ℕ) where
  -- what is lent of s from a place on
  abbrev pub part : List ℕ
  part = take (length s - from) (drop from s)

  part_rest : part ≡ drop from s
  part_rest = take_all (length s - from) (drop from s) (simp length-drop (omega arith))

  pub part_length : from ≤ length s → length part ≡ length s - from
  part_length h = ap length part_rest ∙ length-drop from s

-- ---- the input up to a place was played, and what it prints was written; the rest is played from there
pub record Plays (s : List ℕ) (w now : Bench) (from : ℕ) (out : List ℕ) (had has : Option (List ℕ)) : Type 0 where
  pub within : from ≤ length s
  pub short : length s < 18_446_744_073_709_551_616
  pub rest : play now (drop from s) ≡ play w s
  pub roomy : length out ≡ 65536
  pub said : List ℕ
  pub told : Appends had has said
  pub left : said ++ says now (drop from s) ≡ says w s

pub plays_none :
    (s : List ℕ) (w : Bench) (out : List ℕ) (had : Option (List ℕ)) → length s < 18_446_744_073_709_551_616
    → length out ≡ 65536 → Plays s w w 0 out had had
plays_none s w out had h l =
    record { within = omega arith; short = h; rest = refl; roomy = l; said = []; told = appends_none had; left = refl }

module _ {s : List ℕ} {w now : Bench} {from : ℕ} {out : List ℕ} {had has : Option (List ℕ)} (p : Plays s w now from out had has) where
  pub plays_all : length s ≤ from → now ≡ play w s
  unfolding play
  plays_all l = ap (λ (t : List ℕ). play now t) (sym (drop_of_length-le s l)) ∙ p.rest

  pub told_all : length s ≤ from → Appends had has (says w s)
  unfolding says
  told_all l =
      let e : p.said ≡ says w s =
      sym (append-nil p.said) ∙ ap (λ (t : List ℕ). p.said ++ says now t) (sym (drop_of_length-le s l)) ∙ p.left in
      rw (sym e) p.told

  module _ {after : List ℕ} {r : Fed} (f : Feeds now (part s from) out after r) where
    within_rest : from + r.taken ≤ length s
    within_rest = omega (arith, p.within, f.within, part_length s from p.within)

    pub plays_fits : from + r.taken < 18_446_744_073_709_551_616
    plays_fits = omega (arith, within_rest, p.short)

    pub plays_less : from < length s → length s - (from + r.taken) < length s - from
    plays_less h =
        let l = part_length s from p.within in
        let some : 0 < r.taken = f.some (omega arith) in
        omega arith

    pub plays_more : (has' : Option (List ℕ)) → Appends has has' (take r.end after) → Plays s w r.bench (from + r.taken) after had has'
    plays_more has' a =
        let left : List ℕ = drop from s in
        let taken = r.taken in
        let begun : List ℕ = take taken left in
        let after' : Bench = play now begun in
        let e : r.bench ≡ after' = f.stands ∙ ap (λ (t : List ℕ). play now (take taken t)) (part_rest s from) in
        let d : drop (from + taken) s ≡ drop taken left = sym (drop-drop taken from s) in
        let b : take r.end after ≡ says now begun =
        part_written f.wrote ∙ ap (λ (t : List ℕ). says now (take taken t)) (part_rest s from) in
        record {
          within = within_rest;
          short = p.short;
          rest =
              ap (λ (x : Bench). play x (drop (from + taken) s)) e
              ∙ ap (λ (t : List ℕ). play after' t) d
              ∙ sym (played_append now begun (drop taken left))
              ∙ ap (λ (t : List ℕ). play now t) (take-append-drop taken left)
              ∙ p.rest;
          roomy = wrote_length f.wrote ∙ p.roomy;
          said = p.said ++ says now begun;
          told = appends_then had has has' p.said (says now begun) p.told (rw (sym b) a);
          left =
              append_assoc p.said (says now begun) (says r.bench (drop (from + taken) s))
              ∙ ap (λ (x : Bench). p.said ++ (says now begun ++ says x (drop (from + taken) s))) e
              ∙ ap (λ (t : List ℕ). p.said ++ (says now begun ++ says after' t)) d
              ∙ ap (λ (t : List ℕ). p.said ++ t) (sym (says_append now begun (drop taken left)))
              ∙ ap (λ (t : List ℕ). p.said ++ says now t) (take-append-drop taken left)
              ∙ p.left;
        }
