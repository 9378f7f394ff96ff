-- The input, a read at a time: what the loop of `run` knows of the bench, of the reader and of the writer.
-- Assumes nothing.
use Rattle.std.proofs.Common.{◌≡◌, ℕ, ◌+◌, ◌≤◌, ◌<◌, List, [], ◌++◌, length, sym, ap, ◌∙◌, arith, length-append, true, false}
use mathlib.Core.List.{append-nil}
use Rattle.std.specs.Io.KnownBytes.{Appends, Consumes, IsAtEnd}
use Rattle.std.specs.declared.option.Option.{Option}
use Rattle.std.specs.declared.option.Option.TheVariants.{None, Some}
use Rattle.std.specs.Prelude.{IfSome}
use Rattle.player.specs.Scripts.{fresh_bench, play, says, closed, script}
use Rattle.player.specs.declared.feeding.Bench.{Bench}
use Rattle.player.proofs.Playing.{played_append, says_append}
use Rattle.bench.specs.Serving.{Serves}
use Rattle.bench.specs.declared.Served.{Served}
use Rattle.bench.proofs.Known.{appends_none, appends_then, consumes_none, consumes_then, if_some}

-- ---- so many reads, of at least a byte each, were played to a pump that was just switched on
pub record Ran (left rest had has : Option (List ℕ)) (now : Bench) (n : ℕ) : Type 0 where
  pub got : List ℕ
  pub took : Consumes left rest got
  pub stands : now ≡ play fresh_bench got
  pub told : Appends had has (says fresh_bench got)
  pub many : n ≤ length got

pub ran_none : (left had : Option (List ℕ)) (w : Bench) → w ≡ fresh_bench → Ran left left had had w 0
unfolding play says
ran_none left had w e =
    record { got = []; took = consumes_none left; stands = e; told = appends_none had; many = omega arith }

-- ---- the end, of the input or of the reads: fewer bytes than reads were all
pub record Over (k : ℕ) (left rest had has : Option (List ℕ)) (now : Bench) : Type 0 where
  pub got : List ℕ
  pub took : Consumes left rest got
  pub stands : now ≡ play fresh_bench got
  pub told : Appends had has (says fresh_bench got)
  pub ends : length got < k → IsAtEnd rest

module _ {left rest had has : Option (List ℕ)} {w : Bench} {n : ℕ} (p : Ran left rest had has w n) where
  -- as many reads as there are
  pub ran_out : (k : ℕ) → k ≤ n → Over k left rest had has w
  ran_out k h =
      record { got = p.got; took = p.took; stands = p.stands; told = p.told; ends = λ l. absurd (omega (arith, p.many)) }

  -- one read more
  module _ {rest' has' : Option (List ℕ)} {r : Served} (s : Serves w rest rest' has has' r) where
    abbrev both : List ℕ
    both = p.got ++ s.got

    both_took : Consumes left rest' both
    both_took = consumes_then left rest rest' p.got s.got p.took s.took

    both_stands : r.bench ≡ play fresh_bench both
    both_stands =
        s.stands ∙ ap (λ (x : Bench). play x s.got) p.stands ∙ sym (played_append fresh_bench p.got s.got)

    both_says : says fresh_bench both ≡ says fresh_bench p.got ++ says w s.got
    both_says =
        says_append fresh_bench p.got s.got ∙ ap (λ (x : Bench). says fresh_bench p.got ++ says x s.got) (sym p.stands)

    both_told : Appends had has' (says fresh_bench both)
    both_told = rw both_says (appends_then had has has' (says fresh_bench p.got) (says w s.got) p.told s.told)

    pub ran_more : r.ended ≡ false → Ran left rest' had has' r.bench (n + 1)
    ran_more e =
        record {
          got = both;
          took = both_took;
          stands = both_stands;
          told = both_told;
          many = simp length-append (omega (arith, p.many, s.some e));
        }

    pub ran_last : (k : ℕ) → r.ended ≡ true → Over k left rest' had has' r.bench
    ran_last k e =
        record { got = both; took = both_took; stands = both_stands; told = both_told; ends = λ l. s.ends e }

-- ---- of a reader whose bytes are known all were played
all_got :
    (left rest : Option (List ℕ)) (got : List ℕ) (k : ℕ) → Consumes left rest got → (length got < k → IsAtEnd rest)
    → IfSome left (λ s. length s < k → s ≡ got)
all_got None rest got k c e = tt
all_got (Some s) None got k c e = elim c [ ]
all_got (Some s) (Some t) got k c e =
    λ h. let a : length s ≡ length got + length t = ap length c ∙ length-append got t in
    let z : t ≡ [] = e (omega arith) in c ∙ ap (λ (u : List ℕ). got ++ u) z ∙ append-nil got

pub over_all :
    {k : ℕ} {left rest had has : Option (List ℕ)} {w : Bench} (last : Option (List ℕ)) → Over k left rest had has w
    → Appends has last (closed w) → IfSome left (λ s. length s < k → Appends had last (script s))
unfolding script
over_all {k} {left} {rest} {had} {has} {w} last p c =
    let told : Appends had last (says fresh_bench p.got ++ closed (play fresh_bench p.got)) =
    appends_then had has last (says fresh_bench p.got) (closed (play fresh_bench p.got)) p.told (rw (sym p.stands) c) in
    if_some left (λ s. length s < k → s ≡ p.got) (λ s. length s < k → Appends had last (script s))
    (λ s f h. rw (f h) told)
    (all_got left rest p.got k p.took p.ends)
