-- `byte_sent` is safe: an answer has at most 24 bytes.
-- Assumes nothing.
use native.Mathlib.Omega.{arith}
use lib.ListN.{length-take}
use Rattle.service.proofs.Lines.{answer_few}
use Rattle.service.proofs.desk.byte_sent.Goals as goal

pub slice_bounds-answer-end : goal.slice_bounds-answer-end
slice_bounds-answer-end g c = let few = answer_few _ _ _ c.byte-report.ensures.0 in omega (arith, few)

pub slice_bounds-answered-end : goal.slice_bounds-answered-end
slice_bounds-answered-end g c = let few = answer_few _ _ _ c.byte-report.ensures.0 in simp length-take (omega (arith, few))
