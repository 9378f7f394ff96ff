-- Known bytes that grow by one run and then by another, or lose them.
-- Assumes nothing.
use Rattle.std.proofs.Common.{List, [], ◌++◌, ℕ, refl, sym, ap, ◌∙◌, append_assoc}
use mathlib.Core.List.{append-nil}
use Rattle.std.specs.Io.KnownBytes.{Appends, Consumes, Keeps}
use Rattle.std.specs.Prelude.{OnOk, IfSome}
use Rattle.std.specs.declared.result.Result.{Result}
use Rattle.std.specs.declared.result.Result.TheVariants.{Ok, Err}
use Rattle.std.specs.declared.option.Option.{Option}
use Rattle.std.specs.declared.option.Option.TheVariants.{None, Some}

pub appends_none : (a : Option (List ℕ)) → Appends a a []
appends_none None = tt
appends_none (Some s) = sym (append-nil s)

pub appends_then : (a b c : Option (List ℕ)) (s t : List ℕ) → Appends a b s → Appends b c t → Appends a c (s ++ t)
appends_then None b c s t p q = tt
appends_then (Some x) None c s t p q = elim p [ ]
appends_then (Some x) (Some y) None s t p q = elim q [ ]
appends_then (Some x) (Some y) (Some z) s t p q = q ∙ ap (λ (u : List ℕ). u ++ t) p ∙ append_assoc x s t

pub appends_kept : (a b c : Option (List ℕ)) (s : List ℕ) → Appends a b s → Keeps b c → Appends a c s
appends_kept None b c s p q = tt
appends_kept (Some x) None c s p q = elim p [ ]
appends_kept (Some x) (Some y) None s p q = elim q [ ]
appends_kept (Some x) (Some y) (Some z) s p q = q ∙ p

pub consumes_none : (a : Option (List ℕ)) → Consumes a a []
consumes_none None = tt
consumes_none (Some s) = refl

pub consumes_then : (a b c : Option (List ℕ)) (s t : List ℕ) → Consumes a b s → Consumes b c t → Consumes a c (s ++ t)
consumes_then None b c s t p q = tt
consumes_then (Some x) None c s t p q = elim p [ ]
consumes_then (Some x) (Some y) None s t p q = elim q [ ]
consumes_then (Some x) (Some y) (Some z) s t p q = p ∙ ap (λ (u : List ℕ). s ++ u) q ∙ sym (append_assoc s t z)

-- ---- what follows from a part
pub on_ok : {T E : Type 0} (r : Result T E) (P Q : Type 0) → (P → Q) → OnOk r P → OnOk r Q
on_ok (Ok x) P Q f p = f p
on_ok (Err e) P Q f p = tt

pub if_some : (o : Option (List ℕ)) (P Q : List ℕ → Type 0) → ((s : List ℕ) → P s → Q s) → IfSome o P → IfSome o Q
if_some None P Q f p = tt
if_some (Some s) P Q f p = f s p
