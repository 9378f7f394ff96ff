-- `heading_of` meets its contract: a text of three letters is one of the words, or none.
-- Assumes nothing.
use native.Mathlib.Omega.{arith}
use Rattle.line.proofs.Asking.{infuse, withdraw, reverse, no_heading}
use Rattle.line.proofs.arguments.heading_of.Goals as goal

pub returns-in-INF : goal.returns-in-INF
returns-in-INF c = infuse _ (omega arith, omega arith, omega arith, omega arith)

pub returns-in-WDR : goal.returns-in-WDR
returns-in-WDR c = withdraw _ (omega arith, omega arith, omega arith, omega arith)

pub returns-in-REV : goal.returns-in-REV
returns-in-REV c = reverse _ (omega arith, omega arith, omega arith, omega arith)

pub returns-in_default : goal.returns-in_default
returns-in_default c = no_heading _ (λ w. omega arith) (λ w. omega arith) (λ w. omega arith)

pub returns-in_default-2 : goal.returns-in_default-2
returns-in_default-2 c = no_heading _ (λ w. omega arith) (λ w. omega arith) (λ w. omega arith)

pub returns-in_default-3 : goal.returns-in_default-3
returns-in_default-3 c = no_heading _ (λ w. omega arith) (λ w. omega arith) (λ w. omega arith)

pub returns-in_default-4 : goal.returns-in_default-4
returns-in_default-4 c = no_heading _ (λ w. omega arith) (λ w. omega arith) (λ w. omega arith)

pub returns-in_default-5 : goal.returns-in_default-5
returns-in_default-5 c = no_heading _ (λ w. omega arith) (λ w. omega arith) (λ w. omega arith)

pub returns-in_default-6 : goal.returns-in_default-6
returns-in_default-6 c = no_heading _ (λ w. omega arith) (λ w. omega arith) (λ w. omega arith)

pub returns-in_default-7 : goal.returns-in_default-7
returns-in_default-7 c = no_heading _ (λ w. omega arith) (λ w. omega arith) (λ w. omega arith)

pub returns-in_default-8 : goal.returns-in_default-8
returns-in_default-8 c = no_heading _ (λ w. omega arith) (λ w. omega arith) (λ w. omega arith)

pub returns-in_default-9 : goal.returns-in_default-9
returns-in_default-9 c = no_heading _ (λ w. omega arith) (λ w. omega arith) (λ w. omega arith)
