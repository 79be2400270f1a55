-- `steps::advance` meets its contract. Assumes nothing.
use borrow.Author.Rules.{rules}
use Rattle.steps.proofs.Left.{same_moves}
use Rattle.steps.proofs.advance.Statement.{statement}
use Rattle.steps.proofs.advance.Tie as tie

pub advance_spec : {M : Type 1} → statement M
advance_spec =
    tie.close (tie.spec
    (λ c. search rules)
    (λ c κs. same_moves c.in-Read.is c.requires)
    (λ c. search rules)
    (λ c κs. same_moves c.in-Program.is c.requires)
    (λ c. search rules)
    (λ c κs. same_moves c.in-Erase.is c.requires)
    (λ c. search rules)
    (λ c. rw c.in-Read.is c.advance_read.ensures)
    (λ c. search rules)
    (λ c. rw c.in-Program.is c.advance_program.ensures)
    (λ c. search rules)
    (λ c. rw c.in-Erase.is c.advance_erase.ensures))
