-- `steps::stalls` meets its contract. Assumes nothing.
use borrow.Author.Rules.{rules}
use Rattle.model.specs.Steps.{stalls}
use Rattle.registers.specs.Registers.{stands_for}
use Rattle.steps.proofs.stalls.Statement.{statement}
use Rattle.steps.proofs.stalls.Tie as tie

pub stalls_spec : {M : Type 1} → statement M
unfolding stalls stands_for
stalls_spec =
    tie.close (tie.spec
    (λ c. search rules)
    (λ c κs. tt)
    (λ c. search rules)
    (λ c κs. tt)
    (λ c. search rules)
    (λ c. rw (c.in-Read.is, c.read_count.ensures))
    (λ c. rw (c.in-Program.is, c.program_count.ensures))
    (λ c. rw c.in-Erase.is))
