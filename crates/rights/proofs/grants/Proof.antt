-- `rights::grants` meets its contract. Assumes nothing.
use borrow.Author.Rules.{rules}
use Rattle.rights.proofs.grants.Statement.{statement}
use Rattle.rights.proofs.grants.Tie as tie

pub grants_spec : {M : Type 1} → statement M
grants_spec =
    tie.close (tie.spec
    (λ c. search rules)
    (λ c. search rules))
