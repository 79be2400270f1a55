-- `rights::decides` meets its contract. Assumes nothing.
use borrow.Author.Rules.{rules}
use Rattle.rights.proofs.decides.Statement.{statement}
use Rattle.rights.proofs.decides.Tie as tie

pub decides_spec : {M : Type 1} → statement M
decides_spec = tie.close (tie.spec (λ c. search rules) (λ c. search rules) (λ c. search rules) (λ c. search rules) (λ c. search rules))
