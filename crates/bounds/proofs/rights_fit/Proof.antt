-- `bounds::rights_fit` meets its contract. Assumes nothing.
use borrow.Author.Rules.{rules}
use Rattle.bounds.proofs.rights_fit.Statement.{statement}
use Rattle.bounds.proofs.rights_fit.Tie as tie

pub rights_fit_spec : {M : Type 1} → statement M
rights_fit_spec = tie.close (tie.spec (λ c. search rules))
