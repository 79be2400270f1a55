-- `bounds::errors_fit` meets its contract. Assumes nothing.
use borrow.Author.Rules.{rules}
use Rattle.bounds.proofs.errors_fit.Statement.{statement}
use Rattle.bounds.proofs.errors_fit.Tie as tie

pub errors_fit_spec : {M : Type 1} → statement M
errors_fit_spec = tie.close (tie.spec (λ c. search rules))
