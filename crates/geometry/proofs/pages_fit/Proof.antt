-- `geometry::pages_fit` meets its contract. Assumes nothing.
use borrow.Author.Rules.{rules}
use Rattle.geometry.proofs.pages_fit.Statement.{statement}
use Rattle.geometry.proofs.pages_fit.Tie as tie

pub pages_fit_spec : {M : Type 1} → statement M
pages_fit_spec = tie.close (tie.spec (λ c. search rules))
