-- `geometry::page_of` meets its contract. Assumes nothing.
use borrow.Author.Rules.{rules}
use Rattle.geometry.proofs.page_of.Statement.{statement}
use Rattle.geometry.proofs.page_of.Tie as tie

pub page_of_spec : {M : Type 1} → statement M
page_of_spec = tie.close (tie.spec (λ c. search rules))
