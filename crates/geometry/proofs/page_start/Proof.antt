-- `geometry::page_start` meets its contract. Assumes nothing.
use borrow.Author.Rules.{rules}
use Rattle.geometry.proofs.page_start.Statement.{statement}
use Rattle.geometry.proofs.page_start.Tie as tie

pub page_start_spec : {M : Type 1} → statement M
page_start_spec =
    tie.close (tie.spec
    (λ c. search rules)
    (λ c. search rules))
