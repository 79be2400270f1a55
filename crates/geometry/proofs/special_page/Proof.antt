-- `geometry::special_page` meets its contract. Assumes nothing.
use borrow.Author.Rules.{rules}
use Rattle.geometry.proofs.special_page.Statement.{statement}
use Rattle.geometry.proofs.special_page.Tie as tie

pub special_page_spec : {M : Type 1} → statement M
special_page_spec =
    tie.close (tie.spec
    (λ c κs. search rules)
    (λ c. search rules))
