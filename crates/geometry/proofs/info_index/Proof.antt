-- `geometry::info_index` meets its contract. Assumes nothing.
use borrow.Author.Rules.{rules}
use Rattle.geometry.proofs.info_index.Statement.{statement}
use Rattle.geometry.proofs.info_index.Tie as tie

pub info_index_spec : {M : Type 1} → statement M
info_index_spec =
    tie.close (tie.spec
    (λ c. search rules)
    (λ c κs. search rules)
    (λ c. search rules)
    (λ c. search rules)
    (λ c. search rules)
    (λ c. search rules))
