-- `places::uses_count` meets its contract. Assumes nothing.
use borrow.Author.Rules.{rules}
use Rattle.places.proofs.uses_count.Statement.{statement}
use Rattle.places.proofs.uses_count.Tie as tie

pub uses_count_spec : {M : Type 1} → statement M
uses_count_spec =
    tie.close (tie.spec
    (λ c. search rules))
