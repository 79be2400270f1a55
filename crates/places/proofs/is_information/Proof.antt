-- `places::is_information` meets its contract. Assumes nothing.
use borrow.Author.Rules.{rules}
use Rattle.places.proofs.is_information.Statement.{statement}
use Rattle.places.proofs.is_information.Tie as tie

pub is_information_spec : {M : Type 1} → statement M
is_information_spec =
    tie.close (tie.spec
    (λ c. search rules))
