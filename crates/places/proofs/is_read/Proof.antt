-- `places::is_read` meets its contract. Assumes nothing.
use borrow.Author.Rules.{rules}
use Rattle.places.proofs.is_read.Statement.{statement}
use Rattle.places.proofs.is_read.Tie as tie

pub is_read_spec : {M : Type 1} → statement M
is_read_spec =
    tie.close (tie.spec
    (λ c. search rules))
