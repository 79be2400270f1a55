-- `places::is_bank_erase` meets its contract. Assumes nothing.
use borrow.Author.Rules.{rules}
use Rattle.places.proofs.is_bank_erase.Statement.{statement}
use Rattle.places.proofs.is_bank_erase.Tie as tie

pub is_bank_erase_spec : {M : Type 1} → statement M
is_bank_erase_spec =
    tie.close (tie.spec
    (λ c. search rules))
