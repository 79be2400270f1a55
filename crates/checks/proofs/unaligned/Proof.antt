-- `checks::unaligned` meets its contract. Assumes nothing.
use borrow.Author.Rules.{rules}
use Rattle.checks.proofs.unaligned.Statement.{statement}
use Rattle.checks.proofs.unaligned.Tie as tie

pub unaligned_spec : {M : Type 1} → statement M
unaligned_spec =
    tie.close (tie.spec
    (λ c. search rules))
