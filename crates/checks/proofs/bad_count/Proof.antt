-- `checks::bad_count` meets its contract. Assumes nothing.
use borrow.Author.Rules.{rules}
use Rattle.checks.proofs.bad_count.Statement.{statement}
use Rattle.checks.proofs.bad_count.Tie as tie

pub bad_count_spec : {M : Type 1} → statement M
bad_count_spec = tie.close (tie.spec (λ c. search rules))
