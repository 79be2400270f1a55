-- `checks::past_data` meets its contract. Assumes nothing.
use borrow.Author.Rules.{rules}
use Rattle.checks.proofs.past_data.Statement.{statement}
use Rattle.checks.proofs.past_data.Tie as tie

pub past_data_spec : {M : Type 1} → statement M
past_data_spec = tie.close (tie.spec (λ c. search rules) (λ c. search rules) (λ c. search rules) (λ c. search rules))
