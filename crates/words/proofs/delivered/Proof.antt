-- `words::delivered` meets its contract. Assumes nothing.
use mathlib.Core.Path.{refl}
use borrow.Author.Rules.{rules}
use Rattle.model.specs.Steps.{delivered}
use Rattle.words.proofs.delivered.Statement.{statement}
use Rattle.words.proofs.delivered.Tie as tie

pub delivered_spec : {M : Type 1} → statement M
unfolding delivered
delivered_spec =
    tie.close (tie.spec
    (λ c. search rules)
    (λ c. search rules)
    (λ c. search rules)
    (λ c. refl))
