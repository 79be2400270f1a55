-- `places::span_address` meets its contract. Assumes nothing.
use borrow.Author.Rules.{rules}
use Rattle.places.proofs.span_address.Statement.{statement}
use Rattle.places.proofs.span_address.Tie as tie

pub span_address_spec : {M : Type 1} → statement M
span_address_spec =
    tie.close (tie.spec
    (λ c κs. tt)
    (λ c. search rules)
    (λ c. search rules)
    (λ c. search rules)
    (λ c. (simp c.before.span_start-start.ensures, search rules)))
