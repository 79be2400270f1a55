-- `answers::recorded` meets its contract. Assumes nothing.
use Rattle.answers.proofs.recorded.Statement.{statement}
use Rattle.answers.proofs.recorded.Tie as tie

pub recorded_spec : {M : Type 1} → statement M
recorded_spec =
    tie.close (tie.spec
    (λ c κs. c.requires)
    (λ c κs. tt)
    (λ c κs. tt)
    (λ c. rw (c.recorded.ensures, c.before.errors.ensures, c.before.before.error_address-address.ensures)))
