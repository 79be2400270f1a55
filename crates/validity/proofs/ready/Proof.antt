-- `validity::ready` meets its contract. Assumes nothing.
use Rattle.validity.proofs.Taken.{ready_same}
use Rattle.validity.proofs.ready.Statement.{statement}
use Rattle.validity.proofs.ready.Tie as tie

pub ready_spec : {M : Type 1} → statement M
ready_spec =
    tie.close (tie.spec
    (λ c κs. tt)
    (λ c κs. tt)
    (λ c κs. tt)
    (λ c. simp (c.ready_answer.ensures, c.before.phase.ensures, c.before.before.valid-own.ensures) (ready_same _ _ (λ e. e))))
