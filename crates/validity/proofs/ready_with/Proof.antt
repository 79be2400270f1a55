-- `validity::ready_with` meets its contract. Assumes nothing.
use Rattle.model.proofs.Moving.{with_valid}
use Rattle.validity.proofs.Taken.{ready_same}
use Rattle.validity.proofs.ready_with.Statement.{statement}
use Rattle.validity.proofs.ready_with.Tie as tie

pub ready_with_spec : {M : Type 1} → statement M
ready_with_spec =
    tie.close (tie.spec
    (λ c κs. tt)
    (λ c κs. tt)
    (λ c κs. tt)
    (λ c. simp (c.ready_answer.ensures, c.before.phase.ensures, c.before.before.valid_with-both.ensures) (ready_same _ _ (with_valid _ _))))
