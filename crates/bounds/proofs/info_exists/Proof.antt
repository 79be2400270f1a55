-- `bounds::info_exists` meets its contract. Assumes nothing.
use Rattle.bounds.proofs.info_exists.Statement.{statement}
use Rattle.bounds.proofs.info_exists.Tie as tie

pub info_exists_spec : {M : Type 1} → statement M
info_exists_spec =
    tie.close (tie.spec
    (λ c κs. tt)
    (λ c. rw c.info_count-count.ensures.0))
