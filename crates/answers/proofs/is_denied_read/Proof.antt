-- `answers::is_denied_read` meets its contract. Assumes nothing.
use Rattle.answers.proofs.is_denied_read.Statement.{statement}
use Rattle.answers.proofs.is_denied_read.Tie as tie

pub is_denied_read_spec : {M : Type 1} → statement M
is_denied_read_spec =
    tie.close (tie.spec
    (λ c κs. tt)
    (λ c κs. tt)
    (λ c. rw (c.is_denied-denied.ensures, c.before.is_read-read.ensures)))
