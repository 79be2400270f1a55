-- `host::read_answer` meets its contract. Assumes nothing.
use borrow.Author.Rules.{rules}
use Rattle.host.proofs.read_answer.Statement.{statement}
use Rattle.host.proofs.read_answer.Tie as tie

pub read_answer_spec : {M : Type 1} → statement M
read_answer_spec =
    tie.close (tie.spec
    (λ c κs. tt)
    (λ c κs. search rules)
    (λ c κs. tt)
    (λ c. rw (c.check.ensures, c.grants.ensures, c.ruling_at-ruling.ensures)))
