-- `host::view_answer` meets its contract. Assumes nothing.
use borrow.Author.Rules.{rules}
use Rattle.host.proofs.Hosted.{view_answer_same}
use Rattle.host.proofs.view_answer.Statement.{statement}
use Rattle.host.proofs.view_answer.Tie as tie

pub view_answer_spec : {M : Type 1} → statement M
view_answer_spec =
    tie.close (tie.spec
    (λ c κs. tt)
    (λ c κs. tt)
    (λ c. search rules)
    (λ c. search rules)
    (λ c. search rules)
    (λ c κs. tt)
    (λ c κs. tt)
    (λ c κs. tt)
    (λ c κs. tt)
    (λ c.
    rw (c.or_else-2.ensures, c.or_else.ensures, c.read_answer-right.ensures)
    (rw (c.check-range.ensures, c.pages.ensures, c.ready_with-ready.ensures)
    (view_answer_same _ _ _))))
