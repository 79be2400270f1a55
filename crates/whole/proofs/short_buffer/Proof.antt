-- `whole::short_buffer` meets its contract. Assumes nothing.
use borrow.Author.Rules.{rules}
use Rattle.model.proofs.Checks.{formed}
use Rattle.whole.proofs.short_buffer.Statement.{statement}
use Rattle.whole.proofs.short_buffer.Tie as tie

pub short_buffer_spec : {M : Type 1} → statement M
short_buffer_spec =
    tie.close (tie.spec
    (λ c κs. tt)
    (λ c κs. tt)
    (λ c κs. tt)
    (λ c. search rules)
    (λ c. rw (c.uses_count-counts.ensures, c.accepts-formed.ensures, c.form_answer.ensures, formed)))
