-- `host::page_start` meets its contract. Assumes nothing.
use borrow.Author.Rules.{rules}
use Rattle.host.proofs.page_start.Statement.{statement}
use Rattle.host.proofs.page_start.Tie as tie

pub page_start_spec : {M : Type 1} → statement M
page_start_spec =
    tie.close (tie.spec
    (λ c κs. tt)
    (λ c κs. rw c.pages.ensures (search rules))
    (λ c κs. search rules)
    (λ c. rw (c.first_word-first.ensures, c.image_page-q.ensures.0, c.pages.ensures)))
