-- `whole::read` meets its contract. Assumes nothing.
use borrow.Author.Rules.{rules}
use Rattle.whole.proofs.read.Statement.{statement}
use Rattle.whole.proofs.read.Tie as tie

pub read_spec : {M : Type 1} → statement M
read_spec =
    tie.close (tie.spec
    (λ c κs. tt)
    (λ c κs. rw c.pages.ensures c.requires)
    (λ c κs. tt)
    (λ c κs. tt)
    (λ c. search rules)
    (λ c. (rw (c.put_reads.ensures, c.empty.ensures), rw (c.read.ensures, c.pages.ensures))))
