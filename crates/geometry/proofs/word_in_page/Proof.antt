-- `geometry::word_in_page` meets its contract. Assumes nothing.
use borrow.Author.Rules.{rules}
use Rattle.geometry.proofs.word_in_page.Statement.{statement}
use Rattle.geometry.proofs.word_in_page.Tie as tie

pub word_in_page_spec : {M : Type 1} → statement M
word_in_page_spec =
    tie.close (tie.spec
    (λ c. search rules))
