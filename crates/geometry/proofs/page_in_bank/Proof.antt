-- `geometry::page_in_bank` meets its contract. Assumes nothing.
use borrow.Author.Rules.{rules}
use borrow.Author.Tests.{lt-ltb, le-ltb}
use Rattle.geometry.proofs.page_in_bank.Statement.{statement}
use Rattle.geometry.proofs.page_in_bank.Tie as tie

pub page_in_bank_spec : {M : Type 1} → statement M
page_in_bank_spec =
    tie.close
    (tie.spec
    (λ c. (simp (lt-ltb _ _ c.if-page-d.true) (search rules), search rules))
    (λ c. (simp (le-ltb _ _ c.if-page-d.false) (search rules), search rules)))
