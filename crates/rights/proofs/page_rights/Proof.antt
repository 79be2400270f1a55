-- `rights::page_rights` meets its contract. Assumes nothing.
use borrow.Author.Rules.{rules}
use Rattle.rights.proofs.page_rights.Statement.{statement}
use Rattle.rights.proofs.page_rights.Tie as tie

pub page_rights_spec : {M : Type 1} → statement M
page_rights_spec = tie.close (tie.spec (λ c. search rules) (λ c. search rules))
