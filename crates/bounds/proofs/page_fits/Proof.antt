-- `bounds::page_fits` meets its contract. Assumes nothing.
use borrow.Author.Rules.{rules}
use Rattle.bounds.proofs.page_fits.Statement.{statement}
use Rattle.bounds.proofs.page_fits.Tie as tie

pub page_fits_spec : {M : Type 1} → statement M
page_fits_spec = tie.close (tie.spec (λ c. search rules))
