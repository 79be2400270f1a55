-- `bounds::region_fits` meets its contract. Assumes nothing.
use borrow.Author.Rules.{rules}
use Rattle.bounds.proofs.region_fits.Statement.{statement}
use Rattle.bounds.proofs.region_fits.Tie as tie

pub region_fits_spec : {M : Type 1} → statement M
region_fits_spec = tie.close (tie.spec (λ c. search rules) (λ c. search rules) (λ c. search rules) (λ c. search rules) (λ c. search rules))
