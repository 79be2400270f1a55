-- `validity::physical_fits` meets its contract. Assumes nothing.
use native.Mathlib.Omega.{arith}
use mathlib.Core.Bool.{and-true}
use Rattle.model.specs.Valid.{physical_fits}
use Rattle.registers.specs.Registers.{stands_for}
use Rattle.validity.proofs.physical_fits.Statement.{statement}
use Rattle.validity.proofs.physical_fits.Tie as tie

pub physical_fits_spec : {M : Type 1} → statement M
unfolding stands_for physical_fits
physical_fits_spec =
    tie.close (tie.spec
    (λ c κs. omega arith)
    (λ c κs. omega arith)
    (λ c. rw (c.lost-second.ensures, c.before.lost-first.ensures, and-true)))
