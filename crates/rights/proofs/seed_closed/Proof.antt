-- `rights::seed_closed` meets its contract. Assumes nothing.
use mathlib.Core.Path.{refl}
use Rattle.model.specs.Rights.{seed_closed}
use Rattle.rights.proofs.seed_closed.Statement.{statement}
use Rattle.rights.proofs.seed_closed.Tie as tie

pub seed_closed_spec : {M : Type 1} → statement M
unfolding seed_closed
seed_closed_spec =
    tie.close (tie.spec
    (λ c. refl))
