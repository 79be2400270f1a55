-- What a whole operation leaves of the controller: what was in progress, and the physical part. Assumes nothing.
use Prim.Native.Nat.{ℕ}
use mathlib.Core.Path.{◌≡◌, refl}
use mathlib.Core.List.{List}
use Rattle.model.specs.State.{Flash}
use Rattle.model.specs.Whole.{whole}
use Rattle.model.specs.declared.Operation.{Operation}
use Rattle.model.specs.declared.Controller.{Controller}
use Rattle.plans.specs.Plan.{Plan, Refused, Recorded, Reads, Programs, Erases, plan_of, performed}
use Rattle.plans.proofs.ClosedFormProof.{closed_form}

performed_leaves : (c : Controller) (f : Flash) (o : Operation) (b : List ℕ) (p : Plan)
    → ((performed c f o b p).result.controller.progress ≡ c.progress) × ((performed c f o b p).result.controller.physical ≡ c.physical)
unfolding performed
performed_leaves c f o b (Refused a) = (refl, refl)
performed_leaves c f o b (Recorded a) = (refl, refl)
performed_leaves c f o b (Reads a readable ps) = (refl, refl)
performed_leaves c f o b (Programs ps) = (refl, refl)
performed_leaves c f o b (Erases ps) = (refl, refl)

pub whole_leaves : (c : Controller) (f : Flash) (o : Operation) (b : List ℕ)
    → ((whole c f o b).result.controller.progress ≡ c.progress) × ((whole c f o b).result.controller.physical ≡ c.physical)
whole_leaves c f o b = rw (closed_form c f o b) (performed_leaves c f o b (plan_of c f o b))
