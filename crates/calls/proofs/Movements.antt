-- When a step tells a movement. Assumes nothing.
use Rattle.std.specs.Prelude.{Some}
use Prim.Native.Nat.{◌+◌}
use mathlib.Core.Path.{◌≡◌, refl, sym}
use mathlib.Core.Bool.{Bool, true, false, cond}
use lib.Dec.{eqb}
use Rattle.model.specs.Places.{total_words}
use Rattle.model.specs.State.{Flash, Leaves}
use Rattle.model.specs.Refusals.{accepts}
use Rattle.model.specs.Steps.{advance, step}
use Rattle.model.specs.declared.Work.{Work}
use Rattle.model.specs.declared.Work.TheVariants.{Read, Program, Erase}
use Rattle.model.specs.declared.Movement.TheVariants.{Moved, Finished}
use Rattle.model.specs.declared.Stepped.{Stepped}
use Rattle.model.specs.declared.Controller.{Controller}
use Rattle.model.proofs.StepLaws.{by_step}
use Rattle.calls.specs.Calls.{tells_movement}

last_moves : (last : Bool) → tells_movement (Some (cond last Finished Moved)) ≡ true
last_moves true = refl
last_moves false = refl

advance_tells : (c : Controller) (f : Flash) (w : Work) → tells_movement (advance c f w).result.movement ≡ accepts (advance c f w).result.answer
unfolding advance
advance_tells c f (Read o k readable) = last_moves (eqb (k + 1) (total_words c.setup.pages o))
advance_tells c f (Program o k) = last_moves (eqb (k + 1) (total_words c.setup.pages o))
advance_tells c f (Erase o k) = last_moves (eqb (k + 1) (total_words c.setup.pages o))

-- It does exactly where it is accepted.
pub step_tells : (c : Controller) (f : Flash) → tells_movement (step c f).result.movement ≡ accepts (step c f).result.answer
step_tells c f =
    by_step c f (λ (l : Leaves Stepped). tells_movement l.result.movement ≡ accepts l.result.answer) (λ a h. sym h) refl (advance_tells c f)
