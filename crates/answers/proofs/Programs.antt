-- What the checks answer of a program. Assumes nothing.
use Rattle.std.specs.Prelude.{Err}
use mathlib.Core.Path.{◌≡◌, refl, sym}
use mathlib.Core.Bool.{Bool, true, false, ◌&&◌, not}
use Rattle.model.specs.Kinds.{is_program}
use Rattle.model.specs.Refusals.{accepts, check}
use Rattle.model.specs.Checks.{malformed, operation_answer}
use Rattle.model.specs.declared.Refusal.{Refusal}
use Rattle.model.specs.declared.Refusal.TheVariants.{Malformed}
use Rattle.model.specs.declared.Operation.{Operation}
use Rattle.model.specs.declared.Setup.{Setup}
use Rattle.model.proofs.Bool.{by_test}

pub form_refused : (s : Setup) (o : Operation) → (is_program o && accepts (check (malformed o) (Err Malformed))) ≡ false
    → false ≡ (is_program o && accepts (operation_answer s o))
unfolding operation_answer
form_refused s o h =
    by_test (is_program o)
    (λ p. let f : accepts (check (malformed o) (Err Malformed)) ≡ false = rw p at h in rw (p, f) (sym f))
    (λ p. rw p)

pub by_grant : (g : Bool) (r : Refusal) → g ≡ accepts (check (not g) (Err r))
by_grant true r = refl
by_grant false r = refl
