-- Which plan an operation has, by its checks. Assumes nothing.
use Rattle.std.specs.Prelude.{Err}
use Prim.Native.Nat.{ℕ}
use mathlib.Core.Path.{◌≡◌, refl}
use mathlib.Core.Bool.{true, false, ◌||◌, not}
use mathlib.Core.List.{List}
use Rattle.model.specs.State.{Flash, is_busy}
use Rattle.model.specs.Refusals.{number_of, accepts}
use Rattle.model.specs.Checks.{operation_answer}
use Rattle.model.specs.Errors.{is_recorded}
use Rattle.model.specs.Valid.{valid_with, both_empty}
use Rattle.model.specs.Steps.{starts}
use Rattle.model.specs.Whole.{whole_answer, short_buffer}
use Rattle.model.specs.declared.Operation.{Operation}
use Rattle.model.specs.declared.Controller.{Controller}
use Rattle.model.specs.Refusals.{Answer}
use Rattle.model.specs.declared.Refusal.TheVariants.{ShortBuffer}
use Rattle.model.proofs.Bool.{by_test}
use Rattle.model.proofs.Answers.{unrecorded}
use Rattle.plans.specs.Plan.{Refused, Recorded, plan_started, plan_of}

-- Refused by 1 to 4 or 6, which are not recorded; recorded and not started; or started.
pub data PlanCase (c : Controller) (f : Flash) (o : Operation) (b : List ℕ) : Type 0 where
  refuses : (a : Answer) → accepts a ≡ false → is_recorded (number_of a) ≡ false → plan_of c f o b ≡ Refused a → PlanCase c f o b
  records : starts o (operation_answer c.setup o) ≡ false → plan_of c f o b ≡ Recorded (operation_answer c.setup o) → PlanCase c f o b
  begins : accepts (whole_answer c f) ≡ true → short_buffer o b ≡ false → starts o (operation_answer c.setup o) ≡ true
      → plan_of c f o b ≡ plan_started c.setup o (operation_answer c.setup o) → PlanCase c f o b

-- No refusal of 1 to 4 is recorded.
pub early_unrecorded : (c : Controller) (f : Flash) → is_recorded (number_of (whole_answer c f)) ≡ false
unfolding whole_answer
early_unrecorded c f = unrecorded (valid_with c f) c.phase (is_busy c.progress || not (both_empty c.queues))

pub plan_case : (c : Controller) (f : Flash) (o : Operation) (b : List ℕ) → PlanCase c f o b
unfolding plan_of
plan_case c f o b =
    by_test (accepts (whole_answer c f))
    (λ free.
    by_test (short_buffer o b) (λ short. refuses (Err ShortBuffer) refl refl (rw (free, short)))
    (λ room.
    by_test (starts o (operation_answer c.setup o)) (λ s. begins free room s (rw (free, room, s))) (λ n. records n (rw (free, room, n)))))
    (λ n. refuses (whole_answer c f) n (early_unrecorded c f) (rw n))
