-- A whole operation leaves a valid state valid, since its calls do. Assumes nothing.
use Prim.Native.Nat.{ℕ, zero, suc}
use mathlib.Core.List.{List}
use Rattle.model.specs.Kinds.{is_read, is_program}
use Rattle.model.specs.Places.{total_words}
use Rattle.model.specs.State.{Flash}
use Rattle.model.specs.Refusals.{accepts}
use Rattle.model.specs.Steps.{starts, start}
use Rattle.model.specs.Whole.{Run, turn, turns, whole_answer, short_buffer, drive, whole}
use Rattle.model.specs.declared.Operation.{Operation}
use Rattle.model.specs.declared.Controller.{Controller}
use Rattle.model.proofs.Bool.{by_test}
use Rattle.promises.proofs.Fields.{Valid}
use Rattle.promises.proofs.KeepQueues.{push_keeps, pop_keeps}
use Rattle.promises.proofs.KeepSteps.{step_keeps}
use Rattle.promises.proofs.KeepStart.{start_keeps}

-- The calls for one word do,
turn_keeps : (o : Operation) (k : ℕ) (r : Run) → Valid r.controller → Valid (turn o k r).controller
unfolding turn
turn_keeps o k r v =
    by_test (is_read o)
    (λ e. rw e (pop_keeps _ (step_keeps r.controller r.flash v)))
    (λ e. rw e (
    by_test (is_program o)
    (λ p. rw p (step_keeps _ r.flash (push_keeps r.controller v _)))
    (λ p. rw p (step_keeps r.controller r.flash v))))

-- and those for n words,
turns_keep : (o : Operation) (n : ℕ) (r : Run) → Valid r.controller → Valid (turns o n r).controller
unfolding turns
turns_keep o zero r v = v
turns_keep o (suc n) r v = turn_keeps o n (turns o n r) (turns_keep o n r v)

-- whatever the checks answer.
pub whole_keeps : (c : Controller) (f : Flash) (o : Operation) (b : List ℕ) → Valid c → Valid (whole c f o b).result.controller
unfolding whole drive
whole_keeps c f o b v =
    by_test (accepts (whole_answer c f))
    (λ a. rw a (
    by_test (short_buffer o b) (λ e. rw e v)
    (λ e. rw e (
    by_test (starts o (start c o).answer)
    (λ s. rw s (turns_keep o (total_words c.setup.pages o) _ (start_keeps c o v)))
    (λ s. rw s (start_keeps c o v))))))
    (λ a. rw a v)
