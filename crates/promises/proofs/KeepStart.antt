-- A start keeps a valid state valid. Assumes nothing.
use mathlib.Core.Path.{◌≡◌}
use mathlib.Core.Bool.{true, false}
use Rattle.model.specs.State.{is_busy}
use Rattle.model.specs.Refusals.{accepts, ready_answer, number_of}
use Rattle.model.specs.Checks.{operation_answer}
use Rattle.model.specs.Errors.{recorded, error_address}
use Rattle.model.specs.Steps.{start_answer, starts, progress_after, started, start}
use Rattle.model.specs.Valid.{running_fits, valid}
use Rattle.model.specs.declared.Operation.{Operation}
use Rattle.model.specs.State.{Progress}
use Rattle.model.specs.declared.Controller.{Controller}
use Rattle.model.specs.declared.Refusal.TheVariants.{Busy}
use Rattle.model.proofs.Bool.{by_test}
use Rattle.model.proofs.Order.{pages_bound}
use Rattle.model.proofs.Answers.{both_accept, check_passed, ready_passed}
use Rattle.model.proofs.Starting.{recorded_fits, work_starts}
use Rattle.promises.proofs.Fields.{Valid, together, ready_keeps, idle_empty}

-- What is in progress after a start with nothing in progress fits.
progress_after_lem : (c : Controller) (o : Operation) → Valid c → is_busy c.progress ≡ false
    → running_fits c.setup c.queues.programs (progress_after c o (operation_answer c.setup o)) ≡ true
unfolding running_fits
progress_after_lem c o v idle =
    let empty = idle_empty c.setup c.queues.programs c.progress idle v.running in
    let d = (pages_bound c (together c v).1).0 in
    by_test (starts o (operation_answer c.setup o)) (λ s. rw s (work_starts c o d empty s)) (λ s. rw s v.running)

-- So a start keeps a valid state valid.
pub start_keeps : (c : Controller) (o : Operation) → Valid c → Valid (start c o).controller
unfolding start start_answer
start_keeps c o v = by_test (accepts (start_answer c)) (λ a. rw a (begun a)) (λ a. rw a v)
  where
    begun : accepts (start_answer c) ≡ true → Valid (started c o (operation_answer c.setup o)).controller
    begun a =
        let (r, b) = both_accept (ready_answer (valid c) c.phase) _ a in
        let n = number_of (operation_answer c.setup o) in
        let at = error_address c.setup n o in
        let p : Progress = progress_after c o (operation_answer c.setup o) in
        ready_keeps c c.phase (recorded n at c.errors) c.queues p v (ready_passed (valid c) c.phase r)
        (recorded_fits n at c.errors v.errors) v.reads v.programs
        (progress_after_lem c o v (check_passed (is_busy c.progress) Busy b))
