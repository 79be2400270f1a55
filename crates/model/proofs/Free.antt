-- Checks 1 to 4 of a whole operation: they accept a controller that is valid, ready and free; and its answer past them. Assumes
-- nothing.
use Rattle.std.specs.Prelude.{None, Some}
use Prim.Native.Nat.{ℕ}
use mathlib.Core.Path.{◌≡◌, refl}
use mathlib.Core.Bool.{true, false, ◌||◌, not, true≢false}
use mathlib.Core.List.{List}
use borrow.Author.Tests.{not-false, eqb-true}
use Rattle.model.specs.Queue.{is_empty}
use Rattle.model.specs.State.{Flash, flash_fits, is_ready, is_busy, with_errors, with_queues}
use Rattle.model.specs.Refusals.{accepts, ready_answer}
use Rattle.model.specs.Checks.{operation_answer}
use Rattle.model.specs.Steps.{start_answer, starts, started, start}
use Rattle.model.specs.Valid.{errors_fit, both_empty, running_fits, valid, valid_with}
use Rattle.model.specs.Whole.{whole_answer, drive}
use Rattle.model.specs.declared.Errors.{Errors}
use Rattle.model.specs.declared.Queues.{Queues}
use Rattle.model.specs.declared.Operation.{Operation}
use Rattle.model.specs.State.{Progress}
use Rattle.model.specs.declared.Controller.{Controller}
use Rattle.model.specs.declared.Outcome.{Outcome}
use Rattle.model.specs.declared.Refusal.TheVariants.{Busy}
use Rattle.model.proofs.Bool.{and_left, and_right, or_left, or_right, by_test}
use Rattle.model.proofs.Answers.{both_accept, check_passed, ready_passed, ready_accepts}
use Rattle.model.proofs.Valid.{valid_parts}
use Rattle.model.proofs.Moving.{with_valid, with_fits}
use Rattle.model.proofs.StepLaws.{start_goes_on}
use Rattle.model.proofs.Accepting.{ready_valid}

-- A state that is valid, ready and free: nothing is in progress, and no word is queued.
pub record Free (c : Controller) : Type 0 where
  pub fits : valid c ≡ true
  pub ready : is_ready c.phase ≡ true
  pub idle : c.progress ≡ None
  pub reads : is_empty c.queues.reads ≡ true
  pub programs : is_empty c.queues.programs ≡ true

not_busy : (p : Progress) → is_busy p ≡ false → p ≡ None
not_busy None h = refl
not_busy (Some w) h = absurd (true≢false h)

-- It is, where these checks accept.
pub whole_free : (c : Controller) (f : Flash) → accepts (whole_answer c f) ≡ true → Free c
unfolding whole_answer
whole_free c f h =
    let (r, b) = both_accept (ready_answer (valid_with c f) c.phase) _ h in
    let free : (is_busy c.progress || not (both_empty c.queues)) ≡ false = check_passed _ Busy b in
    let empty : both_empty c.queues ≡ true = not-false (both_empty c.queues) (or_right (is_busy c.progress) _ free) in
    record {
      fits = with_valid c f (ready_valid (valid_with c f) c.phase r);
      ready = ready_passed (valid_with c f) c.phase r;
      idle = not_busy c.progress (or_left (is_busy c.progress) _ free);
      reads = and_left (is_empty c.queues.reads) _ empty;
      programs = and_right (is_empty c.queues.reads) _ empty;
    }

-- And the flash fits.
pub whole_fits : (c : Controller) (f : Flash) → accepts (whole_answer c f) ≡ true → flash_fits c.setup.pages f ≡ true
unfolding whole_answer
whole_fits c f h =
    with_fits c f (ready_valid (valid_with c f) c.phase (both_accept (ready_answer (valid_with c f) c.phase) _ h).0)

-- A start of a free state comes to checks 5, 7, 8 and 9.
pub free_start : (c : Controller) (o : Operation) → Free c → start c o ≡ started c o (operation_answer c.setup o)
unfolding start_answer
free_start c o v = start_goes_on c o (simp (v.fits, ready_accepts c.phase v.ready, v.idle))

-- A free state stays valid with another error record that fits and other queues that are empty.
pub free_again : (c : Controller) (e : Errors) (q : Queues) → Free c → errors_fit e ≡ true → both_empty q ≡ true
    → valid (with_errors (with_queues c q) e) ≡ true
unfolding valid running_fits
free_again c e q h fits empty =
    let v = valid_parts c h.fits in
    rw (
      h.idle,
      v.pages,
      v.settings,
      fits,
      eqb-true q.reads.len 0 (and_left (is_empty q.reads) _ empty),
      eqb-true q.programs.len 0 (and_right (is_empty q.reads) _ empty),
      h.ready,
      v.physical,
    )

-- ---- a whole operation answers as its start

pub drive_answers : (d : ℕ) (o : Operation) (s : Outcome) (f : Flash) (b : List ℕ) → (drive d o s f b).result.answer ≡ s.answer
unfolding drive
drive_answers d o s f b = by_test (starts o s.answer) (λ t. rw t) (λ t. rw t)
