-- What start and step leave, and when. Assumes nothing.
use Rattle.std.specs.Prelude.{None, Some, Err}
use Prim.Native.Nat.{ℕ}
use mathlib.Core.Path.{◌≡◌, refl, ap}
use mathlib.Core.Bool.{true, false}
use Rattle.model.specs.Words.{all_ones, programmed}
use Rattle.model.specs.Kinds.{is_read}
use Rattle.model.specs.Places.{place_of}
use Rattle.model.specs.Queue.{oldest}
use Rattle.model.specs.State.{Flash, Leaves, stored, with_word}
use Rattle.model.specs.Rights.{readable_words}
use Rattle.model.specs.Refusals.{number_of, accepts, ready_answer, refused}
use Rattle.model.specs.Checks.{operation_answer}
use Rattle.model.specs.Valid.{valid_with}
use Rattle.model.specs.Steps.{start_answer, work_of, started, start, stalls, advance, still, step_progress, step}
use Rattle.model.specs.declared.Operation.{Operation}
use Rattle.model.specs.declared.Work.{Work}
use Rattle.model.specs.declared.Work.TheVariants.{Read, Program, Erase}
use Rattle.model.specs.State.{Progress}
use Rattle.model.specs.declared.Setup.{Setup}
use Rattle.model.specs.declared.Controller.{Controller}
use Rattle.model.specs.declared.Movement.TheVariants.{Stalled}
use Rattle.model.specs.Refusals.{Answer}
use Rattle.model.specs.declared.Stepped.{Stepped}
use Rattle.model.specs.Refusals.{accepted}
use Rattle.model.specs.declared.Refusal.TheVariants.{Unexpected}
use Rattle.model.proofs.Bool.{by_test}
use Rattle.model.proofs.Answers.{ready_accepts}
use Rattle.model.proofs.Moving.{busy_ready, with_valid}

-- ---- start

-- A read starts with its readable words.
pub read_work : (s : Setup) (o : Operation) → is_read o ≡ true → work_of s o ≡ Read o 0 (readable_words s o)
read_work s o h = rw h

module _ (c : Controller) (o : Operation) where
  -- A start goes on to checks 5, 7, 8 and 9, or stops before them.
  pub start_goes_on : accepts (start_answer c) ≡ true → start c o ≡ started c o (operation_answer c.setup o)
  unfolding start
  start_goes_on h = rw h

  pub start_stops : accepts (start_answer c) ≡ false → start c o ≡ refused c (start_answer c)
  unfolding start
  start_stops h = rw h

-- ---- steps

module _ (c : Controller) (f : Flash) where
  -- A step steps what is in progress, or is refused with 1 to 3.
  pub step_ready : {p : Progress} → accepts (ready_answer (valid_with c f) c.phase) ≡ true → c.progress ≡ p
      → step c f ≡ step_progress c f p
  unfolding step
  step_ready h e = rw h (ap (step_progress c f) e)

  pub step_unready : accepts (ready_answer (valid_with c f) c.phase) ≡ false
      → step c f ≡ still c (ready_answer (valid_with c f) c.phase) None f
  unfolding step
  step_unready h = rw h

  -- A step of what is in progress is never refused,
  pub advance_accepts : (w : Work) → (advance c f w).result.answer ≡ accepted
  unfolding advance
  advance_accepts (Read o k readable) = refl
  advance_accepts (Program o k) = refl
  advance_accepts (Erase o k) = refl

  pub running_accepts : (w : Work) → (step_progress c f (Some w)).result.answer ≡ accepted
  unfolding step_progress
  running_accepts w = by_test (stalls c.queues w) (λ e. rw e) (λ e. rw e (advance_accepts w))

  -- so a refused step leaves all as it was.
  progress_refused : (p : Progress) → (number_of (step_progress c f p).result.answer ≡ 0 → ⊥)
      → step_progress c f p ≡ still c (step_progress c f p).result.answer None f
  unfolding step_progress
  progress_refused None h = refl
  progress_refused (Some w) h = absurd (h (ap number_of (running_accepts w)))

  pub step_refused : (number_of (step c f).result.answer ≡ 0 → ⊥) → step c f ≡ still c (step c f).result.answer None f
  step_refused h =
      by_test (accepts (ready_answer (valid_with c f) c.phase))
      (λ e. let go = step_ready e refl in rw go (progress_refused c.progress (rw go at h)))
      (λ e. rw (step_unready e))

  -- What a valid state has in progress can be stepped.
  pub busy_steps : (w : Work) → valid_with c f ≡ true → c.progress ≡ Some w → step c f ≡ step_progress c f (Some w)
  busy_steps w h e = step_ready (rw h (ready_accepts c.phase (busy_ready c w (with_valid c f h) e))) e

  -- Whatever holds where a step is refused, where it waits and where it moves a word, holds of every step.
  pub by_step : (P : Leaves Stepped → Type 0) → ((a : Answer) → accepts a ≡ false → P (still c a None f)) → P (still c accepted (Some Stalled) f)
      → ((w : Work) → P (advance c f w)) → P (step c f)
  unfolding step_progress
  by_step P refuses waits moves =
      by_test (accepts (ready_answer (valid_with c f) c.phase))
      (λ e. rw (step_ready e refl) (in_progress c.progress))
      (λ e. rw (step_unready e) (refuses (ready_answer (valid_with c f) c.phase) e))
    where
      in_progress : (p : Progress) → P (step_progress c f p)
      in_progress None = refuses (Err Unexpected) refl
      in_progress (Some w) = by_test (stalls c.queues w) (λ t. rw t waits) (λ t. rw t (moves w))

-- ---- the flash after a step

-- A step leaves the flash as it was, programs a word, or erases one.
pub data StepLeaves (c : Controller) (f : Flash) : Type 0 where
  same : (step c f).flash ≡ f → StepLeaves c f
  programs : (o : Operation) (k : ℕ) → c.progress ≡ Some (Program o k)
      → (step c f).flash
      ≡ with_word f (place_of c.setup.pages o k) (programmed (stored f (place_of c.setup.pages o k)) (oldest c.queues.programs))
      → StepLeaves c f
  erases : (o : Operation) (k : ℕ) → c.progress ≡ Some (Erase o k)
      → (step c f).flash ≡ with_word f (place_of c.setup.pages o k) all_ones → StepLeaves c f

-- By what is in progress,
by_work : (c : Controller) (f : Flash) (w : Work) → c.progress ≡ Some w → (step c f).flash ≡ (advance c f w).flash → StepLeaves c f
unfolding advance
by_work c f (Read o k readable) e h = same h
by_work c f (Program o k) e h = programs o k e h
by_work c f (Erase o k) e h = erases o k e h

by_progress : (c : Controller) (f : Flash) (p : Progress) → c.progress ≡ p → step c f ≡ step_progress c f p → StepLeaves c f
unfolding step_progress
by_progress c f None e h = same (rw h)
by_progress c f (Some w) e h =
    by_test (stalls c.queues w) (λ t. same (rw (h, t))) (λ t. by_work c f w e (rw (h, t)))

pub step_leaves : (c : Controller) (f : Flash) → StepLeaves c f
step_leaves c f =
    by_test (accepts (ready_answer (valid_with c f) c.phase))
    (λ t. by_progress c f c.progress refl (step_ready c f t refl))
    (λ t. same (rw (step_unready c f t)))
