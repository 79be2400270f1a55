-- A controller that has started an operation and moved some of its words: what each call makes of it. Assumes nothing.
use Rattle.std.specs.Prelude.{None, Some, Err}
use Prim.Native.Nat.{ℕ, ◌+◌, ◌<◌, ◌≤◌}
use native.Mathlib.Omega.{arith}
use mathlib.Core.Path.{◌≡◌, refl, sym, ap, ◌∙◌}
use mathlib.Core.Bool.{true, false, cond, true≢false}
use mathlib.Core.Logic.{⊎_elim}
use lib.Dec.{eqb}
use borrow.Author.Tests.{leb-true, le-leb, eqb-true, eqb-false, eq-eqb, ne_eqb}
use Rattle.model.specs.Kinds.{is_program}
use Rattle.model.specs.Places.{total_words}
use Rattle.model.specs.Queue.{is_empty, pushed, oldest, popped}
use Rattle.model.specs.State.{Flash, flash_fits, is_busy, with_errors, with_queues, with_reads, with_programs, operation_of}
use Rattle.model.specs.Refusals.{number_of, accepts, ready_answer, refused}
use Rattle.model.specs.Checks.{operation_answer}
use Rattle.model.specs.Errors.{with_recorded}
use Rattle.model.specs.Valid.{errors_fit, work_fits, running_fits, valid, valid_with}
use Rattle.model.specs.Steps.{starts, work_of, start, stalls, advance, still, push_answer, push, pop_answer, pop, step}
use Rattle.model.specs.declared.Errors.{Errors}
use Rattle.model.specs.declared.Queue.{Queue}
use Rattle.model.specs.declared.Queues.{Queues}
use Rattle.model.specs.declared.Operation.{Operation}
use Rattle.model.specs.declared.Work.{Work}
use Rattle.model.specs.declared.Work.TheVariants.{Read, Program, Erase}
use Rattle.model.specs.State.{Progress}
use Rattle.model.specs.declared.Controller.{Controller}
use Rattle.model.specs.declared.Movement.TheVariants.{Stalled}
use Rattle.model.specs.Refusals.{Answer}
use Rattle.model.specs.Refusals.{accepted}
use Rattle.model.specs.declared.Refusal.TheVariants.{QueueEmpty, Unexpected}
use Rattle.model.proofs.Bool.{which}
use Rattle.model.proofs.Places.{moving_words}
use Rattle.model.proofs.Answers.{ready_accepts}
use Rattle.model.proofs.Valid.{changed, valid_parts}
use Rattle.model.proofs.WorkParts.{at_word, queued_fits, WorkParts, work_parts, other_word}
use Rattle.model.proofs.Accepting.{step_idle, step_stalled, step_advances, push_refused, push_accepted}
use Rattle.model.proofs.Free.{Free, free_start}

-- ---- the state

-- What is in progress after k words of n.
abbrev pub progress_at : Work → ℕ → ℕ → Progress
progress_at w n k = cond (eqb k n) None (Some (at_word w k))

-- The words of the operation.
abbrev pub words_of : Controller → Work → ℕ
words_of c w = total_words c.setup.pages (operation_of w)

-- The error record is the start's; k words have moved, and these are the queues.
unfoldable pub state_at : Controller → Errors → Work → ℕ → Queues → Controller
state_at c es w k q = changed c c.phase es q (progress_at w (words_of c w) k)

-- The error record that a start leaves: its answer is recorded.
abbrev pub recorded_by : Controller → Operation → Errors
recorded_by c o = (with_recorded c (number_of (operation_answer c.setup o)) o).errors

-- Of work that a free controller starts,
pub record Begun (c : Controller) (es : Errors) (w : Work) : Type 0 where
  pub free : Free c
  pub errors : errors_fit es ≡ true
  pub work : work_fits c.setup c.queues.programs w ≡ true

-- the queues that can be there after k words.
pub record Queued (c : Controller) (w : Work) (k : ℕ) (q : Queues) : Type 0 where
  pub upto : k ≤ words_of c w
  pub reads : q.reads.len ≤ 16
  pub programs : q.programs.len ≤ 16
  pub queued : queued_fits q.programs (at_word w k) ≡ true

-- After the last word no word is left to program.
all_moved : (c : Controller) (w : Work) (q : Queue) → WorkParts c.setup c.queues.programs w → queued_fits q (at_word w (words_of c w)) ≡ true → is_empty q ≡ true
all_moved c (Read o k r) q p h = h
all_moved c (Program o k) q p h =
    let n = moving_words c.setup.pages o (omega (arith, eqb-true o.kind 1 p.kind)) in
    let l = leb-true (total_words c.setup.pages o + q.len) o.count h in
    eq-eqb q.len 0 (omega arith)
all_moved c (Erase o k) q p h = h

-- A start comes to it, with no word moved;
pub at_start : (c : Controller) (o : Operation) (w : Work) → Free c → starts o (operation_answer c.setup o) ≡ true → work_of c.setup o ≡ w
    → at_word w 0 ≡ w → 0 < words_of c w
    → start c o ≡ record { controller = state_at c (recorded_by c o) w 0 c.queues; answer = operation_answer c.setup o }
unfolding state_at
at_start c o w v s e a some =
    free_start c o v ∙ rw (s, e, ne_eqb 0 (words_of c w) (λ z. omega arith), a)

-- and with all of them moved nothing is in progress.
pub at_end : (c : Controller) (es : Errors) (w : Work) (q : Queues) → Free c
    → state_at c es w (words_of c w) q ≡ with_queues (with_errors c es) q
unfolding state_at
at_end c es w q v = rw (eq-eqb (words_of c w) (words_of c w) refl, v.idle)

-- Only then.
pub idle_all : (c : Controller) (es : Errors) (w : Work) (k : ℕ) (q : Queues) → (state_at c es w k q).progress ≡ None → k ≡ words_of c w
unfolding state_at
idle_all c es w k q h =
    ⊎_elim (eqb-true k (words_of c w)) (λ e. absurd (true≢false (ap is_busy (rw e at h)))) (which (eqb k (words_of c w)))

-- ---- it is valid, so no call is refused with 1, 2 or 3

module _ {c : Controller} {es : Errors} {w : Work} {k : ℕ} {q : Queues} (b : Begun c es w) (h : Queued c w k q) where
  -- What is in progress fits,
  running_at : running_fits c.setup q.programs (progress_at w (words_of c w) k) ≡ true
  unfolding running_fits
  running_at =
      ⊎_elim (λ e.
      let l : queued_fits q.programs (at_word w (words_of c w)) ≡ true = rw (eqb-true k (words_of c w) e) at h.queued in
      rw e (all_moved c w q.programs (work_parts _ _ w b.work) l))
      (λ e.
      rw e (other_word _ _ q.programs w k b.work (omega (arith, h.upto, eqb-false k (words_of c w) e)) h.queued))
      (which (eqb k (words_of c w)))

  -- and so does the rest.
  valid_at : valid (state_at c es w k q) ≡ true
  unfolding state_at valid
  valid_at =
      let v = valid_parts c b.free.fits in
      rw (
        v.pages,
        v.settings,
        b.errors,
        le-leb q.reads.len 16 h.reads,
        le-leb q.programs.len 16 h.programs,
        b.free.ready,
        v.physical,
        running_at,
      )

  -- So checks 1 to 3 accept,
  ready_at : accepts (ready_answer (valid (state_at c es w k q)) (state_at c es w k q).phase) ≡ true
  unfolding state_at
  ready_at = rw valid_at (ready_accepts c.phase b.free.ready)

  -- with a flash that fits too.
  ready_with : (g : Flash) → flash_fits c.setup.pages g ≡ true
      → accepts (ready_answer (valid_with (state_at c es w k q) g) (state_at c es w k q).phase) ≡ true
  unfolding state_at valid_with
  ready_with g e =
      rw (valid_at, e) (ready_accepts c.phase b.free.ready)

  -- ---- pop

  -- It takes the oldest word,
  pub pops : is_empty q.reads ≡ false
      → pop (state_at c es w k q) ≡ record { controller = state_at c es w k (with_reads q (popped q.reads)); answer = accepted; word = oldest q.reads }
  unfolding state_at pop pop_answer
  pops e = simp (valid_at, e)

  -- if there is one.
  pub pops_none : is_empty q.reads ≡ true
      → pop (state_at c es w k q) ≡ record { controller = state_at c es w k q; answer = Err QueueEmpty; word = 0 }
  unfolding state_at pop pop_answer
  pops_none e = simp (valid_at, e)

  -- ---- step

  -- After the last word it is refused.
  pub steps_done : (g : Flash) → flash_fits c.setup.pages g ≡ true → k ≡ words_of c w
      → step (state_at c es w k q) g ≡ still (state_at c es w k q) (Err Unexpected) None g
  unfolding state_at
  steps_done g l e = sym (step_idle (state_at c es w k q) g (ready_with g l) (rw (eq-eqb k (words_of c w) e)))

  -- Before it,
  module _ (g : Flash) (l : flash_fits c.setup.pages g ≡ true) (more : k < words_of c w) where
    -- the operation is in progress,
    running : (state_at c es w k q).progress ≡ Some (at_word w k)
    unfolding state_at
    running = rw (ne_eqb k (words_of c w) (λ e. omega arith))

    -- so that a step waits
    pub steps_wait : stalls q (at_word w k) ≡ true → step (state_at c es w k q) g ≡ still (state_at c es w k q) accepted (Some Stalled) g
    unfolding state_at
    steps_wait s = sym (step_stalled (state_at c es w k q) g (at_word w k) (ready_with g l) running s)

    -- or moves a word.
    pub steps_move : stalls q (at_word w k) ≡ false → step (state_at c es w k q) g ≡ advance (state_at c es w k q) g (at_word w k)
    unfolding state_at
    steps_move s = sym (step_advances (state_at c es w k q) g (at_word w k) (ready_with g l) running s)

-- ---- push

-- Check 12 refuses it unless what is in progress is a program.
unexpected : (c x : Controller) (w : Work) (n k : ℕ) → is_program (operation_of w) ≡ false → WorkParts c.setup c.queues.programs w
    → push_answer x (progress_at w n k) ≡ Err Unexpected
unfolding push_answer
unexpected c x (Read o i r) n k e p = ⊎_elim (λ t. rw t) (λ t. rw t) (which (eqb k n))
unexpected c x (Program o i) n k e p = absurd (true≢false (sym p.kind ∙ e))
unexpected c x (Erase o i) n k e p = ⊎_elim (λ t. rw t) (λ t. rw t) (which (eqb k n))

module _ {c : Controller} {es : Errors} {w : Work} {k : ℕ} {q : Queues} (b : Begun c es w) (h : Queued c w k q) (v : ℕ) where
  -- It is refused as checks 12 and 11 say,
  pub pushes_refused : (a : Answer) → accepts a ≡ false → push_answer (state_at c es w k q) (progress_at w (words_of c w) k) ≡ a
      → push (state_at c es w k q) v ≡ refused (state_at c es w k q) a
  unfolding state_at
  pushes_refused a n e = sym (push_refused (state_at c es w k q) v a (ready_at b h) e n)

  -- or its word joins the queue;
  pub pushes : push_answer (state_at c es w k q) (progress_at w (words_of c w) k) ≡ accepted
      → push (state_at c es w k q) v ≡ record { controller = state_at c es w k (with_programs q (pushed q.programs v)); answer = accepted }
  unfolding state_at
  pushes e = sym (push_accepted (state_at c es w k q) v (ready_at b h) e)

  -- and it is always refused if there is no program.
  pub pushes_unexpected : is_program (operation_of w) ≡ false → push (state_at c es w k q) v ≡ refused (state_at c es w k q) (Err Unexpected)
  pushes_unexpected e =
      pushes_refused (Err Unexpected) refl (unexpected c (state_at c es w k q) w (words_of c w) k e (work_parts _ _ w b.work))
