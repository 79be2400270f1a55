-- Push and pop keep a valid state valid. Assumes nothing.
use Rattle.std.specs.Prelude.{None, Some, Err}
use Prim.Native.Nat.{ℕ, ◌+◌, ◌<◌}
use native.Mathlib.Omega.{arith}
use mathlib.Core.Path.{◌≡◌, sym, ◌∙◌}
use mathlib.Core.Bool.{true, false, not, or-false, true≢false}
use borrow.Author.Tests.{le-leb}
use Rattle.model.specs.Queue.{is_empty, pushed, popped}
use Rattle.model.specs.State.{is_ready, with_queues, with_reads, with_programs}
use Rattle.model.specs.Refusals.{accepts, check, or_else, ready_answer}
use Rattle.model.specs.Steps.{push_answer, push, pop_answer, pop}
use Rattle.model.specs.Valid.{valid, running_fits}
use Rattle.model.specs.declared.Queue.{Queue}
use Rattle.model.specs.declared.Work.TheVariants.{Read, Program, Erase}
use Rattle.model.specs.State.{Progress}
use Rattle.model.specs.declared.Controller.{Controller}
use Rattle.model.specs.declared.Refusal.TheVariants.{Invalid, QueueEmpty}
use Rattle.model.proofs.QueueLaws.{push_adds_one, push_keeps_its_places, pop_takes_one, pop_keeps_its_places}
use Rattle.model.proofs.Answers.{both_accept, check_passed, ready_passed}
use Rattle.model.proofs.WorkParts.{work_parts, other_word}
use Rattle.model.proofs.Accepting.{push_passed}
use Rattle.promises.proofs.Fields.{Valid, ValidQueue, ready_keeps, settle_keeps}

-- A queue with room is valid after a push,
pub pushed_valid : (q : Queue) (w : ℕ) → ValidQueue q → q.len < 16 → ValidQueue (pushed q w)
pushed_valid q w v h = record {
  places = push_keeps_its_places q w h v.places;
  holds = rw (push_adds_one q w h v.places) (omega arith);
}

-- and every queue after a pop.
pub popped_valid : (q : Queue) → ValidQueue q → ValidQueue (popped q)
popped_valid q v = record {
  places = pop_keeps_its_places q v.holds v.places;
  holds = rw (pop_takes_one q v.holds v.places) (omega arith);
}

-- The program queue has room for a word, and what is in progress fits with one more queued.
pub record Pushable (c : Controller) (p : Progress) : Type 0 where
  pub room : c.queues.programs.len < 16
  pub fits : (q : Queue) → q.len ≡ c.queues.programs.len + 1 → running_fits c.setup c.queues.programs p ≡ true
      → running_fits c.setup q p ≡ true

-- So it is where a push is accepted: it belongs to a program that has words left to push.
pub pushable : (c : Controller) (p : Progress) → accepts (push_answer c p) ≡ true → Pushable c p
unfolding push_answer running_fits
pushable c None h = absurd (true≢false (sym h))
pushable c (Some (Read o k r)) h = absurd (true≢false (sym h))
pushable c (Some (Program o k)) h =
    let (some, room) = push_passed c o k h in
    record {
      room = room;
      fits = λ q e f.
          other_word c.setup c.queues.programs q (Program o k) k f (work_parts _ _ (Program o k) f).left
          (le-leb (k + q.len) o.count (omega arith));
    }
pushable c (Some (Erase o k)) h = absurd (true≢false (sym h))

module _ (c : Controller) (v : Valid c) where
  -- Push keeps a valid state valid,
  pub push_keeps : (w : ℕ) → Valid (push c w).controller
  unfolding push
  push_keeps w =
      settle_keeps c (with_queues c (with_programs c.queues (pushed c.queues.programs w)))
      (or_else (ready_answer (valid c) c.phase) (push_answer c c.progress)) v λ h.
      let (r, a) = both_accept (ready_answer (valid c) c.phase) _ h in
      let p = pushable c c.progress a in
      ready_keeps c c.phase c.errors (with_programs c.queues (pushed c.queues.programs w)) c.progress v
      (ready_passed (valid c) c.phase r) v.errors v.reads
      (pushed_valid c.queues.programs w v.programs p.room)
      (p.fits _ (push_adds_one _ w p.room v.programs.places) v.running)

  -- and so does pop.
  pub pop_keeps : Valid (pop c).controller
  unfolding pop pop_answer
  pop_keeps =
      settle_keeps c (with_queues c (with_reads c.queues (popped c.queues.reads))) (pop_answer c) v λ h.
      let b = (both_accept (check (not (valid c)) (Err Invalid)) _ h).1 in
      let some : is_empty c.queues.reads ≡ false = check_passed _ QueueEmpty b in
      let ready : is_ready c.phase ≡ true = sym (or-false (is_ready c.phase)) ∙ (rw some at v.closed) in
      ready_keeps c c.phase c.errors (with_reads c.queues (popped c.queues.reads)) c.progress v
      ready v.errors (popped_valid c.queues.reads v.reads) v.programs v.running
