-- A step keeps a valid state valid. Assumes nothing.
use Rattle.std.specs.Prelude.{None, Some}
use Prim.Native.Nat.{ℕ, ◌+◌, ◌<◌}
use native.Mathlib.Omega.{arith}
use mathlib.Core.Path.{◌≡◌}
use mathlib.Core.Bool.{true, false}
use lib.Dec.{eqb}
use borrow.Author.Tests.{leb-true, leb-false, le-leb, eqb-true, eqb-false, eq-eqb}
use Rattle.model.specs.Places.{total_words}
use Rattle.model.specs.Queue.{is_empty, popped}
use Rattle.model.specs.State.{Flash, is_ready, with_programs, operation_of, moved_of}
use Rattle.model.specs.Refusals.{accepts, ready_answer}
use Rattle.model.specs.Steps.{stalls, progressed, moved, advance, step_progress, step}
use Rattle.model.specs.Valid.{valid_with, work_fits, running_fits}
use Rattle.model.specs.declared.Queue.{Queue}
use Rattle.model.specs.declared.Queues.{Queues}
use Rattle.model.specs.declared.Work.{Work}
use Rattle.model.specs.declared.Work.TheVariants.{Read, Program, Erase}
use Rattle.model.specs.State.{Progress}
use Rattle.model.specs.declared.Setup.{Setup}
use Rattle.model.specs.declared.Controller.{Controller}
use Rattle.model.proofs.Bool.{by_test}
use Rattle.model.proofs.Places.{moving_words}
use Rattle.model.proofs.QueueLaws.{pop_takes_one}
use Rattle.model.proofs.Answers.{ready_passed}
use Rattle.model.proofs.WorkParts.{at_word, queued_fits, work_parts, other_word}
use Rattle.promises.proofs.Fields.{Valid, ValidQueue, ready_keeps}
use Rattle.promises.proofs.KeepQueues.{pushed_valid, popped_valid}

-- What is in progress after word k of n has moved fits, if the next word does or, after the last, no word is queued.
progressed_fits : (s : Setup) (programs : Queue) (n k : ℕ) (next : Work) → k < n → (k + 1 ≡ n → is_empty programs ≡ true)
    → (k + 1 < n → work_fits s programs next ≡ true) → running_fits s programs (progressed n k next) ≡ true
unfolding running_fits
progressed_fits s programs n k next h last more =
    by_test (eqb (k + 1) n) (λ e. rw e (last (eqb-true (k + 1) n e)))
    (λ e. rw e (more (omega (arith, eqb-false (k + 1) n e))))

module _ (c : Controller) (v : Valid c) (ready : is_ready c.phase ≡ true) (f : Flash) where
  -- A word that moves leaves a valid state, if the queues after it fit and no word is queued after the last,
  moves_keep : (w : Work) (q : Queues) → work_fits c.setup c.queues.programs w ≡ true → ValidQueue q.reads → ValidQueue q.programs
      → (moved_of w + 1 ≡ total_words c.setup.pages (operation_of w) → is_empty q.programs ≡ true)
      → queued_fits q.programs (at_word w (moved_of w + 1)) ≡ true
      → Valid (moved c (total_words c.setup.pages (operation_of w)) (moved_of w) q (at_word w (moved_of w + 1)) 0).controller
  moves_keep w q h qr qp last s =
      let n = total_words c.setup.pages (operation_of w) in
      let p : Progress = progressed n (moved_of w) (at_word w (moved_of w + 1)) in
      ready_keeps c c.phase c.errors q p v ready v.errors qr qp
      (progressed_fits c.setup q.programs n (moved_of w) (at_word w (moved_of w + 1)) (work_parts _ _ w h).left last
      λ l. other_word c.setup c.queues.programs q.programs w (moved_of w + 1) h l s)

  -- as they do for each kind:
  pub advance_keeps : (w : Work) → stalls c.queues w ≡ false → work_fits c.setup c.queues.programs w ≡ true
      → Valid (advance c f w).result.controller
  unfolding advance stalls
  advance_keeps (Read o k r) s h =
      let w = work_parts _ _ (Read o k r) h in
      moves_keep (Read o k r) _ h (pushed_valid c.queues.reads _ v.reads (leb-false 16 c.queues.reads.len s))
      v.programs (λ e. w.queued) w.queued
  advance_keeps (Program o k) s h =
      let w = work_parts _ _ (Program o k) h in
      let words = moving_words c.setup.pages o (omega (arith, eqb-true o.kind 1 w.kind)) in
      let queued = leb-true (k + c.queues.programs.len) o.count w.queued in
      let some = eqb-false c.queues.programs.len 0 s in
      let taken = pop_takes_one c.queues.programs v.programs.holds v.programs.places in
      moves_keep (Program o k) (with_programs c.queues (popped c.queues.programs)) h v.reads
      (popped_valid c.queues.programs v.programs)
      (λ e. eq-eqb (popped c.queues.programs).len 0 (omega arith))
      (le-leb (k + 1 + (popped c.queues.programs).len) o.count (omega (arith, some)))
  advance_keeps (Erase o k) s h =
      let w = work_parts _ _ (Erase o k) h in
      moves_keep (Erase o k) c.queues h v.reads v.programs (λ e. w.queued) w.queued

  -- and so does a step of what is in progress.
  pub progress_keeps : (p : Progress) → running_fits c.setup c.queues.programs p ≡ true → Valid (step_progress c f p).result.controller
  unfolding step_progress running_fits
  progress_keeps None h = v
  progress_keeps (Some w) h =
      by_test (stalls c.queues w) (λ e. rw e v) (λ e. rw e (advance_keeps w e h))

-- So each step keeps a valid state valid.
pub step_keeps : (c : Controller) (f : Flash) → Valid c → Valid (step c f).result.controller
unfolding step
step_keeps c f v =
    by_test (accepts (ready_answer (valid_with c f) c.phase))
    (λ e. rw e (progress_keeps c v (ready_passed (valid_with c f) c.phase e) f c.progress v.running))
    (λ e. rw e v)
