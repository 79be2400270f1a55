-- An operation in progress whose partition and type are bytes keeps them, whatever is called. Assumes nothing.
use Rattle.std.specs.Prelude.{None, Some}
use Prim.Native.Nat.{ℕ, ◌+◌, ◌≤◌}
use native.Mathlib.Omega.{arith}
use mathlib.Core.Path.{◌≡◌, refl}
use mathlib.Core.Bool.{true, false, ◌&&◌}
use lib.Dec.{eqb}
use borrow.Author.Tests.{ltb-false, le-leb}
use Rattle.model.specs.Kinds.{is_read, is_program, no_kind, no_partition}
use Rattle.model.specs.Places.{total_words}
use Rattle.model.specs.State.{Flash}
use Rattle.model.specs.Refusals.{accepts, is_denied, ready_answer}
use Rattle.model.specs.Checks.{malformed, operation_answer}
use Rattle.model.specs.Steps.{work_of, starts, start_answer, start, stalls, progressed, advance, step_progress, step}
use Rattle.model.specs.Valid.{valid_with}
use Rattle.model.specs.declared.Operation.{Operation}
use Rattle.model.specs.declared.Work.{Work}
use Rattle.model.specs.declared.Work.TheVariants.{Read, Program, Erase}
use Rattle.model.specs.State.{Progress}
use Rattle.model.specs.declared.Setup.{Setup}
use Rattle.model.specs.declared.Controller.{Controller}
use Rattle.model.proofs.Bool.{and_right, or_left, or_right, by_test}
use Rattle.model.proofs.Answers.{asked_in_range}
use Rattle.registers.proofs.Stored.{bytes, as_bytes}

pub record Bytes (p : Progress) : Type 0 where
  pub are : as_bytes p ≡ true

-- ---- start

-- What starts is well formed, so that its partition is 0 or 1.
starts_formed : (s : Setup) (o : Operation) → starts o (operation_answer s o) ≡ true → malformed o ≡ false
starts_formed s o t =
    by_test (accepts (operation_answer s o)) (λ a. (asked_in_range s o (rw a)).0)
    (λ a.
    let both : (is_read o && is_denied (operation_answer s o)) ≡ true = rw a at t in
    (asked_in_range s o (rw (a, and_right (is_read o) _ both))).0)

formed_bytes : (o : Operation) → malformed o ≡ false → o.info ≤ 255 → bytes o ≡ true
unfolding malformed
formed_bytes o h small =
    let partition : o.partition ≤ 1 = ltb-false 1 o.partition (or_left (no_partition o) _ (or_right (no_kind o) _ h)) in
    rw (le-leb o.partition 255 (omega arith)) (le-leb o.info 255 small)

work_bytes : (s : Setup) (o : Operation) → bytes o ≡ true → Bytes (Some (work_of s o))
work_bytes s o h =
    by_test (is_read o) (λ r. rw r (record { are = h }))
    (λ r. rw r (by_test (is_program o) (λ p. rw p (record { are = h })) (λ p. rw p (record { are = h }))))

pub start_bytes : (c : Controller) (o : Operation) → o.info ≤ 255 → Bytes c.progress → Bytes (start c o).controller.progress
unfolding start
start_bytes c o small b =
    by_test (accepts (start_answer c))
    (λ a. rw a (
    by_test (starts o (operation_answer c.setup o))
    (λ t. rw t (work_bytes c.setup o (formed_bytes o (starts_formed c.setup o t) small)))
    (λ t. rw t b)))
    (λ a. rw a b)

-- ---- step

progressed_bytes : (n k : ℕ) (w : Work) → Bytes (Some w) → Bytes (progressed n k w)
progressed_bytes n k w h = by_test (eqb (k + 1) n) (λ e. rw e (record { are = refl })) (λ e. rw e h)

module _ (c : Controller) (f : Flash) where
  advance_bytes : (w : Work) → Bytes (Some w) → Bytes (advance c f w).result.controller.progress
  unfolding advance
  advance_bytes (Read o k r) h = progressed_bytes (total_words c.setup.pages o) k (Read o (k + 1) r) (record { are = h.are })
  advance_bytes (Program o k) h = progressed_bytes (total_words c.setup.pages o) k (Program o (k + 1)) (record { are = h.are })
  advance_bytes (Erase o k) h = progressed_bytes (total_words c.setup.pages o) k (Erase o (k + 1)) (record { are = h.are })

  progress_bytes : (p : Progress) → Bytes p → Bytes c.progress → Bytes (step_progress c f p).result.controller.progress
  unfolding step_progress
  progress_bytes None h b = b
  progress_bytes (Some w) h b = by_test (stalls c.queues w) (λ e. rw e b) (λ e. rw e (advance_bytes w h))

  pub step_bytes : Bytes c.progress → Bytes (step c f).result.controller.progress
  unfolding step
  step_bytes b = by_test (accepts (ready_answer (valid_with c f) c.phase)) (λ e. rw e (progress_bytes c.progress b b)) (λ e. rw e b)
