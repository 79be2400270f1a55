-- What a start records and begins: the error record fits, and so does the work. Assumes nothing.
use Prim.Native.Nat.{ℕ, ◌+◌, ◌<◌, ◌≤◌}
use native.Mathlib.Omega.{arith}
use mathlib.Core.Path.{◌≡◌, refl, sym}
use mathlib.Core.Bool.{Bool, true, false, ◌||◌, or-false, or-true, and-false, true≢false}
use lib.Dec.{eqb}
use borrow.Author.Tests.{le-leb, eqb-true, eqb-false, eq-eqb}
use Rattle.model.specs.Kinds.{is_read, is_program, is_page_erase, is_bank_erase, is_information}
use Rattle.model.specs.Places.{total_words}
use Rattle.model.specs.Queue.{is_empty}
use Rattle.model.specs.Rights.{readable_words}
use Rattle.model.specs.Checks.{malformed, operation_answer}
use Rattle.model.specs.Errors.{is_recorded, joined, recorded}
use Rattle.model.specs.Steps.{work_of, starts}
use Rattle.model.specs.Valid.{any_recorded, errors_fit, work_fits}
use Rattle.model.specs.declared.ByteAddress.{ByteAddress}
use Rattle.model.specs.declared.Errors.{Errors}
use Rattle.model.specs.declared.Operation.{Operation}
use Rattle.model.specs.declared.Work.TheVariants.{Read, Program, Erase}
use Rattle.model.specs.declared.Setup.{Setup}
use Rattle.model.specs.declared.Controller.{Controller}
use Rattle.model.proofs.Bool.{by_test}
use Rattle.model.proofs.Checks.{well_formed, count_bound}
use Rattle.model.proofs.Order.{malformed_first}
use Rattle.model.proofs.WorkParts.{work_together}

-- ---- the error record

-- A kind that joins is recorded, whatever the others are.
or_joins : (a m rest rest' : Bool) → (rest ≡ true → rest' ≡ true) → (m || rest) ≡ true → ((a || m) || rest') ≡ true
or_joins true m rest rest' f h = refl
or_joins false true rest rest' f h = refl
or_joins false false rest rest' f h = f h

-- A record that fits still does after an answer.
pub recorded_fits : (n : ℕ) (at : ByteAddress) (e : Errors) → errors_fit e ≡ true → errors_fit (recorded n at e) ≡ true
unfolding recorded
recorded_fits n at e h = by_test (is_recorded n) (λ r. rw r (rw (joins r))) (λ r. rw r h)
  where
    joins : is_recorded n ≡ true → any_recorded (joined n at e) ≡ true
    joins =
        or_joins e.malformed (eqb n 5) _ _
        (or_joins e.range (eqb n 7) _ _
        (or_joins e.window (eqb n 8) _ _ λ r. rw r (or-true e.denied)))

-- ---- the operation that starts

-- An operation that passes check 5 has words.
some_words : (d : ℕ) (o : Operation) → 10 ≤ d → malformed o ≡ false → 0 < total_words d o
unfolding total_words
some_words d o fit h =
    by_test (is_bank_erase o) (λ b. rw b (by_test (is_information o) (λ i. rw i (omega arith)) (λ i. rw i (omega arith))))
    (λ b. rw b (by_test (is_page_erase o) (λ e. rw e (omega arith))
    (λ e. rw e (count_bound o h (omega (arith, (well_formed o h).kind, eqb-false o.kind 2 e, eqb-false o.kind 3 b))).0)))

-- One that starts passes check 5.
pub starts_well : (s : Setup) (o : Operation) → starts o (operation_answer s o) ≡ true → malformed o ≡ false
starts_well s o b =
    by_test (malformed o) (λ e. absurd (true≢false (sym (rw (malformed_first s o e, and-false) at b)))) (λ e. e)

-- If it is neither a read nor a program, it is an erase.
erase_kind : (o : Operation) → o.kind < 4 → is_read o ≡ false → is_program o ≡ false → (is_page_erase o || is_bank_erase o) ≡ true
erase_kind o h r p =
    let not_read = eqb-false o.kind 0 r in
    let not_program = eqb-false o.kind 1 p in
    by_test (is_page_erase o) (λ e. rw e)
    (λ e. rw (e, eq-eqb o.kind 3 (omega (arith, not_read, not_program, eqb-false o.kind 2 e))))

module _ (c : Controller) (o : Operation) (d : 10 ≤ c.setup.pages) (empty : is_empty c.queues.programs ≡ true)
    (s : starts o (operation_answer c.setup o) ≡ true) where
  -- Its first word is one of its words,
  pub first_word : 0 < total_words c.setup.pages o
  first_word = some_words c.setup.pages o d (starts_well c.setup o s)

  -- and so its work fits: a read's,
  pub read_starts : is_read o ≡ true → work_fits c.setup c.queues.programs (Read o 0 (readable_words c.setup o)) ≡ true
  read_starts r = work_together c.setup c.queues.programs (Read o 0 (readable_words c.setup o)) (record {
    kind = r;
    left = first_word;
    asked = rw r at s;
    readable = eq-eqb (readable_words c.setup o) _ refl;
    queued = empty;
  })

  -- a program's,
  pub program_starts : is_read o ≡ false → is_program o ≡ true → work_fits c.setup c.queues.programs (Program o 0) ≡ true
  program_starts r p = work_together c.setup c.queues.programs (Program o 0) (record {
    kind = p;
    left = first_word;
    asked = rw (r, or-false) at s;
    readable = refl;
    queued = le-leb (0 + c.queues.programs.len) o.count (omega (arith, eqb-true c.queues.programs.len 0 empty));
  })

  -- and an erase's.
  pub erase_starts : is_read o ≡ false → is_program o ≡ false → work_fits c.setup c.queues.programs (Erase o 0) ≡ true
  erase_starts r p = work_together c.setup c.queues.programs (Erase o 0) (record {
    kind = erase_kind o (well_formed o (starts_well c.setup o s)).kind r p;
    left = first_word;
    asked = rw (r, or-false) at s;
    readable = refl;
    queued = empty;
  })

  -- So the work of whatever starts fits.
  pub work_starts : work_fits c.setup c.queues.programs (work_of c.setup o) ≡ true
  work_starts =
      by_test (is_read o) (λ r. rw r (read_starts r))
      (λ r. rw r (by_test (is_program o) (λ p. rw p (program_starts r p)) (λ p. rw p (erase_starts r p))))
