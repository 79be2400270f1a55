-- What a pop leaves, by the tests that it makes. Assumes nothing.
use Rattle.std.specs.Prelude.{Err}
use Prim.Native.Nat.{ℕ, ◌<◌, ◌≤◌}
use native.Mathlib.Omega.{arith}
use mathlib.Core.Path.{◌≡◌, refl, ap, sym, subst, ◌∙◌}
use mathlib.Core.Bool.{true, false, not}
use mathlib.Core.List.{List}
use borrow.Author.Tests.{eqb-false, not-false}
use Rattle.model.specs.Valid.{valid}
use Rattle.model.specs.Queue.{is_empty, oldest, popped}
use Rattle.model.specs.Refusals.{accepted, check, refusal_number}
use Rattle.model.specs.declared.Refusal.{Refusal}
use Rattle.model.specs.declared.Refusal.TheVariants.{Invalid, QueueEmpty}
use Rattle.model.specs.Steps.{pop, pop_answer}
use Rattle.model.proofs.Answers.{refused_first, check_passed}
use Rattle.model.specs.declared.Controller.{Controller}
use Rattle.model.proofs.Moving.{queue_bounds}
use Rattle.model.proofs.QueueLaws.{pop_keeps_its_places}
use Rattle.registers.specs.Layout.{reads_from}
use Rattle.registers.specs.Registers.{decode, stands_for, queue_at, put_queue}
use Rattle.registers.proofs.Kept.{valid_encoded}
use Rattle.registers.proofs.Written.{put_reads}
use Rattle.calls.specs.Calls.{word_left, pop_in}
use Rattle.validity.proofs.Taken.{taken_stands}

pub pop_invalid : (s : List ℕ) {e : Refusal} → check (not (valid (decode s))) (Err Invalid) ≡ Err e → record { told = record { answer = refusal_number e; word = 0 }; registers = s } ≡ pop_in s
unfolding pop_in pop pop_answer
pop_invalid s h = rw (sym (refused_first (check (is_empty (decode s).queues.reads) (Err QueueEmpty)) h))

module _ (s : List ℕ) (passed : check (not (valid (decode s))) (Err Invalid) ≡ accepted) where
  h : valid (decode s) ≡ true
  h = not-false _ (check_passed _ Invalid (rw passed))

  same : decode s ≡ stands_for s
  same = taken_stands s h

  fits : valid (stands_for s) ≡ true
  fits = subst (λ (c : Controller). valid c ≡ true) same h

  reads_bound : (queue_at s reads_from).len ≤ 16
  unfolding stands_for
  reads_bound = (queue_bounds (stands_for s) fits).0

  by_pop : word_left s (pop (stands_for s)) ≡ pop_in s
  unfolding pop_in
  by_pop = ap (λ (c : Controller). word_left s (pop c)) (sym same)

  none : {e : Refusal} → check (is_empty (queue_at s reads_from)) (Err QueueEmpty) ≡ Err e → record { told = record { answer = refusal_number e; word = 0 }; registers = s } ≡ word_left s (pop (stands_for s))
  unfolding pop pop_answer stands_for
  none e = rw (fits, e)

  pub pop_none : {e : Refusal} → check (is_empty (queue_at s reads_from)) (Err QueueEmpty) ≡ Err e
      → record { told = record { answer = refusal_number e; word = 0 }; registers = s } ≡ pop_in s
  pop_none e = none e ∙ by_pop

  module _ (holds : check (is_empty (queue_at s reads_from)) (Err QueueEmpty) ≡ accepted) where
    held : is_empty (queue_at s reads_from) ≡ false
    held = check_passed _ QueueEmpty (rw holds)

    pub reads_some : (0 < (queue_at s reads_from).len) × ((queue_at s reads_from).len ≤ 16)
    reads_some = (omega (arith, eqb-false (queue_at s reads_from).len 0 held), reads_bound)

    some : record { told = record { answer = 0; word = oldest (queue_at s reads_from) }; registers = put_queue s reads_from (popped (queue_at s reads_from)) } ≡ word_left s (pop (stands_for s))
    unfolding pop pop_answer stands_for
    some =
        simp (fits, held, put_reads s (valid_encoded s h) (popped (queue_at s reads_from)) (pop_keeps_its_places (queue_at s reads_from) reads_bound refl))

    pub pop_takes : {w : ℕ} {t : List ℕ} → w ≡ oldest (queue_at s reads_from) → t ≡ put_queue s reads_from (popped (queue_at s reads_from))
        → record { told = record { answer = 0; word = w }; registers = t } ≡ pop_in s
    pop_takes e u = rw (e, u) (some ∙ by_pop)
