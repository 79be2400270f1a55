-- What a start leaves, by the tests that it makes. Assumes nothing.
use Rattle.std.specs.Prelude.{None, Some, Err}
use Prim.Native.Nat.{ℕ, ◌≤◌}
use mathlib.Core.Path.{◌≡◌, refl, ap, sym, subst, ◌∙◌}
use mathlib.Core.Bool.{Bool, true, false, cond}
use mathlib.Core.List.{List}
use lib.ListN.{get_or}
use Rattle.model.specs.Kinds.{is_read, is_program}
use Rattle.model.specs.State.{is_busy}
use Rattle.model.specs.Valid.{valid}
use Rattle.model.specs.Refusals.{accepted, accepts, ready_answer, number_of, check, or_else}
use Rattle.model.specs.Rights.{readable_words}
use Rattle.model.specs.Errors.{is_recorded, recorded, error_address}
use Rattle.model.specs.Checks.{operation_answer}
use Rattle.model.specs.Steps.{start_answer, starts, progress_after, started, start}
use Rattle.model.specs.Refusals.{Answer}
use Rattle.model.specs.declared.Refusal.{Refusal}
use Rattle.model.specs.declared.Refusal.TheVariants.{Busy}
use Rattle.model.specs.declared.Operation.{Operation}
use Rattle.model.specs.declared.Work.{Work}
use Rattle.model.specs.declared.Setup.{Setup}
use Rattle.model.specs.declared.Controller.{Controller}
use Rattle.model.proofs.Bool.{by_test}
use Rattle.model.proofs.Answers.{both_accept, check_passed, refused_first, unrecorded, recorded_if_refused}
use Rattle.model.proofs.StepLaws.{start_goes_on, start_stops}
use Rattle.model.proofs.Order.{pages_bound}
use Rattle.model.proofs.Accepting.{ready_valid}
use Rattle.registers.specs.Layout.{running_at}
use Rattle.registers.specs.Registers.{decode, stands_for, is_on, work_at, progress_at, errors_at, put_running, put_progress, put_errors, put}
use Rattle.registers.proofs.Kept.{valid_encoded, itself, parts, progress_kept}
use Rattle.registers.proofs.Written.{put_starting}
use Rattle.calls.specs.Calls.{told_answer, changes, start_in}
use Rattle.validity.proofs.Taken.{taken_stands}
use Rattle.operations.specs.Starting.{Begins}

-- Check 1 comes first, so what is in progress may be read where it lies.
pub start_asked : (s : List ℕ)
    → or_else (ready_answer (valid (decode s)) (decode s).phase) (check (is_busy (progress_at s)) (Err Busy)) ≡ start_answer (decode s)
unfolding start_answer stands_for
start_asked s =
    by_test (valid (decode s))
    (λ t.
    ap (λ (c : Controller). or_else (ready_answer (valid (decode s)) (decode s).phase) (check (is_busy c.progress) (Err Busy)))
    (sym (taken_stands s t)))
    (λ t. rw t)

pub start_unready : (s : List ℕ) {e : Refusal} → ready_answer (valid (decode s)) (decode s).phase ≡ Err e → Err e ≡ start_answer (decode s)
unfolding start_answer
start_unready s h = refused_first _ h

pub start_ready : (s : List ℕ) → ready_answer (valid (decode s)) (decode s).phase ≡ accepted → check (is_busy (progress_at s)) (Err Busy) ≡ start_answer (decode s)
start_ready s h = rw h at (start_asked s)

-- ---- what starts is in progress

busy : (b : Bool) (w : Work) → is_busy (cond b (Some w) None) ≡ b
busy true w = refl
busy false w = refl

module _ {s : List ℕ} {o : Operation} {a : Answer} (b : Begins s o a) where
  off : is_on (get_or s running_at 0) ≡ false
  unfolding stands_for progress_at
  off = sym (busy (is_on (get_or s running_at 0)) (work_at s)) ∙ b.idle

  pub begin_starts : starts o a ≡ true
      → put_running s o 0 (cond (is_read o) (readable_words (stands_for s).setup o) 0) ≡ put_progress s (progress_after (stands_for s) o a)
  begin_starts t =
      by_test (is_read o)
      (λ r. rw (t, r))
      (λ r. by_test (is_program o) (λ p. rw (t, r, p, off)) (λ p. rw (t, r, p, off)))

  pub begin_stays : starts o a ≡ false → s ≡ put_progress s (progress_after (stands_for s) o a)
  unfolding stands_for
  begin_stays t = rw t (sym (progress_kept itself (parts s b.encodes).progress))

  pub begin_records : put_errors (put_progress s (progress_after (stands_for s) o a)) (recorded (number_of a) (error_address (stands_for s).setup (number_of a) o) (errors_at s))
      ≡ put s (started (stands_for s) o a).controller
  unfolding stands_for
  begin_records = sym (put_starting s b.encodes _ (progress_after (stands_for s) o a))

-- ---- the call

not_recorded : (c : Controller) → is_recorded (number_of (start_answer c)) ≡ false
unfolding start_answer
not_recorded c = unrecorded (valid c) c.phase (is_busy c.progress)

changes_answered : (x : Setup) (o : Operation) → changes (operation_answer x o) ≡ true
changes_answered x o =
    by_test (accepts (operation_answer x o)) (λ t. rw t) (λ t. rw (t, recorded_if_refused x o t))

module _ (s : List ℕ) (o : Operation) where
  -- Checks 1 to 4 refuse,
  pub start_early : {e : Refusal} → start_answer (decode s) ≡ Err e → record { told = told_answer (Err e); registers = s } ≡ start_in s o
  unfolding start_in
  start_early h = rw (start_stops (decode s) o (rw h), h, rw h at (not_recorded (decode s)))

  pub answer_early : {e : Refusal} → start_answer (decode s) ≡ Err e → Err e ≡ (start (decode s) o).answer
  answer_early h = rw (start_stops (decode s) o (rw h)) (sym h)

  -- or pass: checks 5, 7, 8 and 9 answer.
  module _ (h : start_answer (decode s) ≡ accepted) where
    passed : accepts (start_answer (decode s)) ≡ true
    passed = rw h

    fits : valid (decode s) ≡ true
    unfolding start_answer
    fits = ready_valid (valid (decode s)) (decode s).phase (both_accept (ready_answer (valid (decode s)) (decode s).phase) _ passed).0

    same : decode s ≡ stands_for s
    same = taken_stands s fits

    idle : is_busy (decode s).progress ≡ false
    unfolding start_answer
    idle = check_passed _ Busy (both_accept (ready_answer (valid (decode s)) (decode s).phase) _ passed).1

    module _ {a : Answer} (answered : a ≡ operation_answer (stands_for s).setup o) where
      pub start_begins : Begins s o a
      start_begins = record {
        encodes = valid_encoded s fits;
        idle = subst (λ (c : Controller). is_busy c.progress ≡ false) same idle;
        answered = record { answered = answered; pages = subst (λ (c : Controller). (10 ≤ c.setup.pages) × (c.setup.pages ≤ 256)) same (pages_bound (decode s) fits) };
      }

      goes_on : start (decode s) o ≡ started (stands_for s) o (operation_answer (stands_for s).setup o)
      goes_on =
          ap (λ (c : Controller). start c o) same
          ∙ start_goes_on (stands_for s) o (subst (λ (c : Controller). accepts (start_answer c) ≡ true) same passed)

      pub answer_goes : a ≡ (start (decode s) o).answer
      answer_goes = rw goes_on answered

      pub start_goes : {t : List ℕ} → t ≡ put s (started (stands_for s) o a).controller → record { told = told_answer a; registers = t } ≡ start_in s o
      unfolding start_in
      start_goes u =
          let stands : accepts (start_answer (stands_for s)) ≡ true = subst (λ (c : Controller). accepts (start_answer c) ≡ true) same passed in
          rw (u, same, start_goes_on (stands_for s) o stands, answered, changes_answered (stands_for s).setup o)
