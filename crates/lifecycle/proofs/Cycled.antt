-- What reset, initialise and RMA tell and leave, by what their checks answer. Assumes nothing.
use Rattle.std.specs.Prelude.{Err, None, Some}
use Prim.Native.Nat.{ℕ, ◌≤◌}
use mathlib.Core.Path.{◌≡◌, refl, ap, sym, subst, ◌∙◌}
use mathlib.Core.Bool.{Bool, true, false, not, cond}
use mathlib.Core.List.{List}
use lib.ListN.{length, get_or, set}
use borrow.Author.Tests.{not-false}
use Rattle.model.specs.Geometry.{pages_fit, image_words}
use Rattle.model.specs.Queue.{queue_of, empty_queue}
use Rattle.model.specs.State.{Flash, flash, is_ready, is_busy, with_phase, empty_queues}
use Rattle.model.specs.Refusals.{accepted, accepts, refusal_number, check, or_else}
use Rattle.model.specs.declared.Refusal.{Refusal}
use Rattle.model.specs.Valid.{valid_with}
use Rattle.model.specs.Lifecycle.{reset, is_disabled, seeds_of, initialise_answer, initialise, wiped, rma_answer, rma_controller, rma}
use Rattle.model.specs.declared.Controller.{Controller}
use Rattle.model.specs.declared.Seeds.{Seeds}
use Rattle.model.specs.declared.Phase.TheVariants as phase
use Rattle.model.specs.Refusals.{Answer}
use Rattle.model.specs.declared.Refusal.TheVariants.{Invalid, Disabled, Busy, Unexpected}
use Rattle.registers.specs.Layout.{pages_at, phase_at, reads_from, programs_from}
use Rattle.registers.specs.Registers.{stands_for, decode, phase_of, inputs_at, progress_at, put, put_queue, cleared}
use Rattle.calls.specs.Calls.{told_seeds, seeds_left, rma_left, reset_in, initialise_in, rma_in}
use Rattle.model.proofs.Bool.{by_test}
use Rattle.model.proofs.Moving.{with_valid}
use Rattle.model.proofs.Answers.{both_accept, check_passed}
use Rattle.model.proofs.Accepting.{lent_fits}
use Rattle.registers.proofs.Kept.{valid_encoded}
use Rattle.registers.proofs.Written.{put_phase, put_closing}
use Rattle.validity.proofs.Taken.{taken_stands}

-- ---- reset

pub reset_refused : (s : List ℕ) (d : ℕ) {e : Refusal} → check (not (pages_fit d)) (Err Invalid) ≡ Err e → record { told = refusal_number e; registers = s } ≡ reset_in s d
unfolding reset_in reset
reset_refused s d h = rw h

pub reset_accepted : (s : List ℕ) (d : ℕ) {t : List ℕ} → check (not (pages_fit d)) (Err Invalid) ≡ accepted → t ≡ cleared s d → record { told = 0; registers = t } ≡ reset_in s d
unfolding reset_in reset
reset_accepted s d h u = rw (h, u)

-- ---- calls that are lent the flash and check 1 first

module _ (s : List ℕ) (f : Flash) where
  taken : valid_with (decode s) f ≡ true → decode s ≡ stands_for s
  taken h = taken_stands s (with_valid (decode s) f h)

  -- The checks behind check 1 matter in a valid state only: there the registers stand for the controller.
  checked_same : (rest : Controller → Answer) → or_else (check (not (valid_with (decode s) f)) (Err Invalid)) (rest (stands_for s)) ≡ or_else (check (not (valid_with (decode s) f)) (Err Invalid)) (rest (decode s))
  checked_same rest =
      by_test (valid_with (decode s) f) (λ h. ap (λ (c : Controller). or_else (check (not (valid_with (decode s) f)) (Err Invalid)) (rest c)) (sym (taken h))) (λ h. rw h)

  valid_with_lem : (rest : Answer) → accepts (or_else (check (not (valid_with (decode s) f)) (Err Invalid)) rest) ≡ true → valid_with (decode s) f ≡ true
  valid_with_lem rest h = not-false _ (check_passed _ Invalid (both_accept (check (not (valid_with (decode s) f)) (Err Invalid)) rest h).0)

  -- ---- initialise

  pub initialise_checks : initialise_answer (decode s) f
      ≡ or_else (check (not (valid_with (decode s) f)) (Err Invalid)) (or_else (check (is_disabled (phase_of (get_or s phase_at 0))) (Err Disabled)) (check (is_ready (phase_of (get_or s phase_at 0))) (Err Unexpected)))
  unfolding initialise_answer stands_for
  initialise_checks = sym (checked_same (λ c. or_else (check (is_disabled c.phase) (Err Disabled)) (check (is_ready c.phase) (Err Unexpected))))

  pub initialise_refused : {e : Refusal} → initialise_answer (decode s) f ≡ Err e → record { told = told_seeds (Err e) None; registers = s } ≡ initialise_in s f
  unfolding initialise_in initialise
  initialise_refused h = rw h

  module _ (h : initialise_answer (decode s) f ≡ accepted) where
    granted : accepts (initialise_answer (decode s) f) ≡ true
    granted = rw h

    same : decode s ≡ stands_for s
    unfolding initialise_answer
    same = taken (valid_with_lem _ granted)

    -- The flash is that of the D that is read.
    pub initialise_fits : (get_or s pages_at 0 ≤ 256) × (length f.words ≡ image_words (get_or s pages_at 0))
    unfolding initialise_answer stands_for
    initialise_fits = subst (λ (c : Controller). (c.setup.pages ≤ 256) × (length f.words ≡ image_words c.setup.pages)) same (lent_fits (decode s) f _ granted)

    passed : initialise_answer (stands_for s) f ≡ accepted
    passed = subst (λ (c : Controller). initialise_answer c f ≡ accepted) same h

    written : put s (with_phase (stands_for s) phase.Ready) ≡ set s 1 1
    unfolding initialise_answer
    written = put_phase s (valid_encoded s (with_valid (decode s) f (valid_with_lem _ granted))) phase.Ready

    by_state : seeds_left s (initialise (stands_for s) f) ≡ initialise_in s f
    unfolding initialise_in
    by_state = ap (λ (c : Controller). seeds_left s (initialise c f)) (sym same)

    by_provision : (b : Bool) → (stands_for s).setup.inputs.provision ≡ b
        → record { told = told_seeds accepted (cond b (Some (seeds_of (stands_for s).setup.pages f)) None); registers = set s 1 1 } ≡ seeds_left s (initialise (stands_for s) f)
    unfolding initialise
    by_provision b e = rw (passed, e, written)

    pub initialise_gives : {x : Seeds} {t : List ℕ} → (inputs_at s).provision ≡ true → x ≡ seeds_of (get_or s pages_at 0) f → t ≡ set s phase_at 1
        → record { told = told_seeds accepted (Some x); registers = t } ≡ initialise_in s f
    unfolding stands_for
    initialise_gives e x t = rw (x, t) (by_provision true e ∙ by_state)

    pub initialise_gives_none : {t : List ℕ} → (inputs_at s).provision ≡ false → t ≡ set s phase_at 1 → record { told = told_seeds accepted None; registers = t } ≡ initialise_in s f
    unfolding stands_for
    initialise_gives_none e t = rw t (by_provision false e ∙ by_state)

  -- ---- RMA

  pub rma_checks : rma_answer (decode s) f
      ≡ or_else (check (not (valid_with (decode s) f)) (Err Invalid)) (or_else (check (is_disabled (phase_of (get_or s phase_at 0))) (Err Disabled)) (check (is_busy (progress_at s)) (Err Busy)))
  unfolding rma_answer stands_for
  rma_checks = sym (checked_same (λ c. or_else (check (is_disabled c.phase) (Err Disabled)) (check (is_busy c.progress) (Err Busy))))

  pub rma_refused : {e : Refusal} → rma_answer (decode s) f ≡ Err e → record { told = refusal_number e; registers = s; flash = f } ≡ rma_in s f
  unfolding rma_in rma
  rma_refused h = rw h

  module _ (h : rma_answer (decode s) f ≡ accepted) where
    rma_granted : accepts (rma_answer (decode s) f) ≡ true
    rma_granted = rw h

    rma_same : decode s ≡ stands_for s
    unfolding rma_answer
    rma_same = taken (valid_with_lem _ rma_granted)

    -- The flash is that of the D that is read.
    pub rma_fits : length f.words ≡ image_words (get_or s pages_at 0)
    unfolding rma_answer stands_for
    rma_fits = subst (λ (c : Controller). length f.words ≡ image_words c.setup.pages) rma_same (lent_fits (decode s) f _ rma_granted).1

    rma_passed : rma_answer (stands_for s) f ≡ accepted
    rma_passed = subst (λ (c : Controller). rma_answer c f ≡ accepted) rma_same h

    rma_written : put s (rma_controller (stands_for s)) ≡ put_queue (put_queue (set s phase_at 2) reads_from empty_queue) programs_from empty_queue
    unfolding rma_answer queue_of
    rma_written = put_closing s (valid_encoded s (with_valid (decode s) f (valid_with_lem _ rma_granted))) phase.Disabled empty_queues refl refl

    closed : record { told = 0; registers = put_queue (put_queue (set s phase_at 2) reads_from empty_queue) programs_from empty_queue; flash = flash (wiped (stands_for s).setup.pages 0 f.words) } ≡ rma_left s (rma (stands_for s) f)
    unfolding rma
    closed = rw (rma_passed, rma_written)

    pub rma_accepted : {t ws : List ℕ} → t ≡ put_queue (put_queue (set s phase_at 2) reads_from empty_queue) programs_from empty_queue → ws ≡ wiped (get_or s pages_at 0) 0 f.words
        → record { told = 0; registers = t; flash = flash ws } ≡ rma_in s f
    unfolding rma_in stands_for
    rma_accepted t w = rw (t, w) (closed ∙ ap (λ (c : Controller). rma_left s (rma c f)) (sym rma_same))
