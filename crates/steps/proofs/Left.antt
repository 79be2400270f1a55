-- What a step leaves, by the tests that it makes, and what a step that moves a word may count on. Assumes nothing.
use Rattle.std.specs.Prelude.{Err, None, Some}
use Prim.Native.Nat.{ℕ, ◌+◌, ◌<◌, ◌≤◌}
use native.Mathlib.Omega.{arith}
use mathlib.Core.Path.{◌≡◌, refl, ap, sym, subst, ◌∙◌}
use mathlib.Core.Bool.{Bool, true, false, cond}
use mathlib.Core.List.{List}
use lib.Dec.{eqb}
use borrow.Author.Tests.{eqb-false, leb-false}
use lib.ListN.{length, get_or}
use Rattle.model.specs.State.{Flash, Leaves, with_word, stored, operation_of, moved_of}
use Rattle.model.specs.Words.{all_ones, programmed, changed_bits}
use Rattle.model.specs.Queue.{pushed, popped, oldest}
use Rattle.model.specs.Refusals.{accepts, ready_answer, number_of}
use Rattle.model.specs.Valid.{valid, valid_with}
use Rattle.model.specs.Places.{total_words, place_of}
use Rattle.model.specs.Checks.{out_of_range}
use Rattle.model.specs.Steps.{progressed, advance, counted_bits, read_word, step, stalls}
use Rattle.model.specs.Refusals.{Answer}
use Rattle.model.specs.Refusals.{accepted}
use Rattle.model.specs.declared.Refusal.{Refusal}
use Rattle.model.specs.declared.Refusal.TheVariants.{Unexpected}
use Rattle.model.specs.declared.Stepped.{Stepped}
use Rattle.model.specs.declared.Movement.TheVariants.{Moved, Finished}
use Rattle.model.specs.declared.Work.{Work}
use Rattle.model.specs.declared.Work.TheVariants.{Read, Program, Erase}
use Rattle.model.specs.declared.Operation.{Operation}
use Rattle.model.specs.declared.BusWord.{BusWord}
use Rattle.model.specs.declared.Queue.{Queue}
use Rattle.model.specs.declared.Controller.{Controller}
use Rattle.model.proofs.Moving.{Moving, moving, with_valid, with_length, queue_bounds}
use Rattle.model.proofs.QueueLaws.{push_keeps_its_places, pop_keeps_its_places}
use Rattle.model.proofs.StepLaws.{step_unready}
use Rattle.model.proofs.Accepting.{moved_small, ready_valid, step_idle, step_stalled, step_advances}
use Rattle.registers.specs.Layout.{pages_at, reads_from, programs_from}
use Rattle.registers.specs.Registers.{queue_at, put_queue, progress_at, stands_for, decode}
use Rattle.registers.proofs.Kept.{put_back, valid_encoded}
use Rattle.registers.proofs.Written.{put_reads_moving, put_programs_moving, put_progress_lem, put_moved, queue_moved}
use Rattle.calls.specs.Calls.{LeftFlash, movement_number, step_left, step_in}
use Rattle.calls.specs.declared.ToldStep.{ToldStep}
use Rattle.validity.specs.Ready.{Ready}
use Rattle.validity.proofs.Taken.{taken_stands}
use Rattle.steps.specs.Stepping.{Moves, told_moved, registers_moved}

pub same_moves : {s : List ℕ} {f : Flash} {v w : Work} → v ≡ w → Moves s f v → Moves s f w
same_moves e m = rw e at m

told_moved_lem : (b : Bool) → movement_number (Some (cond b Finished Moved)) ≡ cond b 2 1
told_moved_lem true = refl
told_moved_lem false = refl

-- ---- what a step that moves a word may count on

module _ {s : List ℕ} {f : Flash} {w : Work} (m : Moves s f w) where
  fits : valid (stands_for s) ≡ true
  fits = with_valid (stands_for s) f m.valid

  next : Moving (stands_for s) w
  next = moving (stands_for s) w fits m.running

  abbrev d : ℕ
  d = get_or s pages_at 0

  pub moves_place : (10 ≤ d) × (d ≤ 256) × (out_of_range d (operation_of w) ≡ false) × (moved_of w < total_words d (operation_of w))
  unfolding stands_for
  moves_place = (next.pages.0, next.pages.1, next.ranged, next.left)

  pub moves_inside : (place_of d (operation_of w) (moved_of w)).0 < length f.words
  unfolding stands_for
  moves_inside = omega (arith, next.inside, with_length (stands_for s) f m.valid)

  pub moves_small : moved_of w + 1 < 4294967296
  moves_small = omega (arith, moved_small (stands_for s) w next)

module _ {s : List ℕ} {f : Flash} {o : Operation} {k : ℕ} where
  pub read_room : {readable : ℕ} → Moves s f (Read o k readable) → (queue_at s reads_from).len < 16
  unfolding stalls stands_for
  read_room m = leb-false 16 (queue_at s reads_from).len m.goes

  programs_bound : Moves s f (Program o k) → (queue_at s programs_from).len ≤ 16
  unfolding stands_for
  programs_bound m = (queue_bounds (stands_for s) (fits m)).1

  pub program_waits : Moves s f (Program o k) → (0 < (queue_at s programs_from).len) × ((queue_at s programs_from).len ≤ 16)
  unfolding stalls stands_for
  program_waits m = (omega (arith, eqb-false (queue_at s programs_from).len 0 m.goes), programs_bound m)

-- ---- what a step of each kind leaves

module _ (s : List ℕ) (f : Flash) (o : Operation) (k : ℕ) where
  abbrev n : ℕ
  n = total_words (get_or s pages_at 0) o

  abbrev place : BusWord
  place = place_of (get_or s pages_at 0) o k

  abbrev word : ℕ → ℕ
  word readable = read_word f readable k place

  pub left_read : (readable : ℕ) → Moves s f (Read o k readable)
      → step_left s (advance (stands_for s) f (Read o k readable))
      ≡ record {
        told = told_moved n k 0;
        registers = registers_moved (put_queue s reads_from (pushed (queue_at s reads_from) (word readable))) n k;
        flash = f;
      }
  unfolding advance stands_for
  left_read readable m =
      let q : Queue = pushed (queue_at s reads_from) (word readable) in
      let long : length q.words ≡ 16 = push_keeps_its_places (queue_at s reads_from) (word readable) (read_room m) refl in
      rw (told_moved_lem (eqb (k + 1) n), put_reads_moving s m.encodes q (progressed n k (Read o (k + 1) readable)) long)
      (rw (put_moved s m.encodes (Read o k readable) (eqb (k + 1) n) (k + 1) m.running, queue_moved s reads_from q (eqb (k + 1) n) (k + 1) (omega arith)))

  abbrev new : ℕ
  new = programmed (stored f place) (oldest (queue_at s programs_from))

  pub left_program : Moves s f (Program o k)
      → step_left s (advance (stands_for s) f (Program o k))
      ≡ record {
        told = told_moved n k (changed_bits (stored f place) new);
        registers = registers_moved (put_queue s programs_from (popped (queue_at s programs_from))) n k;
        flash = with_word f place new;
      }
  unfolding advance stands_for counted_bits
  left_program m =
      let q : Queue = popped (queue_at s programs_from) in
      let long : length q.words ≡ 16 = pop_keeps_its_places (queue_at s programs_from) (program_waits m).1 refl in
      rw (told_moved_lem (eqb (k + 1) n), put_programs_moving s m.encodes q (progressed n k (Program o (k + 1))) long)
      (rw (put_moved s m.encodes (Program o k) (eqb (k + 1) n) (k + 1) m.running, queue_moved s programs_from q (eqb (k + 1) n) (k + 1) (omega arith)))

  pub left_erase : Moves s f (Erase o k)
      → step_left s (advance (stands_for s) f (Erase o k))
      ≡ record {
        told = told_moved n k (changed_bits (stored f place) all_ones);
        registers = registers_moved s n k;
        flash = with_word f place all_ones;
      }
  unfolding advance stands_for counted_bits
  left_erase m =
      rw (told_moved_lem (eqb (k + 1) n), put_progress_lem s m.encodes (progressed n k (Erase o (k + 1))), put_moved s m.encodes (Erase o k) (eqb (k + 1) n) (k + 1) m.running)

-- ---- the call

module _ (s : List ℕ) (f : Flash) where
  abbrev still : Answer → ℕ → LeftFlash ToldStep
  still a m = record { told = record { answer = number_of a; movement = m; bits = 0 }; registers = s; flash = f }

  -- Checks 1, 2 and 3 refuse,
  pub step_early : {e : Refusal} → ready_answer (valid_with (decode s) f) (decode s).phase ≡ Err e → still (Err e) 0 ≡ step_in s f
  unfolding step_in
  step_early h = rw (step_unready (decode s) f (rw h), h)

  -- or pass:
  module _ (passed : Ready s f) where
    taken : valid (decode s) ≡ true
    taken = with_valid (decode s) f (ready_valid (valid_with (decode s) f) (decode s).phase passed)

    same : decode s ≡ stands_for s
    same = taken_stands s taken

    ready : accepts (ready_answer (valid_with (stands_for s) f) (stands_for s).phase) ≡ true
    ready = subst (λ (c : Controller). accepts (ready_answer (valid_with c f) c.phase) ≡ true) same passed

    by_step : {l : Leaves Stepped} → l ≡ step (stands_for s) f → step_left s l ≡ step_in s f
    unfolding step_in
    by_step e = ap (step_left s) (e ∙ ap (λ (c : Controller). step c f) (sym same))

    -- nothing is in progress,
    pub step_nothing : progress_at s ≡ None → still (Err Unexpected) 0 ≡ step_in s f
    unfolding stands_for
    step_nothing e = by_step (step_idle (stands_for s) f ready e)

    -- or an operation that waits,
    pub step_waits : (w : Work) → progress_at s ≡ Some w → stalls (stands_for s).queues w ≡ true → still accepted 3 ≡ step_in s f
    unfolding stands_for
    step_waits w e t =
        ap {B = LeftFlash ToldStep} (λ (l : List ℕ). record { told = record { answer = number_of accepted; movement = 3; bits = 0 }; registers = l; flash = f })
        (sym (put_back s (valid_encoded s taken)))
        ∙ by_step (step_stalled (stands_for s) f w ready e t)

    -- or one that moves a word.
    module _ (w : Work) (e : progress_at s ≡ Some w) (t : stalls (stands_for s).queues w ≡ false) where
      pub step_moves : Moves s f w
      unfolding stands_for
      step_moves = record {
        encodes = valid_encoded s taken;
        valid = ready_valid (valid_with (stands_for s) f) (stands_for s).phase ready;
        running = e;
        goes = t;
      }

      pub step_goes : step_left s (advance (stands_for s) f w) ≡ step_in s f
      unfolding stands_for
      step_goes = by_step (step_advances (stands_for s) f w ready e t)
