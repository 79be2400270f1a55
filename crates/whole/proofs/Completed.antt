-- What a whole operation leaves of the registers, by the tests that the code makes. Assumes nothing.
use Rattle.std.specs.Prelude.{Err, Ok}
use Prim.Native.Nat.{ℕ}
use mathlib.Core.Path.{◌≡◌, refl, ap, sym, subst, ◌∙◌}
use mathlib.Core.Bool.{true, false, ◌&&◌, ◌||◌, not}
use mathlib.Core.List.{List, ◌++◌}
use lib.Dec.{eqb}
use lib.ListN.{length, drop}
use Rattle.model.specs.Queue.{empty_queue, queue_of}
use Rattle.model.specs.State.{Flash, is_busy}
use Rattle.model.specs.Refusals.{number_of, accepts, check, ready_answer}
use Rattle.model.specs.Checks.{operation_answer}
use Rattle.model.specs.Errors.{is_recorded, recorded, error_address}
use Rattle.model.specs.Valid.{both_empty, valid, valid_with}
use Rattle.model.specs.Steps.{start}
use Rattle.model.specs.Whole.{whole_answer, short_buffer, whole, leaving}
use Rattle.model.specs.declared.BusWord.{BusWord}
use Rattle.model.specs.declared.Errors.{Errors}
use Rattle.model.specs.declared.Operation.{Operation}
use Rattle.model.specs.declared.Controller.{Controller}
use Rattle.model.specs.Refusals.{Answer}
use Rattle.model.specs.Refusals.{accepted}
use Rattle.model.specs.declared.Refusal.{Refusal}
use Rattle.model.specs.declared.Refusal.TheVariants.{Busy, ShortBuffer}
use Rattle.model.proofs.Answers.{recorded_if_refused, both_accept}
use Rattle.model.proofs.Moving.{with_valid}
use Rattle.model.proofs.Accepting.{ready_valid}
use Rattle.model.proofs.Free.{whole_free, free_start, drive_answers}
use Rattle.plans.specs.Plan.{Reads, Programs, Erases, Recorded, plan_of, plan_answered, performed, delivered_at, stored_all, changed_all, programming, erasing}
use Rattle.plans.proofs.Cases.{early_unrecorded}
use Rattle.plans.proofs.ClosedFormProof.{closed_form}
use Rattle.registers.specs.Layout.{reads_from, programs_from}
use Rattle.registers.specs.Registers.{encoded, setup_of, stands_for, decode, queue_at, errors_at, progress_at, put_queue, put_errors}
use Rattle.registers.proofs.Kept.{put_back, valid_encoded}
use Rattle.registers.proofs.Written.{put_errors_lem, put_reads, put_programs, put_reads_recorded}
use Rattle.validity.proofs.Taken.{taken_stands}
use Rattle.calls.specs.Calls.{told_bits, whole_left, whole_in}
use Rattle.whole.specs.Admitted.{Admitted}

-- ---- checks 1 to 4

module _ (s : List ℕ) (f : Flash) where
  -- Where 1, 2 or 3 refuses, that is the answer;
  pub unready : {e : Refusal} → ready_answer (valid_with (decode s) f) (decode s).phase ≡ Err e → Err e ≡ whole_answer (decode s) f
  unfolding whole_answer
  unready w = rw w

  -- otherwise what is in progress and the queues are read where they lie.
  pub ready : {done : Unit} → ready_answer (valid_with (decode s) f) (decode s).phase ≡ Ok done
      → check (is_busy (progress_at s) || not (eqb (queue_at s reads_from).len 0 && eqb (queue_at s programs_from).len 0)) (Err Busy) ≡ whole_answer (decode s) f
  unfolding whole_answer stands_for
  ready w =
      let same = taken_stands s (with_valid (decode s) f (ready_valid (valid_with (decode s) f) (decode s).phase (rw w))) in
      rw w (ap (λ (c : Controller). check (is_busy c.progress || not (both_empty c.queues)) (Err Busy)) (sym same))

-- An empty queue has its 16 places.
empty_places : length empty_queue.words ≡ 16
unfolding queue_of
empty_places = refl

-- ---- the call

module _ (s : List ℕ) (f : Flash) (o : Operation) (b : List ℕ) where
  -- Refused by 1 to 4,
  pub run_refused : {e : Refusal} → whole_answer (decode s) f ≡ Err e
      → record { told = told_bits (Err e) 0; registers = s; flash = f; buffer = b } ≡ whole_in s f o b
  unfolding whole_in plan_of performed
  run_refused w =
      let refused : accepts (whole_answer (decode s) f) ≡ false = rw w in
      let stops : whole (decode s) f o b ≡ leaving (decode s) (whole_answer (decode s) f) 0 f b = closed_form (decode s) f o b ∙ rw refused in
      rw (stops, refused, early_unrecorded (decode s) f, w)

  pub answer_refused : {e : Refusal} → whole_answer (decode s) f ≡ Err e → Err e ≡ (whole (decode s) f o b).result.answer
  unfolding whole
  answer_refused w = rw w

  module _ (free : accepts (whole_answer (decode s) f) ≡ true) where
    -- or by 6, it changes nothing.
    pub run_short : short_buffer o b ≡ true
        → record { told = told_bits (Err ShortBuffer) 0; registers = s; flash = f; buffer = b } ≡ whole_in s f o b
    unfolding whole_in plan_of performed
    run_short h = rw (closed_form (decode s) f o b, free, h)

    pub answer_short : short_buffer o b ≡ true → Err ShortBuffer ≡ (whole (decode s) f o b).result.answer
    unfolding whole
    answer_short h = rw (free, h)

    is_valid : valid (decode s) ≡ true
    unfolding whole_answer
    is_valid =
        with_valid (decode s) f
        (ready_valid (valid_with (decode s) f) (decode s).phase (both_accept (ready_answer (valid_with (decode s) f) (decode s).phase) _ free).0)

    same : decode s ≡ stands_for s
    same = taken_stands s is_valid

    stands : accepts (whole_answer (stands_for s) f) ≡ true
    stands = subst (λ (c : Controller). accepts (whole_answer c f) ≡ true) same free

    pub admitted : short_buffer o b ≡ false → Admitted s f o b
    admitted h = record { encodes = valid_encoded s is_valid; free = stands; room = h }

    -- Otherwise the answer of 5, 7, 8 and 9 decides.
    pub run_answered : short_buffer o b ≡ false
        → whole_left s (performed (stands_for s) f o b (plan_answered (setup_of s) o (operation_answer (setup_of s) o))) ≡ whole_in s f o b
    unfolding whole_in plan_of stands_for
    run_answered h =
        let plan : whole (stands_for s) f o b ≡ performed (stands_for s) f o b (plan_answered (setup_of s) o (operation_answer (setup_of s) o)) =
        closed_form (stands_for s) f o b ∙ rw (stands, h) in
        ap (whole_left s) (sym plan) ∙ ap (λ (c : Controller). whole_left s (whole c f o b)) (sym same)

    pub answer_answered : short_buffer o b ≡ false → operation_answer (setup_of s) o ≡ (whole (decode s) f o b).result.answer
    unfolding whole stands_for
    answer_answered h =
        rw (free, h, drive_answers (decode s).setup.pages o (start (decode s) o) f b, free_start (decode s) o (whole_free (decode s) f free))
        (ap (λ (c : Controller). operation_answer c.setup o) (sym same))

-- ---- what each plan leaves

module _ (s : List ℕ) (f : Flash) (o : Operation) (b : List ℕ) (h : encoded s ≡ true) where
  -- A read empties the read queue, a program the program queue, an erase neither.
  pub left_read : (readable : ℕ) (ps : List BusWord)
      → record {
        told = told_bits accepted 0;
        registers = put_queue s reads_from empty_queue;
        flash = f;
        buffer = delivered_at f readable 0 ps ++ drop (length ps) b;
      }
      ≡ whole_left s (performed (stands_for s) f o b (Reads accepted readable ps))
  unfolding performed recorded
  left_read readable ps = rw (put_reads s h empty_queue empty_places)

  pub left_program : (ps : List BusWord)
      → record {
        told = told_bits accepted (changed_all (setup_of s) (programming b) 0 ps f);
        registers = put_queue s programs_from empty_queue;
        flash = stored_all (programming b) 0 ps f;
        buffer = b;
      }
      ≡ whole_left s (performed (stands_for s) f o b (Programs ps))
  unfolding performed stands_for
  left_program ps = rw (put_programs s h empty_queue empty_places)

  pub left_erase : (ps : List BusWord)
      → record {
        told = told_bits accepted (changed_all (setup_of s) erasing 0 ps f);
        registers = s;
        flash = stored_all erasing 0 ps f;
        buffer = b;
      }
      ≡ whole_left s (performed (stands_for s) f o b (Erases ps))
  unfolding performed stands_for
  left_erase ps = rw (put_back s h)

  -- A refusal is recorded,
  module _ (a : Answer) (asked : a ≡ operation_answer (setup_of s) o) (refused : accepts a ≡ false) where
    told_so : is_recorded (number_of a) ≡ true
    told_so = rw asked (recorded_if_refused (setup_of s) o (rw asked at refused))

    abbrev errors : Errors
    errors = recorded (number_of a) (error_address (stands_for s).setup (number_of a) o) (errors_at s)

    pub left_recorded : record { told = told_bits a 0; registers = put_errors s errors; flash = f; buffer = b }
        ≡ whole_left s (performed (stands_for s) f o b (Recorded a))
    unfolding performed stands_for
    left_recorded = rw (refused, told_so, put_errors_lem s h errors)

    -- and a denied read runs.
    pub left_denied : (readable : ℕ) (ps : List BusWord)
        → record {
          told = told_bits a 0;
          registers = put_errors (put_queue s reads_from empty_queue) errors;
          flash = f;
          buffer = delivered_at f readable 0 ps ++ drop (length ps) b;
        }
        ≡ whole_left s (performed (stands_for s) f o b (Reads a readable ps))
    unfolding performed stands_for
    left_denied readable ps = rw (refused, told_so, put_reads_recorded s h errors empty_queue empty_places)
