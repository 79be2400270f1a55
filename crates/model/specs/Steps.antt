-- Start, push, pop and step. (01, 'Steps' and 'When the desk says no'; 02, L3)
use Rattle.std.specs.Prelude.{Option, None, Some, Err, ℕ, ◌+◌, Bool, false, ◌||◌, not, cond, ltb, leb, eqb}
use Rattle.model.specs.Words.{all_ones, programmed, changed_bits}
use Rattle.model.specs.Kinds.{is_read, is_program}
use Rattle.model.specs.Places.{total_words, place_of}
use Rattle.model.specs.Queue.{is_empty, is_full, pushed, oldest, popped}
use Rattle.model.specs.State.{Flash, Leaves, stored, with_word, with_queues, with_progress, with_reads, with_programs, is_busy}
use Rattle.model.specs.Rights.{readable_words}
use Rattle.model.specs.Refusals.{number_of, accepts, is_denied_read, check, or_else, ready_answer, refused, settle}
use Rattle.model.specs.Checks.{operation_answer}
use Rattle.model.specs.Valid.{valid, valid_with}
use Rattle.model.specs.Errors.{with_recorded}
use Rattle.model.specs.declared.BusWord.{BusWord}
use Rattle.model.specs.declared.Operation.{Operation}
use Rattle.model.specs.declared.Queues.{Queues}
use Rattle.model.specs.declared.Work.{Work}
use Rattle.model.specs.declared.Work.TheVariants.{Read, Program, Erase}
use Rattle.model.specs.State.{Progress}
use Rattle.model.specs.declared.Setup.{Setup}
use Rattle.model.specs.declared.Controller.{Controller}
use Rattle.model.specs.declared.Outcome.{Outcome}
use Rattle.model.specs.declared.Fetched.{Fetched}
use Rattle.model.specs.declared.Stepped.{Stepped}
use Rattle.model.specs.declared.Movement.{Movement}
use Rattle.model.specs.declared.Movement.TheVariants.{Moved, Finished, Stalled}
use Rattle.model.specs.Refusals.{Answer}
use Rattle.model.specs.Refusals.{accepted}
use Rattle.model.specs.declared.Refusal.TheVariants.{Invalid, Busy, QueueEmpty, QueueFull, Unexpected}

-- ---- start: checks 1 to 4, then 5, 7, 8 and 9, which are recorded

unfoldable pub start_answer : Controller → Answer
start_answer c = or_else (ready_answer (valid c) c.phase) (check (is_busy c.progress) (Err Busy))

-- The work of an operation, none of its words moved.
abbrev pub work_of : Setup → Operation → Work
work_of s o = cond (is_read o) (Read o 0 (readable_words s o)) (cond (is_program o) (Program o 0) (Erase o 0))

-- An accepted operation starts, and so does a denied read.
abbrev pub starts : Operation → Answer → Bool
starts o a = accepts a || is_denied_read o (number_of a)

abbrev pub progress_after : Controller → Operation → Answer → Progress
progress_after c o a = cond (starts o a) (Some (work_of c.setup o)) c.progress

-- What checks 5, 7, 8 and 9 leave.
abbrev pub started : Controller → Operation → Answer → Outcome
started c o a = record {
  controller = with_progress (with_recorded c (number_of a) o) (progress_after c o a);
  answer = a;
}

unfoldable pub start : Controller → Operation → Outcome
start c o =
    cond (accepts (start_answer c)) (started c o (operation_answer c.setup o)) (refused c (start_answer c))

-- ---- push: checks 1, 2, 3, 12 (no program, or n already pushed), 11

-- What has been pushed is what has moved and what is queued.
unfoldable pub push_answer : Controller → Progress → Answer
push_answer c None = Err Unexpected
push_answer c (Some (Read o moved readable)) = Err Unexpected
push_answer c (Some (Program o moved)) =
    or_else (check (leb o.count (moved + c.queues.programs.len)) (Err Unexpected))
    (check (is_full c.queues.programs) (Err QueueFull))
push_answer c (Some (Erase o moved)) = Err Unexpected

unfoldable pub push : Controller → ℕ → Outcome
push c w =
    settle c (with_queues c (with_programs c.queues (pushed c.queues.programs w)))
    (or_else (ready_answer (valid c) c.phase) (push_answer c c.progress))

-- ---- pop: checks 1 and 10

unfoldable pub pop_answer : Controller → Answer
pop_answer c = or_else (check (not (valid c)) (Err Invalid)) (check (is_empty c.queues.reads) (Err QueueEmpty))

unfoldable pub pop : Controller → Fetched
pop c = record {
  controller = cond (accepts (pop_answer c)) (with_queues c (with_reads c.queues (popped c.queues.reads))) c;
  answer = pop_answer c;
  word = cond (accepts (pop_answer c)) (oldest c.queues.reads) 0;
}

-- ---- step: checks 1, 2, 3, 12 (nothing in progress)

-- A step waits if the read queue is full, or the program queue empty. An erase never waits.
unfoldable pub stalls : Queues → Work → Bool
stalls q (Read o moved readable) = is_full q.reads
stalls q (Program o moved) = is_empty q.programs
stalls q (Erase o moved) = false

-- The true word at a place: the stored one.
unfoldable pub delivered : Flash → BusWord → ℕ
delivered f p = stored f p

-- What a read delivers as its word k, whose place is p: the true word if it is one of the first `readable`, else ones.
unfoldable pub read_word : Flash → ℕ → ℕ → BusWord → ℕ
read_word f readable k p = cond (ltb k readable) (delivered f p) all_ones

-- The bits that count as changed at a place.
unfoldable pub counted_bits : Setup → BusWord → ℕ → ℕ → ℕ
counted_bits s p old new = changed_bits old new

-- The step that moves word k of n is the last one when k + 1 is n.
abbrev pub progressed : ℕ → ℕ → Work → Progress
progressed n k next = cond (eqb (k + 1) n) None (Some next)

abbrev pub movement : ℕ → ℕ → Movement
movement n k = cond (eqb (k + 1) n) Finished Moved

-- Word k of n has moved: what is now queued and in progress, and the bits that changed.
abbrev pub moved : Controller → ℕ → ℕ → Queues → Work → ℕ → Stepped
moved c n k q next bits = record {
  controller = with_progress (with_queues c q) (progressed n k next);
  answer = accepted;
  movement = Some (movement n k);
  bits = bits;
}

-- It was stored at a place.
abbrev pub stores : Controller → ℕ → ℕ → Queues → Work → BusWord → ℕ → Flash → Leaves Stepped
stores c n k q next p new f = record {
  result = moved c n k q next (counted_bits c.setup p (stored f p) new);
  flash = with_word f p new;
}

-- One word moves, at the operation's next place.
--   Read: the next word goes to the read queue.
--   Program: the oldest queued word is combined with the stored one.
--   Erase: the word becomes all ones.
unfoldable pub advance : Controller → Flash → Work → Leaves Stepped
advance c f (Read o k readable) = record {
  result =
      moved c (total_words c.setup.pages o) k
      (with_reads c.queues (pushed c.queues.reads (read_word f readable k (place_of c.setup.pages o k))))
      (Read o (k + 1) readable) 0;
  flash = f;
}
advance c f (Program o k) =
    stores c (total_words c.setup.pages o) k
    (with_programs c.queues (popped c.queues.programs))
    (Program o (k + 1)) (place_of c.setup.pages o k)
    (programmed (stored f (place_of c.setup.pages o k)) (oldest c.queues.programs)) f
advance c f (Erase o k) =
    stores c (total_words c.setup.pages o) k c.queues
    (Erase o (k + 1)) (place_of c.setup.pages o k) all_ones f

-- Nothing moves, and nothing changes.
abbrev pub still : Controller → Answer → Option Movement → Flash → Leaves Stepped
still c a m f = record { result = record { controller = c; answer = a; movement = m; bits = 0 }; flash = f }

unfoldable pub step_progress : Controller → Flash → Progress → Leaves Stepped
step_progress c f None = still c (Err Unexpected) None f
step_progress c f (Some w) = cond (stalls c.queues w) (still c accepted (Some Stalled) f) (advance c f w)

unfoldable pub step : Controller → Flash → Leaves Stepped
step c f =
    cond (accepts (ready_answer (valid_with c f) c.phase))
    (step_progress c f c.progress)
    (still c (ready_answer (valid_with c f) c.phase) None f)
