-- A whole operation: start, then steps with pushes and pops until it is finished and drained. (01, 'Steps')
use Rattle.std.specs.Prelude.{ℕ, zero, suc, ◌+◌, Bool, ◌&&◌, ◌||◌, not, cond, List, ltb, length, get_or, set, Err}
use Rattle.model.specs.Kinds.{is_read, is_program, uses_count}
use Rattle.model.specs.Places.{total_words}
use Rattle.model.specs.State.{Flash, Leaves, is_busy}
use Rattle.model.specs.Refusals.{accepts, check, or_else, ready_answer}
use Rattle.model.specs.Checks.{malformed}
use Rattle.model.specs.Valid.{valid_with, both_empty}
use Rattle.model.specs.Steps.{starts, start, push, pop, step}
use Rattle.model.specs.declared.Operation.{Operation}
use Rattle.model.specs.declared.Controller.{Controller}
use Rattle.model.specs.declared.Outcome.{Outcome}
use Rattle.model.specs.declared.Stepped.{Stepped}
use Rattle.model.specs.declared.Completed.{Completed}
use Rattle.model.specs.Refusals.{Answer}
use Rattle.model.specs.declared.Refusal.TheVariants.{Busy, ShortBuffer}

-- What the calls of a whole operation work on: the controller, the flash, the lent buffer, and the sum of the bit counts.
pub record Run : Type 0 where
  pub controller : Controller
  pub flash : Flash
  pub buffer : List ℕ
  pub bits : ℕ

abbrev pub after_step : Run → Leaves Stepped → Run
after_step r s = record {
  controller = s.result.controller;
  flash = s.flash;
  buffer = r.buffer;
  bits = r.bits + s.result.bits;
}

abbrev pub stepped : Run → Run
stepped r = after_step r (step r.controller r.flash)

-- The word at place k of the buffer is pushed.
abbrev pub with_pushed : ℕ → Run → Run
with_pushed k r = record {
  controller = (push r.controller (get_or r.buffer k 0)).controller;
  flash = r.flash;
  buffer = r.buffer;
  bits = r.bits;
}

-- A word is popped into place k of the buffer.
abbrev pub with_popped : ℕ → Run → Run
with_popped k r = record {
  controller = (pop r.controller).controller;
  flash = r.flash;
  buffer = set r.buffer k (pop r.controller).word;
  bits = r.bits;
}

-- The calls for word k: of a read step and pop, of a program push and step, of an erase step.
unfoldable pub turn : Operation → ℕ → Run → Run
turn o k r = cond (is_read o) (with_popped k (stepped r)) (cond (is_program o) (stepped (with_pushed k r)) (stepped r))

-- The calls for the first n words, in order: with n the number of its words, an operation is finished and drained.
unfoldable pub turns : Operation → ℕ → Run → Run
turns o zero r = r
turns o (suc n) r = turn o n (turns o n r)

-- Checks 1 to 4. For a whole operation 4 also applies if a queue holds a word.
unfoldable pub whole_answer : Controller → Flash → Answer
whole_answer c f =
    or_else (ready_answer (valid_with c f) c.phase)
    (check (is_busy c.progress || not (both_empty c.queues)) (Err Busy))

-- 6, after 5: whole read or program, buffer shorter than n.
abbrev pub short_buffer : Operation → List ℕ → Bool
short_buffer o b = not (malformed o) && (uses_count o && ltb (length b) o.count)

-- What a whole operation leaves: its result, the flash, and the buffer.
pub record WholeLeaves : Type 0 where
  pub result : Completed
  pub flash : Flash
  pub buffer : List ℕ

abbrev pub leaving : Controller → Answer → ℕ → Flash → List ℕ → WholeLeaves
leaving c a bits f b = record { result = record { controller = c; answer = a; bits = bits }; flash = f; buffer = b }

abbrev pub completed : Answer → Run → WholeLeaves
completed a r = leaving r.controller a r.bits r.flash r.buffer

-- An operation that starts is driven to its end. Its answer is that of its start.
unfoldable pub drive : ℕ → Operation → Outcome → Flash → List ℕ → WholeLeaves
drive d o s f b =
    cond (starts o s.answer)
    (completed s.answer
    (turns o (total_words d o) (record { controller = s.controller; flash = f; buffer = b; bits = 0 })))
    (leaving s.controller s.answer 0 f b)

unfoldable pub whole : Controller → Flash → Operation → List ℕ → WholeLeaves
whole c f o b =
    cond (accepts (whole_answer c f))
    (cond (short_buffer o b) (leaving c (Err ShortBuffer) 0 f b) (drive c.setup.pages o (start c o) f b))
    (leaving c (whole_answer c f) 0 f b)
