-- A whole operation for at most so many steps, by the calls on registers. (plans/specs/Limited.antt has it on the controller.)
use Rattle.std.specs.Prelude.{ℕ, zero, suc, ◌+◌, ◌-◌, ◌≤◌, min, ◌≡◌, Bool, true, ◌||◌, cond, List, ltb, eqb, length, get_or, set, Err}
use Rattle.model.specs.Kinds.{is_read, is_program, uses_count}
use Rattle.model.specs.Places.{total_words}
use Rattle.model.specs.State.{Flash}
use Rattle.model.specs.Refusals.{number_of, reported, accepts, is_denied_read}
use Rattle.model.specs.Whole.{whole_answer, short_buffer}
use Rattle.model.specs.declared.Operation.{Operation}
use Rattle.model.specs.Refusals.{Answer}
use Rattle.model.specs.declared.Refusal.TheVariants.{ShortBuffer}
use Rattle.registers.specs.Registers.{flag_of, setup_of, decode}
use Rattle.calls.specs.Calls.{Left, LeftFlash, LeftBuffer, start_in, step_in, push_in, pop_in}
use Rattle.calls.specs.declared.ToldAnswer.{ToldAnswer}
use Rattle.calls.specs.declared.ToldStep.{ToldStep}
use Rattle.driving.specs.declared.Driven.{Driven}

-- What the calls work on: the registers, the flash, the lent buffer, and the sum of the bit counts.
pub record Drive : Type 0 where
  pub registers : List ℕ
  pub flash : Flash
  pub buffer : List ℕ
  pub bits : ℕ

-- Of a step without the buffer.
pub record SteppedBits : Type 0 where
  pub registers : List ℕ
  pub flash : Flash
  pub bits : ℕ

abbrev pub add_bits : ℕ → LeftFlash ToldStep → SteppedBits
add_bits bits l = record { registers = l.registers; flash = l.flash; bits = bits + l.told.bits }

abbrev pub stepped_bits : List ℕ → Flash → ℕ → SteppedBits
stepped_bits s f bits = add_bits bits (step_in s f)

abbrev pub with_step : List ℕ → SteppedBits → Drive
with_step b l = record { registers = l.registers; flash = l.flash; buffer = b; bits = l.bits }

abbrev pub stepped_in : Drive → Drive
stepped_in r = with_step r.buffer (stepped_bits r.registers r.flash r.bits)

-- The word at place k of the buffer is pushed.
abbrev pub with_pushed_in : ℕ → Drive → Drive
with_pushed_in k r = record {
  registers = (push_in r.registers (get_or r.buffer k 0)).registers;
  flash = r.flash;
  buffer = r.buffer;
  bits = r.bits;
}

-- A word is popped into place k of the buffer.
abbrev pub with_popped_in : ℕ → Drive → Drive
with_popped_in k r = record {
  registers = (pop_in r.registers).registers;
  flash = r.flash;
  buffer = set r.buffer k (pop_in r.registers).told.word;
  bits = r.bits;
}

-- The calls for word k, and for the first n words.
unfoldable pub turn_in : Operation → ℕ → Drive → Drive
turn_in o k r =
    cond (is_read o) (with_popped_in k (stepped_in r)) (cond (is_program o) (stepped_in (with_pushed_in k r)) (stepped_in r))

unfoldable pub turns_in : Operation → ℕ → Drive → Drive
turns_in o zero r = r
turns_in o (suc n) r = turn_in o n (turns_in o n r)

-- The buffer has the first n words of an operation that uses one.
pub record Room (o : Operation) (n : ℕ) (b : List ℕ) : Type 0 where
  pub room : uses_count o ≡ true → n ≤ length b

-- What starts, by the number of the start's answer: an accepted operation, and a denied read.
abbrev pub starts_by : Operation → ℕ → Bool
starts_by o n = eqb n 0 || is_denied_read o n

-- Nothing moved: every step is left.
abbrev pub unmoved : ℕ → ℕ → ℕ → Driven
unmoved answer by steps = record { answer = answer; decider = by; bits = 0; left = steps; cut = 0 }

-- n of the operation's words moved. The power was cut if that is not all.
abbrev pub moved_in : ℕ → ℕ → ToldAnswer → Drive → LeftBuffer Driven
moved_in steps total told r = record {
  told = record {
    answer = told.answer;
    decider = told.decider;
    bits = r.bits;
    left = steps - min steps total;
    cut = flag_of (ltb steps total);
  };
  registers = r.registers;
  flash = r.flash;
  buffer = r.buffer;
}

unfoldable pub driven_from_in : ℕ → ℕ → Operation → Left ToldAnswer → Flash → List ℕ → LeftBuffer Driven
driven_from_in steps d o l f b =
    cond (starts_by o l.told.answer)
    (moved_in steps (total_words d o) l.told
    (turns_in o (min steps (total_words d o)) (record { registers = l.registers; flash = f; buffer = b; bits = 0 })))
    (record {
      told = unmoved l.told.answer l.told.decider steps;
      registers = l.registers;
      flash = f;
      buffer = b;
    })

-- Checks 1 to 4 and 6 are the whole operation's; a refusal by them leaves everything.
abbrev pub stays : Answer → ℕ → List ℕ → Flash → List ℕ → LeftBuffer Driven
stays a steps s f b = record { told = unmoved (number_of a) (reported a) steps; registers = s; flash = f; buffer = b }

unfoldable pub driven_in : ℕ → List ℕ → Flash → Operation → List ℕ → LeftBuffer Driven
driven_in steps s f o b =
    cond (accepts (whole_answer (decode s) f))
    (cond (short_buffer o b) (stays (Err ShortBuffer) steps s f b) (driven_from_in steps (setup_of s).pages o (start_in s o) f b))
    (stays (whole_answer (decode s) f) steps s f b)
