-- The premises of `AnyDriver` can be met: a program, a read and a denied read with D = 10, driven in orders of their own, by
-- computation.
use Prim.Native.Nat.{ℕ}
use mathlib.Core.Path.{◌≡◌, refl, sym, ap}
use mathlib.Core.Bool.{true, false}
use mathlib.Core.List.{List, [], ◌∷◌, ◌++◌}
use lib.ListN.{length, take, replicate}
use Rattle.model.specs.Geometry.{image_page, word_at}
use Rattle.model.specs.Words.{all_ones, programmed, changed_bits, differ_in}
use Rattle.model.specs.Places.{total_words, place_of}
use Rattle.model.specs.Queue.{held, queue_of, pushed, oldest, popped}
use Rattle.model.specs.State.{Flash, flash, flash_fits, reset_controller}
use Rattle.model.specs.Rights.{data_ruling, ruling_at, leading, allowed_words, denied, readable_words}
use Rattle.model.specs.Refusals.{accepts}
use Rattle.model.specs.Checks.{malformed, out_of_range, crosses_window, operation_answer}
use Rattle.model.specs.Valid.{settings_fit, work_fits, running_fits, physical_fits, valid, valid_with}
use Rattle.model.specs.Errors.{recorded, error_address}
use Rattle.model.specs.Settings.{configured, set_region}
use Rattle.model.specs.Lifecycle.{initialise_answer, initialise}
use Rattle.model.specs.Steps.{starts, start_answer, start, push_answer, push, pop_answer, pop, stalls, delivered, read_word, counted_bits, advance, step_progress, step}
use Rattle.model.specs.Whole.{whole_answer, short_buffer, whole}
use Rattle.model.specs.Bench.{region, op}
use Rattle.model.specs.declared.Operation.{Operation}
use Rattle.model.specs.declared.Controller.{Controller}
use Rattle.plans.specs.Driver.{Drive, Step, Push, Pop, Driven, drives, begun, Ended, SameAs}
use Rattle.plans.proofs.AnyDriverProof.{any_driver}

-- The first three words of the image are told apart, and the last of page 0 and the first of page 1; the others are ones.
abbrev image : Flash
image = flash (0 ∷ 7 ∷ 9 ∷ replicate 252 all_ones ++ (11 ∷ 13 ∷ replicate 11519 all_ones))

-- After reset, all rights on page 0, initialised.
abbrev ready : Controller
ready = (initialise (set_region (reset_controller 10) 0 (region true 0 1 7)).controller image).controller

-- A program of words 2 and 3, a read of words 0 to 2, and one of words 255 to 257, of which those on page 1 are denied; each
-- buffer has one word more than is used.
abbrev program : Operation
program = op 1 0 0 8 2

abbrev program_buffer : List ℕ
program_buffer = 5 ∷ 6 ∷ 8 ∷ []

abbrev read : Operation
read = op 0 0 0 0 3

abbrev cut : Operation
cut = op 0 0 0 1020 3

abbrev read_buffer : List ℕ
read_buffer = 1 ∷ 2 ∷ 3 ∷ 4 ∷ []

-- The program: a step waits, both words are pushed, a third push and a pop are refused, and both words move.
abbrev program_calls : List Drive
program_calls = Step ∷ Push 5 ∷ Push 6 ∷ Push 8 ∷ Pop ∷ Step ∷ Step ∷ []

-- Each read: a pop and a push are refused, one word moves and is popped, then two move and are popped.
abbrev read_calls : List Drive
read_calls = Pop ∷ Push 5 ∷ Step ∷ Pop ∷ Step ∷ Step ∷ Pop ∷ Pop ∷ []

-- Where a driver comes to.
abbrev end : Operation → List Drive → Driven
end o ks = drives (begun (start ready o).controller image) ks

-- What the law asks for, of one operation.
pub record Meets (o : Operation) (b : List ℕ) (ks : List Drive) : Type 0 where
  pub free : accepts (whole_answer ready image) ≡ true
  pub room : short_buffer o b ≡ false
  pub goes : starts o (start ready o).answer ≡ true
  pub ended : Ended b (end o ks)

-- Words are the first ones of a buffer if they are these, and these are.
firsts : (given b ws : List ℕ) → given ≡ ws → ws ≡ take (length ws) b → given ≡ take (length given) b
firsts given b ws e h = rw e h

pub program_meets : Meets program program_buffer program_calls
unfolding image_page word_at programmed total_words place_of held queue_of pushed oldest popped leading data_ruling ruling_at allowed_words denied readable_words malformed out_of_range crosses_window operation_answer settings_fit work_fits running_fits physical_fits valid flash_fits valid_with recorded error_address configured set_region initialise_answer initialise start_answer start push_answer push stalls delivered read_word counted_bits advance step_progress step pop_answer pop whole_answer
program_meets = record {
  free = refl;
  room = refl;
  goes = refl;
  ended = record { idle = refl; drained = refl; in_order = firsts (end program program_calls).given program_buffer (5 ∷ 6 ∷ []) refl refl };
}

pub read_meets : Meets read read_buffer read_calls
unfolding image_page word_at programmed total_words place_of held queue_of pushed oldest popped leading data_ruling ruling_at allowed_words denied readable_words malformed out_of_range crosses_window operation_answer settings_fit work_fits running_fits physical_fits valid flash_fits valid_with recorded error_address configured set_region initialise_answer initialise start_answer start push_answer push stalls delivered read_word counted_bits advance step_progress step pop_answer pop whole_answer
read_meets = record {
  free = refl;
  room = refl;
  goes = refl;
  ended = record { idle = refl; drained = refl; in_order = firsts (end read read_calls).given read_buffer [] refl refl };
}

pub cut_meets : Meets cut read_buffer read_calls
unfolding image_page word_at programmed total_words place_of held queue_of pushed oldest popped leading data_ruling ruling_at allowed_words denied readable_words malformed out_of_range crosses_window operation_answer settings_fit work_fits running_fits physical_fits valid flash_fits valid_with recorded error_address configured set_region initialise_answer initialise start_answer start push_answer push stalls delivered read_word counted_bits advance step_progress step pop_answer pop whole_answer
cut_meets = record {
  free = refl;
  room = refl;
  goes = refl;
  ended = record { idle = refl; drained = refl; in_order = firsts (end cut read_calls).given read_buffer [] refl refl };
}

-- So the law applies to each:
same : (o : Operation) (b : List ℕ) (ks : List Drive) → Meets o b ks → SameAs o b (whole ready image o b) (end o ks)
same o b ks m = any_driver ready image o b ks m.free m.room m.goes m.ended

program_same : SameAs program program_buffer (whole ready image program program_buffer) (end program program_calls)
program_same = same program program_buffer program_calls program_meets

read_same : SameAs read read_buffer (whole ready image read read_buffer) (end read read_calls)
read_same = same read read_buffer read_calls read_meets

cut_same : SameAs cut read_buffer (whole ready image cut read_buffer) (end cut read_calls)
cut_same = same cut read_buffer read_calls cut_meets

-- What the drivers saw, and the whole operations therefore leave.
pub record Leave : Type 0 where
  -- the program: words 2 and 3 of the flash, with the 31 bits that fell
  pub programmed : take 5 (whole ready image program program_buffer).flash.words ≡ 0 ∷ 7 ∷ 1 ∷ 6 ∷ all_ones ∷ []
  pub fallen : (whole ready image program program_buffer).result.bits ≡ 31
  -- the read: the first three places of its buffer
  pub delivered : (whole ready image read read_buffer).buffer ≡ 0 ∷ 7 ∷ 9 ∷ 4 ∷ []
  -- the denied read: its true word, and ones
  pub cut_short : (whole ready image cut read_buffer).buffer ≡ 11 ∷ all_ones ∷ all_ones ∷ 4 ∷ []

pub leave : Leave
unfolding image_page word_at programmed total_words place_of held queue_of pushed oldest popped leading data_ruling ruling_at allowed_words denied readable_words malformed out_of_range crosses_window operation_answer settings_fit work_fits running_fits physical_fits valid flash_fits valid_with recorded error_address configured set_region initialise_answer initialise start_answer start push_answer push stalls delivered read_word counted_bits advance step_progress step pop_answer pop changed_bits differ_in
leave = record {
  programmed = ap (λ (f : Flash). take 5 f.words) (sym program_same.flash);
  fallen = sym program_same.bits;
  delivered = read_same.words;
  cut_short = cut_same.words;
}
