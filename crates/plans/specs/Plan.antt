-- What a whole operation does: a plan, which checks and lengths decide, and the performance of the plan at its places.
-- Neither mentions a step or a queue's words.
use Rattle.std.specs.Prelude.{ℕ, zero, suc, ◌+◌, ◌≡◌, cond, List, [], ◌∷◌, ◌++◌, length, get_or, drop, Err}
use Rattle.model.specs.Words.{all_ones, programmed}
use Rattle.model.specs.Kinds.{is_read, is_program}
use Rattle.model.specs.Places.{total_words, place_of}
use Rattle.model.specs.Queue.{empty_queue}
use Rattle.model.specs.State.{Flash, stored, with_word, with_queues, with_reads, with_programs}
use Rattle.model.specs.Rights.{readable_words}
use Rattle.model.specs.Refusals.{number_of, accepts}
use Rattle.model.specs.Checks.{operation_answer}
use Rattle.model.specs.Errors.{with_recorded}
use Rattle.model.specs.Steps.{starts, delivered, read_word, counted_bits}
use Rattle.model.specs.Whole.{WholeLeaves, leaving, whole_answer, short_buffer, whole}
use Rattle.model.specs.declared.BusWord.{BusWord}
use Rattle.model.specs.declared.Operation.{Operation}
use Rattle.model.specs.declared.Setup.{Setup}
use Rattle.model.specs.declared.Controller.{Controller}
use Rattle.model.specs.Refusals.{Answer}
use Rattle.model.specs.Refusals.{accepted}
use Rattle.model.specs.declared.Refusal.TheVariants.{ShortBuffer}

-- ---- the plan

-- `Refused` changes nothing, `Recorded` the error record alone: each has the answer, with what it reports.
-- The others start: they read, program or erase these places, in this order. Of a read so many words, from the first on, are the
-- true ones, and the others ones; it has its answer too, which is recorded if it is 9.
pub data Plan : Type 0 where
  Refused : Answer → Plan
  Recorded : Answer → Plan
  Reads : Answer → ℕ → List BusWord → Plan
  Programs : List BusWord → Plan
  Erases : List BusWord → Plan

-- The places of words k to k + n - 1.
abbrev pub places_from : ℕ → Operation → ℕ → ℕ → List BusWord
places_from d o k zero = []
places_from d o k (suc n) = place_of d o k ∷ places_from d o (k + 1) n

unfoldable pub places_of : ℕ → Operation → List BusWord
places_of d o = places_from d o 0 (total_words d o)

-- The places of a read's true words.
unfoldable pub true_places : Setup → Operation → List BusWord
true_places s o = places_from s.pages o 0 (readable_words s o)

abbrev pub plan_started : Setup → Operation → Answer → Plan
plan_started s o a =
    cond (is_read o) (Reads a (readable_words s o) (places_of s.pages o))
    (cond (is_program o) (Programs (places_of s.pages o)) (Erases (places_of s.pages o)))

-- By the answer of checks 5, 7, 8 and 9.
abbrev pub plan_answered : Setup → Operation → Answer → Plan
plan_answered s o a = cond (starts o a) (plan_started s o a) (Recorded a)

-- Checks 1 to 4, then 6 of a well-formed operation, then the others.
unfoldable pub plan_of : Controller → Flash → Operation → List ℕ → Plan
plan_of c f o b =
    cond (accepts (whole_answer c f))
    (cond (short_buffer o b) (Refused (Err ShortBuffer)) (plan_answered c.setup o (operation_answer c.setup o)))
    (Refused (whole_answer c f))

-- ---- its performance

-- The words that a read delivers, from word k on, whose places these are.
abbrev pub delivered_at : Flash → ℕ → ℕ → List BusWord → List ℕ
delivered_at f readable k [] = []
delivered_at f readable k (p ∷ ps) = read_word f readable k p ∷ delivered_at f readable (k + 1) ps

-- The true words at places.
abbrev pub words_at : Flash → List BusWord → List ℕ
words_at f [] = []
words_at f (p ∷ ps) = delivered f p ∷ words_at f ps

-- Word k, at the next place, becomes `new k old`: the flash after all of them, and the bits that count as changed.
abbrev pub stored_all : (ℕ → ℕ → ℕ) → ℕ → List BusWord → Flash → Flash
stored_all new k [] f = f
stored_all new k (p ∷ ps) f = stored_all new (k + 1) ps (with_word f p (new k (stored f p)))

abbrev pub changed_all : Setup → (ℕ → ℕ → ℕ) → ℕ → List BusWord → Flash → ℕ
changed_all s new k [] f = 0
changed_all s new k (p ∷ ps) f =
    counted_bits s p (stored f p) (new k (stored f p))
    + changed_all s new (k + 1) ps (with_word f p (new k (stored f p)))

-- A program combines word k of the buffer with the stored one; an erase leaves ones.
abbrev pub programming : List ℕ → ℕ → ℕ → ℕ
programming b k old = programmed old (get_or b k 0)

abbrev pub erasing : ℕ → ℕ → ℕ
erasing k old = all_ones

-- The queue that words went through is left empty, with zeros in its places.
abbrev pub reads_drained : Controller → Controller
reads_drained c = with_queues c (with_reads c.queues empty_queue)

abbrev pub programs_drained : Controller → Controller
programs_drained c = with_queues c (with_programs c.queues empty_queue)

unfoldable pub performed : Controller → Flash → Operation → List ℕ → Plan → WholeLeaves
performed c f o b (Refused a) = leaving c a 0 f b
performed c f o b (Recorded a) = leaving (with_recorded c (number_of a) o) a 0 f b
performed c f o b (Reads a readable ps) =
    leaving (reads_drained (with_recorded c (number_of a) o)) a 0 f (delivered_at f readable 0 ps ++ drop (length ps) b)
performed c f o b (Programs ps) =
    leaving (programs_drained c) accepted (changed_all c.setup (programming b) 0 ps f) (stored_all (programming b) 0 ps f) b
performed c f o b (Erases ps) =
    leaving c accepted (changed_all c.setup erasing 0 ps f) (stored_all erasing 0 ps f) b

-- ---- the law: a whole operation, by its calls, leaves what its plan does

abbrev pub ClosedForm : Type 0
ClosedForm = (c : Controller) (f : Flash) (o : Operation) (b : List ℕ) → whole c f o b ≡ performed c f o b (plan_of c f o b)
