-- A scan call is its calls: it leaves what a list of public calls leaves. So what is promised of calls (ValidStays, Confined,
-- RisesByErase and the others) is promised of scans. (02, L11)
use Rattle.std.specs.Prelude.{ℕ, zero, suc, ◌≤◌, min, ◌≡◌, Bool, true, false, ◌&&◌, cond, List, [], ◌∷◌, ◌++◌, eqb, length, get_or}
use Rattle.model.specs.Kinds.{is_read, is_program}
use Rattle.model.specs.Places.{total_words}
use Rattle.model.specs.State.{Flash}
use Rattle.model.specs.Refusals.{accepts}
use Rattle.model.specs.Steps.{starts, start}
use Rattle.model.specs.Valid.{valid}
use Rattle.model.specs.Whole.{whole_answer, short_buffer}
use Rattle.model.specs.declared.Operation.{Operation}
use Rattle.model.specs.declared.Controller.{Controller}
use Rattle.promises.specs.Calls.{Call, State, Reset, SetInputs, SetRegion, SetDefault, SetInfo, SetErase, Initialise, Start, Step, Push, Pop, Whole, HostRead, ViewPage, Clear, Rma, Round, run}
use Rattle.registers.specs.Layout.{register_count}
use Rattle.registers.specs.Registers.{is_on, setup_of, decode}
use Rattle.driving.specs.Drives.{driven_in}
use Rattle.scan_queue.specs.Decisions.{Decision, taking}
use Rattle.scan_pages.specs.Pages.{pages_answer}
use Rattle.scans.specs.Jobs.{Job, jobs, jobs_in}
use Rattle.scans.specs.Scans.{writing, write_in, waiting, take_in}

-- The state that registers and flash stand for.
abbrev pub standing : List ℕ → Flash → State
standing s f = record { controller = decode s; flash = f }

-- ---- an operation for at most so many steps

-- The calls for word k: of a read step and pop, of a program push and step, of an erase step.
abbrev pub word_calls : Operation → List ℕ → ℕ → List Call
word_calls o b k = cond (is_read o) (Step ∷ Pop ∷ []) (cond (is_program o) (Push (get_or b k 0) ∷ Step ∷ []) (Step ∷ []))

-- The calls for the first n words, in order.
unfoldable pub turn_calls : Operation → List ℕ → ℕ → List Call
turn_calls o b zero = []
turn_calls o b (suc n) = turn_calls o b n ++ word_calls o b n

-- The start, and the turns of what it starts.
abbrev pub start_calls : ℕ → Controller → Operation → List ℕ → List Call
start_calls n c o b = Start o ∷ cond (starts o (start c o).answer) (turn_calls o b (min n (total_words c.setup.pages o))) []

-- Where checks 1 to 4 or 6 refuse, nothing is called.
unfoldable pub driven_calls : ℕ → Controller → Flash → Operation → List ℕ → List Call
driven_calls n c f o b = cond (accepts (whole_answer c f)) (cond (short_buffer o b) [] (start_calls n c o b)) []

-- ---- operations one after the other, and the two scan calls

unfoldable pub job_calls : ℕ → List ℕ → Flash → List Job → List Call
job_calls n s f [] = []
job_calls n s f (j ∷ js) =
    driven_calls n (decode s) f j.operation j.words
    ++ cond (is_on (driven_in n s f j.operation j.words).told.cut) []
    (job_calls (driven_in n s f j.operation j.words).told.left
    (driven_in n s f j.operation j.words).registers
    (driven_in n s f j.operation j.words).flash js)

-- What is decided from the words, unless 1 to 4 or 16 refuse.
abbrev pub decision_calls : ℕ → List ℕ → Flash → ℕ → ℕ → Decision → List Call
decision_calls n s f a b d = cond (eqb (pages_answer (decode s) f a b) 0) (job_calls n s f (jobs (setup_of s).pages d)) []

unfoldable pub write_calls : ℕ → List ℕ → Flash → ℕ → ℕ → List ℕ → List Call
write_calls n s f a b bytes = decision_calls n s f a b (writing s f a b bytes)

unfoldable pub take_calls : ℕ → List ℕ → Flash → ℕ → ℕ → List Call
take_calls n s f a b = decision_calls n s f a b (taking (waiting s f a b))

-- ---- no scan call pops

abbrev pub is_driving : Call → Bool
is_driving (Reset d) = false
is_driving (SetInputs i) = false
is_driving (SetRegion n g) = false
is_driving (SetDefault r) = false
is_driving (SetInfo bank t page p) = false
is_driving (SetErase bank on) = false
is_driving Initialise = false
is_driving (Start o) = true
is_driving Step = true
is_driving (Push w) = true
is_driving Pop = false
is_driving (Whole o b) = false
is_driving (HostRead a) = false
is_driving (ViewPage p) = false
is_driving Clear = false
is_driving Rma = false
is_driving (Round h b) = false

-- Only starts, steps and pushes.
abbrev pub drives_only : List Call → Bool
drives_only [] = true
drives_only (k ∷ ks) = is_driving k && drives_only ks

-- ---- the promise

-- These calls, on what s and f stand for, leave what t and g stand for.
pub record IsCalls (s : List ℕ) (f : Flash) (ks : List Call) (t : List ℕ) (g : Flash) : Type 0 where
  pub leaves : run (standing s f) ks ≡ standing t g
  pub only : drives_only ks ≡ true

-- The type of an operation is a byte, as the code's types say. (That of a scan's is 0.)
abbrev pub TypesFit : List Job → Type 0
TypesFit [] = Unit {0}
TypesFit (j ∷ js) = (j.operation.info ≤ 255) × TypesFit js

-- Whatever registers, flash, pages and bytes are, with any number of steps, accepted or refused.
pub record ScanIsCalls : Type 0 where
  pub drives : (n : ℕ) (s : List ℕ) (f : Flash) (o : Operation) (b : List ℕ) → length s ≡ register_count → o.info ≤ 255
      → run (standing s f) (driven_calls n (decode s) f o b) ≡ standing (driven_in n s f o b).registers (driven_in n s f o b).flash
  pub works : (n : ℕ) (s : List ℕ) (f : Flash) (js : List Job) → length s ≡ register_count → TypesFit js
      → run (standing s f) (job_calls n s f js) ≡ standing (jobs_in n s f js).registers (jobs_in n s f js).flash
  pub writes : (n : ℕ) (s : List ℕ) (f : Flash) (a b : ℕ) (bytes : List ℕ) → length s ≡ register_count
      → IsCalls s f (write_calls n s f a b bytes) (write_in n s f a b bytes).registers (write_in n s f a b bytes).flash
  pub takes : (n : ℕ) (s : List ℕ) (f : Flash) (a b : ℕ) → length s ≡ register_count
      → IsCalls s f (take_calls n s f a b) (take_in n s f a b).registers (take_in n s f a b).flash

-- So a scan call leaves a valid state valid, wherever the power is cut.
pub record ScanStaysValid : Type 0 where
  pub writes : (n : ℕ) (s : List ℕ) (f : Flash) (a b : ℕ) (bytes : List ℕ) → length s ≡ register_count → valid (decode s) ≡ true
      → valid (decode (write_in n s f a b bytes).registers) ≡ true
  pub takes : (n : ℕ) (s : List ℕ) (f : Flash) (a b : ℕ) → length s ≡ register_count → valid (decode s) ≡ true
      → valid (decode (take_in n s f a b).registers) ≡ true
