-- The controller's state and the flash that it is lent; the parts of the state that calls change. (01, 'Phases')
use Rattle.std.specs.Prelude.{Option, None, Some, ℕ, Bool, true, false, List, eqb, length, get_or, set, take, drop, replicate, is_some}
use Rattle.model.specs.Geometry.{page_words, image_words, first_word}
use Rattle.model.specs.Queue.{empty_queue}
use Rattle.model.specs.declared.ImagePage.{ImagePage}
use Rattle.model.specs.declared.BusWord.{BusWord}
use Rattle.model.specs.declared.Phase.{Phase}
use Rattle.model.specs.declared.Phase.TheVariants.{Uninitialised, Ready, Disabled}
use Rattle.model.specs.declared.Inputs.{Inputs}
use Rattle.model.specs.declared.Region.{Region}
use Rattle.model.specs.declared.PageSetting.{PageSetting}
use Rattle.model.specs.declared.Settings.{Settings}
use Rattle.model.specs.declared.Errors.{Errors}
use Rattle.model.specs.declared.Queue.{Queue}
use Rattle.model.specs.declared.Queues.{Queues}
use Rattle.model.specs.declared.Operation.{Operation}
use Rattle.model.specs.declared.Work.{Work}
use Rattle.model.specs.declared.Work.TheVariants.{Read, Program, Erase}
use Rattle.model.specs.declared.Setup.{Setup}
use Rattle.model.specs.declared.Physical.{Physical}
use Rattle.model.specs.declared.Controller.{Controller}

-- The flash that a caller lends: the bus words of the image.
pub record Flash : Type 0 where
  pub words : List ℕ

-- The flash of these words: contracts name a lent image by it.
abbrev pub flash : List ℕ → Flash
flash ws = record { words = ws }

-- The word stored at a place, and the flash with another word there.
abbrev pub stored : Flash → BusWord → ℕ
stored f p = get_or f.words p.0 0

abbrev pub with_word : Flash → BusWord → ℕ → Flash
with_word f p w = flash (set f.words p.0 w)

-- The flash fits D: the image is as long as D says. (01, refusal 1)
unfoldable pub flash_fits : ℕ → Flash → Bool
flash_fits d f = eqb (length f.words) (image_words d)

-- What a call that is lent the flash leaves: its result, and the flash.
pub record Leaves (Result : Type 0) : Type 0 where
  pub result : Result
  pub flash : Flash

-- Controller and flash: what a list of calls works on, each as the one before left them.
pub record State : Type 0 where
  pub controller : Controller
  pub flash : Flash

-- The words of a page of the image.
abbrev pub words_of : Flash → ImagePage → List ℕ
words_of f q = take page_words (drop (first_word q).0 f.words)

-- ---- one part changed, the others as they were

abbrev pub with_setup : Controller → Setup → Controller
with_setup c s = record {
  setup = s;
  phase = c.phase;
  errors = c.errors;
  queues = c.queues;
  progress = c.progress;
  physical = c.physical;
}

abbrev pub with_inputs : Controller → Inputs → Controller
with_inputs c i = with_setup c (record { pages = c.setup.pages; inputs = i; settings = c.setup.settings })

abbrev pub with_settings : Controller → Settings → Controller
with_settings c s = with_setup c (record { pages = c.setup.pages; inputs = c.setup.inputs; settings = s })

abbrev pub with_phase : Controller → Phase → Controller
with_phase c p = record {
  setup = c.setup;
  phase = p;
  errors = c.errors;
  queues = c.queues;
  progress = c.progress;
  physical = c.physical;
}

abbrev pub with_errors : Controller → Errors → Controller
with_errors c e = record {
  setup = c.setup;
  phase = c.phase;
  errors = e;
  queues = c.queues;
  progress = c.progress;
  physical = c.physical;
}

abbrev pub with_queues : Controller → Queues → Controller
with_queues c q = record {
  setup = c.setup;
  phase = c.phase;
  errors = c.errors;
  queues = q;
  progress = c.progress;
  physical = c.physical;
}

-- What is in progress, if anything.
abbrev pub Progress : Type 0
Progress = Option Work

abbrev pub with_progress : Controller → Progress → Controller
with_progress c p = record {
  setup = c.setup;
  phase = c.phase;
  errors = c.errors;
  queues = c.queues;
  progress = p;
  physical = c.physical;
}

abbrev pub with_physical : Controller → Physical → Controller
with_physical c p = record {
  setup = c.setup;
  phase = c.phase;
  errors = c.errors;
  queues = c.queues;
  progress = c.progress;
  physical = p;
}

abbrev pub with_reads : Queues → Queue → Queues
with_reads q r = record { reads = r; programs = q.programs }

abbrev pub with_programs : Queues → Queue → Queues
with_programs q p = record { reads = q.reads; programs = p }

-- ---- the state after reset (01: fresh): every setting and input off or 0, empty queues and records

abbrev pub inputs_off : Inputs
inputs_off = record { provision = false; locked = false }

abbrev pub region_off : Region
region_off = record { on = false; first = record { 0 = 0 }; count = 0; rights = 0 }

abbrev pub page_off : PageSetting
page_off = record { on = false; rights = 0 }

abbrev pub settings_off : Settings
settings_off = record {
  regions = replicate 8 region_off;
  default_rights = 0;
  info = replicate 26 page_off;
  erase = replicate 2 false;
}

abbrev pub no_errors : Errors
no_errors = record { malformed = false; range = false; window = false; denied = false; address = record { 0 = 0 } }

abbrev pub empty_queues : Queues
empty_queues = record { reads = empty_queue; programs = empty_queue }

-- Lost counts start at 0 at reset. (02, L1)
abbrev pub reset_physical : Physical
reset_physical = record { lost = replicate 2 0 }

abbrev pub reset_controller : ℕ → Controller
reset_controller d = record {
  setup = record { pages = d; inputs = inputs_off; settings = settings_off };
  phase = Uninitialised;
  errors = no_errors;
  queues = empty_queues;
  progress = None;
  physical = reset_physical;
}

-- ---- the phase, and whether an operation is in progress

abbrev pub is_ready : Phase → Bool
is_ready Uninitialised = false
is_ready Ready = true
is_ready Disabled = false

abbrev pub is_busy : Progress → Bool
is_busy p = is_some p

-- Of what is in progress: the operation, and how many of its words have moved.
abbrev pub operation_of : Work → Operation
operation_of (Read o k readable) = o
operation_of (Program o k) = o
operation_of (Erase o k) = o

abbrev pub moved_of : Work → ℕ
moved_of (Read o k readable) = k
moved_of (Program o k) = k
moved_of (Erase o k) = k
