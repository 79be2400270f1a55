-- Reset, initialise with the seeds, and RMA. (01, 'Phases')
use Rattle.std.specs.Prelude.{Option, None, Some, ℕ, suc, Bool, true, false, ◌&&◌, ◌||◌, not, cond, List, [], ◌∷◌, eqb, take, drop, Err}
use Rattle.model.specs.Geometry.{pages_fit, first_word, image_page_of, is_data, special_page, creator_page, owner_page, isolated_page}
use Rattle.model.specs.Words.{all_ones}
use Rattle.model.specs.State.{Flash, flash, Leaves, with_phase, with_queues, empty_queues, reset_controller, is_ready, is_busy}
use Rattle.model.specs.Refusals.{accepts, check, or_else, settle}
use Rattle.model.specs.Valid.{valid_with}
use Rattle.model.specs.declared.BusWord.{BusWord}
use Rattle.model.specs.declared.ImagePage.{ImagePage}
use Rattle.model.specs.declared.Phase.{Phase}
use Rattle.model.specs.declared.Phase.TheVariants as phase
use Rattle.model.specs.declared.Controller.{Controller}
use Rattle.model.specs.declared.Outcome.{Outcome}
use Rattle.model.specs.declared.Seeds.{Seeds}
use Rattle.model.specs.declared.Initialised.{Initialised}
use Rattle.model.specs.Refusals.{Answer}
use Rattle.model.specs.declared.Refusal.TheVariants.{Invalid, Disabled, Busy, Unexpected}

-- Reset takes any state and checks only its D, for 1; refused, it hands that state back. It doesn't touch an image.
unfoldable pub reset : Controller → ℕ → Outcome
reset c d = settle c (reset_controller d) (check (not (pages_fit d)) (Err Invalid))

-- (01: shut)
abbrev pub is_disabled : Phase → Bool
is_disabled phase.Uninitialised = false
is_disabled phase.Ready = false
is_disabled phase.Disabled = true

-- ---- initialise

-- A seed is the first 8 bus words of its page (length is house).
abbrev pub seed_words : ℕ
seed_words = 8

abbrev pub seed_at : ℕ → ℕ → Flash → List ℕ
seed_at d page f = take seed_words (drop (first_word (special_page d page)).0 f.words)

-- With provision enabled the creator and owner seeds are handed out; otherwise none.
abbrev pub no_seeds : Option Seeds
no_seeds = None

abbrev pub seeds_of : ℕ → Flash → Seeds
seeds_of d f = record { creator = seed_at d creator_page f; owner = seed_at d owner_page f }

-- Checks 1, 2 and 12 (when ready).
unfoldable pub initialise_answer : Controller → Flash → Answer
initialise_answer c f =
    or_else (check (not (valid_with c f)) (Err Invalid))
    (or_else (check (is_disabled c.phase) (Err Disabled))
    (check (is_ready c.phase) (Err Unexpected)))

-- An uninitialised controller becomes ready.
unfoldable pub initialise : Controller → Flash → Initialised
initialise c f = record {
  controller = cond (accepts (initialise_answer c f)) (with_phase c phase.Ready) c;
  answer = initialise_answer c f;
  seeds = cond (accepts (initialise_answer c f) && c.setup.inputs.provision) (Some (seeds_of c.setup.pages f)) no_seeds;
}

-- ---- RMA

-- Every data page and the three special pages; other information pages are left alone (000).
abbrev pub is_special : ℕ → ImagePage → Bool
is_special d q =
    eqb q.0 (special_page d creator_page).0
    || (eqb q.0 (special_page d owner_page).0
    || eqb q.0 (special_page d isolated_page).0)

abbrev pub is_wiped : ℕ → BusWord → Bool
is_wiped d w = is_data d (image_page_of w) || is_special d (image_page_of w)

-- The words of an image, the first of them at place i, with ones in each place that RMA wipes.
unfoldable pub wiped : ℕ → ℕ → List ℕ → List ℕ
wiped d i [] = []
wiped d i (w ∷ ws) = cond (is_wiped d (record { 0 = i })) all_ones w ∷ wiped d (suc i) ws

-- Checks 1, 2 and 4.
unfoldable pub rma_answer : Controller → Flash → Answer
rma_answer c f =
    or_else (check (not (valid_with c f)) (Err Invalid))
    (or_else (check (is_disabled c.phase) (Err Disabled))
    (check (is_busy c.progress) (Err Busy)))

-- Both queues are emptied, and the controller is disabled until reset (000). Nothing else of it changes.
abbrev pub rma_controller : Controller → Controller
rma_controller c = with_phase (with_queues c empty_queues) phase.Disabled

unfoldable pub rma : Controller → Flash → Leaves Outcome
rma c f = record {
  result = settle c (rma_controller c) (rma_answer c f);
  flash = cond (accepts (rma_answer c f)) (flash (wiped c.setup.pages 0 f.words)) f;
}
