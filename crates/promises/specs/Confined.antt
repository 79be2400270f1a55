-- Confinement: a page that may be neither programmed nor erased keeps every word, and a 0 bit becomes 1 only by an erase
-- or RMA that covers it.
use Rattle.std.specs.Prelude.{None, Some}
use Rattle.std.specs.Prelude.{ℕ, zero, suc, ◌/◌, ◌%◌, ◌^◌, ◌<◌, ◌≡◌, Bool, true, false, ◌&&◌, ◌||◌, not, List, [], ◌∷◌, eqb, get_or}
use Rattle.model.specs.Geometry.{bank_of_page, image_page_of}
use Rattle.model.specs.Kinds.{is_page_erase, is_bank_erase, program_right, erase_right}
use Rattle.model.specs.Places.{total_words, place_of}
use Rattle.model.specs.State.{Flash, stored}
pub use Rattle.model.specs.State.{words_of}
use Rattle.model.specs.Rights.{grants, ruling_of_page}
use Rattle.model.specs.Lifecycle.{is_wiped}
use Rattle.model.specs.Valid.{valid}
use Rattle.model.specs.declared.ImagePage.{ImagePage}
use Rattle.model.specs.declared.Operation.{Operation}
use Rattle.model.specs.declared.Work.TheVariants.{Read, Program, Erase}
use Rattle.model.specs.State.{Progress}
use Rattle.model.specs.declared.Setup.{Setup}
use Rattle.model.specs.declared.Controller.{Controller}
use Rattle.model.specs.declared.BusWord.{BusWord}
use Rattle.promises.specs.Calls.{Call, State, Shaped, Reset, SetInputs, SetRegion, SetDefault, SetInfo, SetErase, Initialise, Start, Step, Push, Pop, Whole, HostRead, ViewPage, Clear, Rma, Round, perform, run}

-- ---- a protected page

-- Neither the program nor the erase right, in a bank whose erase permission is off.
unfoldable pub protected : Setup → ImagePage → Bool
protected s q =
    not (get_or s.settings.erase (bank_of_page s.pages q) false)
    && (not (grants (ruling_of_page s q).rights program_right)
    && not (grants (ruling_of_page s q).rights erase_right))

-- ---- any list of calls but RMA that leaves those settings alone

abbrev pub is_rma : Call → Bool
is_rma (Reset d) = false
is_rma (SetInputs i) = false
is_rma (SetRegion n g) = false
is_rma (SetDefault r) = false
is_rma (SetInfo bank t page p) = false
is_rma (SetErase bank on) = false
is_rma Initialise = false
is_rma (Start o) = false
is_rma Step = false
is_rma (Push w) = false
is_rma Pop = false
is_rma (Whole o b) = false
is_rma (HostRead a) = false
is_rma (ViewPage p) = false
is_rma Clear = false
is_rma Rma = true
is_rma (Round h b) = false

-- The page is protected at every call of the list, and none of them is RMA.
abbrev pub protected_along : ImagePage → State → List Call → Bool
protected_along q s [] = true
protected_along q s (k ∷ ks) = (protected s.controller.setup q && not (is_rma k)) && protected_along q (perform s k).state ks

abbrev pub Confined : Type 0
Confined =
    (s : State) (ks : List Call) (q : ImagePage) → Shaped s.controller → valid s.controller ≡ true
    → protected_along q s ks ≡ true → words_of (run s ks).flash q ≡ words_of s.flash q

-- ---- a 0 bit becomes 1 only by an erase or RMA that covers it

abbrev pub bit_of : Flash → BusWord → ℕ → ℕ
bit_of f place bit = stored f place / 2 ^ bit % 2

-- The next step of what is in progress erases the place.
abbrev pub step_erases : ℕ → Progress → BusWord → Bool
step_erases d None place = false
step_erases d (Some (Read o k readable)) place = false
step_erases d (Some (Program o k)) place = false
step_erases d (Some (Erase o k)) place = eqb (place_of d o k).0 place.0

-- One of the first n words of an operation is at the place.
abbrev pub has_word_at : ℕ → Operation → ℕ → BusWord → Bool
has_word_at d o zero place = false
has_word_at d o (suc n) place = eqb (place_of d o n).0 place.0 || has_word_at d o n place

-- A whole erase erases the places of all its words.
abbrev pub whole_erases : ℕ → Operation → BusWord → Bool
whole_erases d o place = (is_page_erase o || is_bank_erase o) && has_word_at d o (total_words d o) place

abbrev pub erases_place : Controller → Call → BusWord → Bool
erases_place c (Reset d) place = false
erases_place c (SetInputs i) place = false
erases_place c (SetRegion n g) place = false
erases_place c (SetDefault r) place = false
erases_place c (SetInfo bank t page p) place = false
erases_place c (SetErase bank on) place = false
erases_place c Initialise place = false
erases_place c (Start o) place = false
erases_place c Step place = step_erases c.setup.pages c.progress place
erases_place c (Push w) place = false
erases_place c Pop place = false
erases_place c (Whole o b) place = whole_erases c.setup.pages o place
erases_place c (HostRead a) place = false
erases_place c (ViewPage p) place = false
erases_place c Clear place = false
erases_place c Rma place = is_wiped c.setup.pages place
erases_place c (Round h b) place = b && step_erases c.setup.pages c.progress place

abbrev pub RisesByErase : Type 0
RisesByErase =
    (s : State) (k : Call) (place : BusWord) (bit : ℕ) → bit_of s.flash place bit ≡ 0 → bit_of (perform s k).state.flash place bit ≡ 1
    → erases_place s.controller k place ≡ true

-- ---- a page with one of the two rights: its bits go one way only

-- The page may be erased: it has the erase right, or its bank's erase permission is on.
unfoldable pub erasable : Setup → ImagePage → Bool
erasable s q = get_or s.settings.erase (bank_of_page s.pages q) false || grants (ruling_of_page s q).rights erase_right

unfoldable pub programmable : Setup → ImagePage → Bool
programmable s q = grants (ruling_of_page s q).rights program_right

-- The page may not be erased at any call of the list, and none of them is RMA: no bit of it rises.
abbrev pub unerased_along : ImagePage → State → List Call → Bool
unerased_along q s [] = true
unerased_along q s (k ∷ ks) = (not (erasable s.controller.setup q) && not (is_rma k)) && unerased_along q (perform s k).state ks

abbrev pub NoneRises : Type 0
NoneRises =
    (s : State) (ks : List Call) (place : BusWord) (bit : ℕ) → Shaped s.controller → valid s.controller ≡ true
    → unerased_along (image_page_of place) s ks ≡ true → bit_of s.flash place bit ≡ 0
    → bit_of (run s ks).flash place bit ≡ 0

-- The page may not be programmed at any call of the list: no bit of its 32-bit words falls, even by RMA.
abbrev pub unprogrammed_along : ImagePage → State → List Call → Bool
unprogrammed_along q s [] = true
unprogrammed_along q s (k ∷ ks) = not (programmable s.controller.setup q) && unprogrammed_along q (perform s k).state ks

abbrev pub NoneFalls : Type 0
NoneFalls =
    (s : State) (ks : List Call) (place : BusWord) (bit : ℕ) → Shaped s.controller → valid s.controller ≡ true
    → unprogrammed_along (image_page_of place) s ks ≡ true → bit < 32 → bit_of s.flash place bit ≡ 1
    → bit_of (run s ks).flash place bit ≡ 1
