-- Demand 3: two lists of whole operations that keep out of each other's pages, in any shuffle. (01, 'Shuffles, for demand 3';
-- 02, L3)
use Rattle.std.specs.Prelude.{ℕ, ◌<◌, ◌≡◌, Bool, true, false, ◌&&◌, ◌||◌, not, List, [], ◌∷◌, eqb, length, take}
use Rattle.model.specs.Geometry.{page_of, image_page_of}
use Rattle.model.specs.Kinds.{is_read}
use Rattle.model.specs.Places.{span_address, total_words, place_of}
pub use Rattle.model.specs.State.{State, words_of}
use Rattle.model.specs.Rights.{first_denied}
use Rattle.model.specs.Refusals.{number_of, no_decider, reported, is_denied_read}
use Rattle.model.specs.Valid.{valid_with}
use Rattle.model.specs.Whole.{WholeLeaves, whole}
use Rattle.model.specs.declared.ImagePage.{ImagePage}
use Rattle.model.specs.declared.BusWord.{BusWord}
use Rattle.model.specs.declared.Errors.{Errors}
use Rattle.model.specs.declared.Operation.{Operation}
use Rattle.plans.specs.Plan.{Plan, Refused, Recorded, Reads, Programs, Erases, places_of, plan_of}

-- ---- lists of whole operations

-- 'Each operation with its own buffer': it holds the same before the operation in the shuffle as alone, and no other call
-- gets it.
pub record Job : Type 0 where
  pub operation : Operation
  pub buffer : List ℕ

-- 'Whole operations', by their calls: demand 2's meaning.
abbrev pub whole_of : State → Job → WholeLeaves
whole_of s j = whole s.controller s.flash j.operation j.buffer

-- 'Each operation gets controller and flash as the one before left them, and nobody else writes them meanwhile.'
unfoldable pub after : State → Job → State
after s j = record { controller = (whole_of s j).result.controller; flash = (whole_of s j).flash }

-- 'Its answer is none or a refusal with whatever that reports' (0 or the refusal's number; refusal 9 reports who decided, any
-- other answer none); 'its words are the whole buffer after it'; the bit count.
pub record Given : Type 0 where
  pub answer : ℕ
  pub decider : ℕ
  pub words : List ℕ
  pub bits : ℕ

abbrev pub given_of : WholeLeaves → Given
given_of w = record {
  answer = number_of w.result.answer;
  decider = reported w.result.answer;
  words = w.buffer;
  bits = w.result.bits;
}

unfoldable pub given : State → Job → Given
given s j = given_of (whole_of s j)

-- A list of operations: what each gives, and the controller and flash at the end.
abbrev pub all_given : State → List Job → List Given
all_given s [] = []
all_given s (j ∷ js) = given s j ∷ all_given (after s j) js

abbrev pub end_of : State → List Job → State
end_of s [] = s
end_of s (j ∷ js) = end_of (after s j) js

-- 'Shuffle them together in any way that keeps each list in its own order'; 'a shuffle has every operation of both lists
-- once'; 'either perhaps empty'. Here zs is a shuffle of xs and ys; the first index is the way it goes: it says of each
-- place of zs whether it comes from xs.
pub data Shuffle {A : Type 0} : List Bool → List A → List A → List A → Type 0 where
  done : Shuffle [] [] [] []
  left : {w : List Bool} {x : A} {xs ys zs : List A} → Shuffle w xs ys zs → Shuffle (true ∷ w) (x ∷ xs) ys (x ∷ zs)
  right : {w : List Bool} {y : A} {xs ys zs : List A} → Shuffle w xs ys zs → Shuffle (false ∷ w) xs (y ∷ ys) (y ∷ zs)

-- ---- which pages an operation reads, programs or erases

-- A page of the image has one of the places.
abbrev pub has_one : List BusWord → ImagePage → Bool
has_one [] q = false
has_one (p ∷ ps) q = eqb (image_page_of p).0 q.0 || has_one ps q

-- 'An operation that starts reads or programs each page with one of its n words, or erases each page it covers. One that
-- doesn't start does this to no page'; a denied read 'reads only its pages before the first denied one' (02, L3), which are those
-- of its true words. The pages that it reads,
abbrev pub reads_page : Plan → ImagePage → Bool
reads_page (Refused a) q = false
reads_page (Recorded a) q = false
reads_page (Reads a readable ps) q = has_one (take readable ps) q
reads_page (Programs ps) q = false
reads_page (Erases ps) q = false

-- those that it programs or erases,
abbrev pub changes_page : Plan → ImagePage → Bool
changes_page (Refused a) q = false
changes_page (Recorded a) q = false
changes_page (Reads a readable ps) q = false
changes_page (Programs ps) q = has_one ps q
changes_page (Erases ps) q = has_one ps q

-- and those that it reads, programs or erases.
abbrev pub touches_page : Plan → ImagePage → Bool
touches_page p q = reads_page p q || changes_page p q

-- What an operation does at the controller and flash that it gets.
abbrev pub plan_at : State → Job → Plan
plan_at s j = plan_of s.controller s.flash j.operation j.buffer

-- That these are the pages that the sentence names, in the words of answers and places:
pub record RightPages (s : State) (j : Job) (q : ImagePage) : Type 0 where
  -- a refused operation that is no denied read touches no page,
  pub refused : ((given s j).answer ≡ 0 → ⊥) → is_denied_read j.operation (given s j).answer ≡ false
      → touches_page (plan_at s j) q ≡ false
  -- a denied read changes none, and reads the pages before the first denied one with one of its words;
  pub denied_changes : is_denied_read j.operation (given s j).answer ≡ true → changes_page (plan_at s j) q ≡ false
  pub denied_each : is_denied_read j.operation (given s j).answer ≡ true → (k : ℕ) → k < j.operation.count
      → (page_of (span_address j.operation k)).0 < (first_denied s.controller.setup j.operation).0
      → image_page_of (place_of s.controller.setup.pages j.operation k) ≡ q → reads_page (plan_at s j) q ≡ true
  pub denied_only : is_denied_read j.operation (given s j).answer ≡ true → reads_page (plan_at s j) q ≡ true
      → (k : ℕ) × (k < j.operation.count)
      × ((page_of (span_address j.operation k)).0 < (first_denied s.controller.setup j.operation).0)
      × (image_page_of (place_of s.controller.setup.pages j.operation k) ≡ q)
  -- an accepted read reads the pages with one of its words, and another operation programs or erases them;
  pub reads : (given s j).answer ≡ 0
      → reads_page (plan_at s j) q ≡ (is_read j.operation && has_one (places_of s.controller.setup.pages j.operation) q)
  pub changes : (given s j).answer ≡ 0
      → changes_page (plan_at s j) q ≡ (not (is_read j.operation) && has_one (places_of s.controller.setup.pages j.operation) q)
  -- these are the pages of its words, and no others.
  pub each : (k : ℕ) → k < total_words s.controller.setup.pages j.operation
      → image_page_of (place_of s.controller.setup.pages j.operation k) ≡ q
      → has_one (places_of s.controller.setup.pages j.operation) q ≡ true
  pub only : has_one (places_of s.controller.setup.pages j.operation) q ≡ true
      → (k : ℕ) × (k < total_words s.controller.setup.pages j.operation)
      × (image_page_of (place_of s.controller.setup.pages j.operation k) ≡ q)

abbrev pub Footprints : Type 0
Footprints = (s : State) (j : Job) (q : ImagePage) → RightPages s j q

-- What a list does, run alone from s: some operation of it does it to the page, at the controller and flash that it gets.
abbrev pub along : (Plan → ImagePage → Bool) → State → List Job → ImagePage → Bool
along does s [] q = false
along does s (j ∷ js) q = does (plan_at s j) q || along does (after s j) js q

abbrev pub changes : State → List Job → ImagePage → Bool
changes = along changes_page

abbrev pub touches : State → List Job → ImagePage → Bool
touches = along touches_page

-- 'No page that one list programs or erases is read, programmed or erased by the other.'
pub record Apart (s : State) (xs ys : List Job) : Type 0 where
  pub first : (q : ImagePage) → changes s xs q ≡ true → touches s ys q ≡ false
  pub second : (q : ImagePage) → changes s ys q ≡ true → touches s xs q ≡ false

-- ---- what a shuffle leaves

-- The recorded kinds: of refusals 5, 7, 8 and 9, those that were recorded.
pub record Kinds : Type 0 where
  pub malformed : Bool
  pub range : Bool
  pub window : Bool
  pub denied : Bool

abbrev pub kinds_in : Errors → Kinds
kinds_in e = record { malformed = e.malformed; range = e.range; window = e.window; denied = e.denied }

abbrev pub kinds_of : State → Kinds
kinds_of s = kinds_in s.controller.errors

-- 'The union of the two sets.'
abbrev pub union : Kinds → Kinds → Kinds
union a b = record {
  malformed = a.malformed || b.malformed;
  range = a.range || b.range;
  window = a.window || b.window;
  denied = a.denied || b.denied;
}

-- What the shuffle zs of xs and ys leaves, beside what each list alone leaves: all three begin with the state s.
pub record Commutes (s : State) (way : List Bool) (xs ys zs : List Job) : Type 0 where
  -- 'Each operation gives the answer, the words and the bit count it gives when its own list runs alone': what they give is
  -- shuffled as they are.
  pub outcomes : Shuffle way (all_given s xs) (all_given s ys) (all_given s zs)
  -- 'A page that one list programs or erases ends as that list alone leaves it, every other page as it began.'
  pub first_pages : (q : ImagePage) → changes s xs q ≡ true → words_of (end_of s zs).flash q ≡ words_of (end_of s xs).flash q
  pub second_pages : (q : ImagePage) → changes s ys q ≡ true → words_of (end_of s zs).flash q ≡ words_of (end_of s ys).flash q
  pub other_pages : (q : ImagePage) → changes s xs q ≡ false → changes s ys q ≡ false
      → words_of (end_of s zs).flash q ≡ words_of s.flash q
  -- The image keeps its length: beside its pages there is nothing of it.
  pub as_long : length (end_of s zs).flash.words ≡ length s.flash.words
  -- 'The recorded kinds at the end are the union of the two sets that the lists, each run alone, end with.' Nothing is said of
  -- the last address: 'The address of the last error may differ.'
  pub kinds : kinds_of (end_of s zs) ≡ union (kinds_of (end_of s xs)) (kinds_of (end_of s ys))

-- 'For all such lists and every shuffle', and for every controller and flash: ready, idle and with empty queues or not, and
-- also where check 1 fails.
abbrev pub Demand3 : Type 0
Demand3 =
    (s : State) (way : List Bool) (xs ys zs : List Job) → Apart s xs ys → Shuffle way xs ys zs → Commutes s way xs ys zs

-- 'So all shuffles end with the same flash and the same kinds.'
abbrev pub AllAlike : Type 0
AllAlike =
    (s : State) (way way' : List Bool) (xs ys zs zs' : List Job) → Apart s xs ys → Shuffle way xs ys zs
    → Shuffle way' xs ys zs' → ((end_of s zs).flash ≡ (end_of s zs').flash) × (kinds_of (end_of s zs) ≡ kinds_of (end_of s zs'))

-- 'Where check 1 fails, every operation gives 1', which reports no decider, with its buffer as it was and a bit count of 0;
-- controller and flash stay.
abbrev pub refused_invalid : List Job → List Given
refused_invalid [] = []
refused_invalid (j ∷ js) = record { answer = 1; decider = no_decider; words = j.buffer; bits = 0 } ∷ refused_invalid js

abbrev pub WhereInvalid : Type 0
WhereInvalid =
    (s : State) (js : List Job) → valid_with s.controller s.flash ≡ false
    → (all_given s js ≡ refused_invalid js) × (end_of s js ≡ s)
