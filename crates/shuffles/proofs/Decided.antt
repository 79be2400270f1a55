-- The premise of demand 3, and the error record at the end of a list, by the plans at the start. Assumes nothing.
use Prim.Native.Nat.{ℕ}
use mathlib.Core.Path.{◌≡◌, refl, sym, ap, ap₂, ◌∙◌}
use mathlib.Core.Bool.{Bool, true, false, ◌&&◌, ◌||◌, not, or_assoc, false≢true}
use mathlib.Core.List.{List, [], ◌∷◌, ◌++◌}
use lib.Dec.{eqb}
use lib.ListN.{length}
use borrow.Author.Tests.{eqb-true, not-true}
use Rattle.model.specs.Geometry.{image_page_of}
use Rattle.model.specs.Valid.{all}
use Rattle.model.specs.declared.ImagePage.{ImagePage}
use Rattle.model.specs.declared.BusWord.{BusWord}
use Rattle.model.specs.declared.Errors.{Errors}
use Rattle.model.specs.declared.Setup.{Setup}
use Rattle.model.proofs.Bool.{and_left, and_right, by_test}
use Rattle.plans.specs.Plan.{Plan}
use Rattle.shuffles.specs.Shuffle.{Job, State, after, end_of, has_one, changes_page, touches_page, plan_at, along, changes, touches, Apart}
use Rattle.shuffles.proofs.Pages.{Off}
use Rattle.shuffles.proofs.Views.{View, view_of, errors_after, kinds_by}
use Rattle.shuffles.proofs.Commute.{some, along_some, frames}
use Rattle.shuffles.proofs.Demand3.{Like, like_itself, stays, plan_like, errors_are, laws}
use Rattle.shuffles.proofs.Touched.{changed_places, touched_places, changed_pages, touched_pages}

-- ---- the places of a list's plans

-- A page has a place of one list or the other if it has one of both together.
has_either : (ps rs : List BusWord) (q : ImagePage) → (has_one ps q || has_one rs q) ≡ has_one (ps ++ rs) q
has_either [] rs q = refl
has_either (p ∷ ps) rs q = or_assoc (eqb (image_page_of p).0 q.0) (has_one ps q) (has_one rs q) ∙ rw (has_either ps rs q)

-- The places of a list's plans, at the start.
abbrev places_by : (Plan → List BusWord) → State → List Job → List BusWord
places_by places s [] = []
places_by places s (j ∷ js) = places (plan_at s j) ++ places_by places s js

-- A list's plans do it to the pages of their places.
some_places : (does : Plan → ImagePage → Bool) (places : Plan → List BusWord)
    → ((p : Plan) (q : ImagePage) → does p q ≡ has_one (places p) q)
    → (s : State) (js : List Job) (q : ImagePage) → some (plan_at s) does js q ≡ has_one (places_by places s js) q
some_places does places h s [] q = refl
some_places does places h s (j ∷ js) q =
    ap₂ ◌||◌ (h (plan_at s j) q) (some_places does places h s js q) ∙ has_either (places (plan_at s j)) (places_by places s js) q

-- No place of ps lies in a page with a place of rs: one test over both lists.
abbrev pub clear_of : List BusWord → List BusWord → Bool
clear_of ps rs = all (λ p. not (has_one rs (image_page_of p))) ps

-- Then no page has places of both.
clear_pages : (ps rs : List BusWord) (q : ImagePage) → clear_of ps rs ≡ true → has_one ps q ≡ true → has_one rs q ≡ false
clear_pages [] rs q h e = absurd (false≢true e)
clear_pages (p ∷ ps) rs q h e =
    by_test (eqb (image_page_of p).0 q.0)
    (λ t.
    let here : image_page_of p ≡ q = ap (λ (n : ℕ). record { 0 = n }) (eqb-true _ _ t) in
    rw here at (not-true (has_one rs (image_page_of p)) (and_left (not (has_one rs (image_page_of p))) _ h)))
    (λ t. clear_pages ps rs q (and_right (not (has_one rs (image_page_of p))) _ h) (rw t at e))

-- ---- the premise

-- No place that one list's plans change lies in a page that the other's touch: one test.
abbrev pub apart_test : State → List Job → List Job → Bool
apart_test s xs ys =
    clear_of (places_by changed_places s xs) (places_by touched_places s ys)
    && clear_of (places_by changed_places s ys) (places_by touched_places s xs)

module _ (s : State) where
  -- What a list does is decided by the plans at the start.
  pub along_start : (does : Plan → ImagePage → Bool) (js : List Job) (q : ImagePage)
      → along does s js q ≡ some (plan_at s) does js q
  along_start does js q =
      along_some (Like s) (length s.flash.words) (plan_at s) kinds_by (laws s) does s js q (like_itself s)

  -- The test on one side,
  one_side : (xs ys : List Job) → clear_of (places_by changed_places s xs) (places_by touched_places s ys) ≡ true
      → (q : ImagePage) → changes s xs q ≡ true → touches s ys q ≡ false
  one_side xs ys h q e =
      along_start touches_page ys q ∙ some_places touches_page touched_places touched_pages s ys q
      ∙ clear_pages (places_by changed_places s xs) (places_by touched_places s ys) q h
      (sym (some_places changes_page changed_places changed_pages s xs q) ∙ sym (along_start changes_page xs q) ∙ e)

  -- and on both: it passes only for lists that keep apart.
  pub apart_by : (xs ys : List Job) → apart_test s xs ys ≡ true → Apart s xs ys
  apart_by xs ys h = record {
    first = one_side xs ys (and_left (clear_of (places_by changed_places s xs) (places_by touched_places s ys)) _ h);
    second = one_side ys xs (and_right (clear_of (places_by changed_places s xs) (places_by touched_places s ys)) _ h);
  }

-- From a state like s₀, a list leaves a page alone that its plans at s₀ do not change.
pub spared : (s₀ s : State) (js : List Job) → Like s₀ s
    → Off (some (plan_at s₀) changes_page js) (end_of s js).flash s.flash
spared s₀ s js h = frames (Like s₀) (length s₀.flash.words) (plan_at s₀) kinds_by (laws s₀) s js h

-- ---- the error record

-- After a list whose plans are those at s.
abbrev pub errors_by : State → List Job → Errors → Errors
errors_by s [] e = e
errors_by s (j ∷ js) e = errors_by s js (errors_after s.controller.setup j.operation (plan_at s j) e)

-- From a state like s₀, a list leaves the record that its plans at s₀ do.
pub errors_end : (s₀ s : State) (js : List Job) → Like s₀ s
    → (end_of s js).controller.errors ≡ errors_by s₀ js s.controller.errors
unfolding view_of
errors_end s₀ s [] h = refl
errors_end s₀ s (j ∷ js) h =
    errors_end s₀ (after s j) js (stays s₀ s j h)
    ∙ ap (errors_by s₀ js)
    (errors_are s j
    ∙ ap₂ (λ (t : Setup) (p : Plan). errors_after t j.operation p s.controller.errors) (ap (λ (v : View). v.setup) h.view) (plan_like s₀ s j h))
