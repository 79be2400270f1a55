-- The pages that an operation touches are those that 01 and 02, L3, name; where check 1 fails, every operation gives 1. Assumes
-- nothing.
use Prim.Native.Nat.{ℕ, zero, suc, ◌+◌, ◌<◌}
use native.Mathlib.Nat.{add-zero, zero-add}
use native.Mathlib.Omega.{arith}
use mathlib.Core.Path.{◌≡◌, refl, sym, ap, ◌∙◌}
use mathlib.Core.Bool.{true, false, ◌&&◌, not, and-false, or-true, or-false, false≢true}
use mathlib.Core.List.{List, [], ◌∷◌}
use lib.Dec.{eqb}
use lib.ListN.{take}
use borrow.Author.Tests.{eqb-true, eq-eqb}
use Rattle.model.specs.Geometry.{page_of, image_page_of}
use Rattle.model.specs.Kinds.{is_read, is_program}
use Rattle.model.specs.Places.{span_address, total_words, place_of}
use Rattle.model.specs.State.{Flash}
use Rattle.model.specs.Rights.{denied, first_denied, readable_words}
use Rattle.model.specs.Refusals.{number_of, no_decider, accepts, is_denied, is_denied_read}
use Rattle.model.specs.Checks.{operation_answer}
use Rattle.model.specs.Valid.{valid_with}
use Rattle.model.specs.Steps.{starts}
use Rattle.model.specs.Whole.{whole_answer, whole}
use Rattle.model.specs.declared.ImagePage.{ImagePage}
use Rattle.model.specs.declared.BusWord.{BusWord}
use Rattle.model.specs.declared.Operation.{Operation}
use Rattle.model.specs.declared.Setup.{Setup}
use Rattle.model.specs.declared.Controller.{Controller}
use Rattle.model.specs.Refusals.{Answer}
use Rattle.model.proofs.Bool.{and_left, and_right, by_test}
use Rattle.model.proofs.Answers.{accepts_not, unrecorded_undenied, denied_if_told}
use Rattle.model.proofs.DeniedReads.{readable_before, readable_le}
use Rattle.model.proofs.Answers.{accepts_told}
use Rattle.plans.specs.Plan.{Plan, Refused, Recorded, Reads, Programs, Erases, places_from, places_of, true_places, plan_started, plan_of, performed}
use Rattle.plans.proofs.Firsts.{true_first, true_all}
use Rattle.plans.proofs.Cases.{PlanCase, refuses, records, begins, plan_case}
use Rattle.shuffles.specs.Shuffle.{Job, State, Given, after, given, has_one, reads_page, changes_page, touches_page, plan_at, RightPages, Footprints, WhereInvalid}
use Rattle.shuffles.proofs.Demand3.{given_is}

-- ---- the pages of an operation's words

-- A page with one of the words k to k + n - 1 has one of their places,
has_each : (d : ℕ) (o : Operation) (q : ImagePage) (k n i : ℕ) → i < n → image_page_of (place_of d o (k + i)) ≡ q
    → has_one (places_from d o k n) q ≡ true
has_each d o q k zero i h e = absurd (omega arith)
has_each d o q k (suc n) zero h e =
    rw (eq-eqb (image_page_of (place_of d o k)).0 q.0 (ap (λ (p : ImagePage). p.0) (rw add-zero at e)))
has_each d o q k (suc n) (suc i) h e =
    let next : k + suc i ≡ k + 1 + i = omega arith in
    rw (has_each d o q (k + 1) n i (omega arith) (rw next at e)) (or-true (eqb (image_page_of (place_of d o k)).0 q.0))

-- and no other page has.
has_only : (d : ℕ) (o : Operation) (q : ImagePage) (k n : ℕ) → has_one (places_from d o k n) q ≡ true
    → (i : ℕ) × (i < n) × (image_page_of (place_of d o (k + i)) ≡ q)
has_only d o q k zero h = absurd (false≢true h)
has_only d o q k (suc n) h =
    by_test (eqb (image_page_of (place_of d o k)).0 q.0)
    (λ e. (0, omega arith, rw add-zero (ap (λ (x : ℕ). record { 0 = x }) (eqb-true _ _ e))))
    (λ e.
    let (i, l, at) = has_only d o q (k + 1) n (rw e at h) in
    let next : k + suc i ≡ k + 1 + i = omega arith in
    (suc i, omega arith, rw next at))

-- ---- an operation by its answer

-- What an operation that starts changes.
started_changes : (s : Setup) (o : Operation) (a : Answer) (q : ImagePage)
    → changes_page (plan_started s o a) q ≡ (not (is_read o) && has_one (places_of s.pages o) q)
started_changes s o a q =
    by_test (is_read o) (λ e. rw e) (λ e. by_test (is_program o) (λ t. rw (e, t)) (λ t. rw (e, t)))

module _ (c : Controller) (f : Flash) (o : Operation) (b : List ℕ) where
  -- The answer that a plan gives,
  abbrev answer_of : Plan → Answer
  answer_of p = (performed c f o b p).result.answer

  -- and the plan by that answer: one that does not start touches no page, and one that starts is that of the operation's start.
  record ByAnswer (p : Plan) : Type 0 where
    unstarted : starts o (answer_of p) ≡ false → (q : ImagePage) → touches_page p q ≡ false
    begun : starts o (answer_of p) ≡ true → p ≡ plan_started c.setup o (operation_answer c.setup o)

  -- So it is with a plan that does not start,
  unstarted_by : (p : Plan) → starts o (answer_of p) ≡ false → ((q : ImagePage) → touches_page p q ≡ false) → ByAnswer p
  unstarted_by p n none = record { unstarted = λ h. none; begun = λ h. absurd (false≢true (sym n ∙ h)) }

  -- with that of a start,
  answer_starts : (a : Answer) → starts o a ≡ true → starts o (answer_of (plan_started c.setup o a)) ≡ true
  unfolding performed
  answer_starts a s =
      by_test (is_read o) (λ r. rw r (rw r at s)) (λ r. rw r (by_test (is_program o) (λ p. rw p refl) (λ p. rw p refl)))

  started_by : starts o (operation_answer c.setup o) ≡ true → ByAnswer (plan_started c.setup o (operation_answer c.setup o))
  started_by s = record { unstarted = λ h q. absurd (false≢true (sym h ∙ answer_starts _ s)); begun = λ h. refl }

  -- and with every operation's plan.
  case_by : PlanCase c f o b → ByAnswer (plan_of c f o b)
  unfolding performed
  case_by (refuses a n u e) = rw e (unstarted_by (Refused a) (rw (n, unrecorded_undenied (number_of a) u, and-false)) (λ q. refl))
  case_by (records n e) = rw e (unstarted_by (Recorded (operation_answer c.setup o)) n (λ q. refl))
  case_by (begins free room s e) = rw e (started_by s)

  plan_by : ByAnswer (plan_of c f o b)
  plan_by = case_by (plan_case c f o b)

  module _ (q : ImagePage) where
    -- An accepted operation has started: it reads or changes all its pages.
    module _ (h : number_of (answer_of (plan_of c f o b)) ≡ 0) where
      accepted_plan : plan_of c f o b ≡ plan_started c.setup o (operation_answer c.setup o)
      accepted_plan = plan_by.begun (rw (accepts_told (answer_of (plan_of c f o b)) h))

      accepted_reads : reads_page (plan_of c f o b) q ≡ (is_read o && has_one (places_of c.setup.pages o) q)
      unfolding performed
      accepted_reads = rw accepted_plan (by_test (is_read o) read (λ r. rw r (by_test (is_program o) (λ t. rw t) (λ t. rw t))))
        where
          read : is_read o ≡ true
              → reads_page (plan_started c.setup o (operation_answer c.setup o)) q ≡ (is_read o && has_one (places_of c.setup.pages o) q)
          read r =
              let ok : number_of (operation_answer c.setup o) ≡ 0 = rw r at (rw accepted_plan at h) in
              rw (r, true_first c.setup o r, true_all c.setup o r (accepts_told (operation_answer c.setup o) ok))

      accepted_changes : changes_page (plan_of c f o b) q ≡ (not (is_read o) && has_one (places_of c.setup.pages o) q)
      accepted_changes = rw accepted_plan (started_changes c.setup o (operation_answer c.setup o) q)

    -- So has a denied read: it changes no page, and reads those of its true words.
    module _ (d : is_denied_read o (number_of (answer_of (plan_of c f o b))) ≡ true) where
      reads_here : is_read o ≡ true
      reads_here = and_left (is_read o) _ d

      denied_plan : plan_of c f o b ≡ Reads (operation_answer c.setup o) (readable_words c.setup o) (places_of c.setup.pages o)
      denied_plan = plan_by.begun (rw d (or-true (accepts (answer_of (plan_of c f o b))))) ∙ rw reads_here

      told_denied : denied c.setup o ≡ true
      unfolding performed
      told_denied =
          let nine : is_denied (operation_answer c.setup o) ≡ true = rw denied_plan at (and_right (is_read o) _ d) in
          denied_if_told c.setup o nine

      true_pages : reads_page (plan_of c f o b) q ≡ has_one (true_places c.setup o) q
      true_pages = rw (denied_plan, true_first c.setup o reads_here)

      -- These are the words before its first denied page.
      before_each : (k : ℕ) → (page_of (span_address o k)).0 < (first_denied c.setup o).0 → image_page_of (place_of c.setup.pages o k) ≡ q
          → reads_page (plan_of c f o b) q ≡ true
      unfolding true_places
      before_each k l e =
          let readable : k < readable_words c.setup o = (readable_before c.setup o reads_here told_denied k).1 l in
          rw true_pages (has_each c.setup.pages o q 0 (readable_words c.setup o) k readable (rw zero-add e))

      before_only : reads_page (plan_of c f o b) q ≡ true
          → (k : ℕ) × (k < o.count) × ((page_of (span_address o k)).0 < (first_denied c.setup o).0)
          × (image_page_of (place_of c.setup.pages o k) ≡ q)
      unfolding true_places
      before_only h =
          let (k, l, e) = has_only c.setup.pages o q 0 (readable_words c.setup o) (sym true_pages ∙ h) in
          (k, omega (arith, readable_le c.setup o reads_here), (readable_before c.setup o reads_here told_denied k).0 l, rw zero-add at e)

-- The pages are the right ones.
right_pages : (s : State) (j : Job) (q : ImagePage) → RightPages s j q
unfolding places_of
right_pages s j q =
    let c = s.controller in
    let f = s.flash in
    let o = j.operation in
    let b = j.buffer in
    let d : ℕ = c.setup.pages in
    let told : (given s j).answer ≡ number_of (answer_of c f o b (plan_at s j)) = ap (λ (g : Given). g.answer) (given_is s j) in
    record {
      refused = λ h n. (plan_by c f o b).unstarted (rw (accepts_not _ (λ e. h (told ∙ e)), rw told at n)) q;
      denied_changes = λ h. rw (denied_plan c f o b q (rw told at h));
      denied_each = λ h k l. before_each c f o b q (rw told at h) k;
      denied_only = λ h. before_only c f o b q (rw told at h);
      reads = λ h. accepted_reads c f o b q (sym told ∙ h);
      changes = λ h. accepted_changes c f o b q (sym told ∙ h);
      each = λ k l e. has_each d o q 0 (total_words d o) k l (rw zero-add e);
      only = λ h. let (k, l, e) = has_only d o q 0 (total_words d o) h in (k, l, rw zero-add at e);
    }

pub footprints : Footprints
footprints = right_pages

-- ---- the places that plans touch and change

-- Those that a plan programs or erases,
abbrev pub changed_places : Plan → List BusWord
changed_places (Refused a) = []
changed_places (Recorded a) = []
changed_places (Reads a readable ps) = []
changed_places (Programs ps) = ps
changed_places (Erases ps) = ps

-- and those that it reads, programs or erases.
abbrev pub touched_places : Plan → List BusWord
touched_places (Refused a) = []
touched_places (Recorded a) = []
touched_places (Reads a readable ps) = take readable ps
touched_places (Programs ps) = ps
touched_places (Erases ps) = ps

-- Their pages are those that the plan changes,
pub changed_pages : (p : Plan) (q : ImagePage) → changes_page p q ≡ has_one (changed_places p) q
changed_pages (Refused a) q = refl
changed_pages (Recorded a) q = refl
changed_pages (Reads a readable ps) q = refl
changed_pages (Programs ps) q = refl
changed_pages (Erases ps) q = refl

-- and touches.
pub touched_pages : (p : Plan) (q : ImagePage) → touches_page p q ≡ has_one (touched_places p) q
touched_pages (Refused a) q = refl
touched_pages (Recorded a) q = refl
touched_pages (Reads a readable ps) q = or-false (has_one (take readable ps) q)
touched_pages (Programs ps) q = refl
touched_pages (Erases ps) q = refl

-- ---- where check 1 fails

-- One operation gives 1 and leaves all as it was,
invalid_given : (s : State) (j : Job) → valid_with s.controller s.flash ≡ false
    → (given s j ≡ record { answer = 1; decider = no_decider; words = j.buffer; bits = 0 }) × (after s j ≡ s)
unfolding given after whole whole_answer
invalid_given s j h = rw h (refl, refl)

-- and so does each of a list.
pub where_invalid : WhereInvalid
where_invalid s [] h = (refl, refl)
where_invalid s (j ∷ js) h =
    let (g, same) = invalid_given s j h in
    let (gs, end) = where_invalid s js h in
    (rw (g, same, gs), rw same end)
