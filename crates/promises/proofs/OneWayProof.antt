-- A page that may not be erased has no bit that rises, and one that may not be programmed none that falls. Assumes nothing.
use Prim.Native.Nat.{ℕ, zero, suc, ◌/◌, ◌%◌, ◌^◌, ◌<◌, ◌≤◌}
use native.Mathlib.Omega.{arith}
use mathlib.Core.Path.{◌≡◌, refl, sym, ap}
use mathlib.Core.Bool.{Bool, true, false, ◌&&◌, ◌||◌, not, or-true, true≢false}
use mathlib.Core.List.{List, [], ◌∷◌}
use lib.Dec.{eqb, ltb}
use lib.ListN.{length, get_or, set}
use lib.Seq.{set_out, get_or-set_same, get_or-set_other}
use borrow.Author.Tests.{ltb-true, ltb-false, eqb-true, eqb-false}
use Rattle.model.specs.Geometry.{bank_of_page, image_page_of}
use Rattle.model.specs.Words.{all_ones, programmed}
use Rattle.model.specs.Kinds.{is_program, is_page_erase, is_bank_erase, erase_right}
use Rattle.model.specs.Places.{total_words, place_of}
use Rattle.model.specs.State.{Flash}
use Rattle.model.specs.Rights.{grants, ruling_of_page}
use Rattle.model.specs.Refusals.{accepts}
use Rattle.model.specs.Checks.{operation_answer}
use Rattle.model.specs.Valid.{valid}
use Rattle.model.specs.Lifecycle.{is_wiped, rma_answer, rma, wiped}
use Rattle.model.specs.Steps.{step}
use Rattle.model.specs.Whole.{whole}
use Rattle.model.specs.declared.Operation.{Operation}
use Rattle.model.specs.declared.Work.TheVariants.{Program, Erase}
use Rattle.model.specs.declared.Controller.{Controller}
use Rattle.model.proofs.Bool.{and_left, and_right, by_test}
use Rattle.model.proofs.Answers.{accepted_passes}
use Rattle.model.proofs.Pages.{place_permitted}
use Rattle.model.proofs.Moving.{busy_parts}
use Rattle.model.proofs.StepLaws.{StepLeaves, same, programs, erases, step_leaves}
use Rattle.plans.proofs.Firsts.{stored_first}
use Rattle.plans.proofs.Changes.{WholeChanges, same, programs, erases, whole_changes}
use Rattle.promises.specs.Calls.{Call, State, perform}
use Rattle.promises.specs.Confined.{is_rma, erasable, programmable, NoneRises, NoneFalls}
use Rattle.promises.proofs.Validity.{call_keeps}
use Rattle.promises.proofs.FlashLaws.{Touches, same, steps, runs, wipes, rounds, flash_touched}
use Rattle.promises.proofs.RisesProof.{programmed_zero}
use Rattle.promises.proofs.ConfinedProof.{program_needs, page_erase_needs, span_grants}

-- ---- what holds of the word at a place, and is kept by what is stored there

module _ (Q : ℕ → Type 0) (place : ℕ) where
  -- by one word,
  set_keeps : (l : List ℕ) (p new : ℕ) → (p ≡ place → Q (get_or l p 0) → Q new) → Q (get_or l place 0) → Q (get_or (set l p new) place 0)
  set_keeps l p new kept h =
      by_test (eqb place p)
      (λ t.
      let e : place ≡ p = eqb-true _ _ t in
      by_test (ltb p (length l))
      (λ u. let in_List : p < length l = ltb-true _ _ u in rw (e, get_or-set_same) (kept (sym e) (rw e at h)))
      (λ u. let past : length l ≤ p = ltb-false _ _ u in rw (set_out l p new past) h))
      (λ t. rw (get_or-set_other l p place new 0 (eqb-false _ _ t)) h)

  -- and by the words of an operation.
  all_keep : (d : ℕ) (o : Operation) (new : ℕ → ℕ → ℕ) (f : Flash) (n : ℕ)
      → ((k : ℕ) → k < n → (place_of d o k).0 ≡ place → (old : ℕ) → Q old → Q (new k old)) → Q (get_or f.words place 0)
      → Q (get_or (stored_first d o new n f).words place 0)
  unfolding stored_first
  all_keep d o new f zero kept h = h
  all_keep d o new f (suc n) kept h =
      set_keeps (stored_first d o new n f).words (place_of d o n).0 _ (λ e q. kept n (omega arith) e _ q)
      (all_keep d o new f n (λ k m. kept k (omega arith)) h)

-- ---- a place that an operation changes lies in a page that allows it

module _ (c : Controller) (o : Operation) (k place : ℕ) (h : valid c ≡ true) (some : k < total_words c.setup.pages o)
    (passed : accepts (operation_answer c.setup o) ≡ true) (here : (place_of c.setup.pages o k).0 ≡ place) where
  there : (place_of c.setup.pages o k).0 / 256 ≡ place / 256
  there = ap (λ (x : ℕ). x / 256) here

  program_allowed : is_program o ≡ true → programmable c.setup (image_page_of (record { 0 = place })) ≡ true
  unfolding programmable
  program_allowed p =
      let needs = program_needs o p in
      rw needs.1 at (span_grants c o k (image_page_of (record { 0 = place })) h some passed there needs.0)

  erase_allowed : (is_page_erase o || is_bank_erase o) ≡ true → erasable c.setup (image_page_of (record { 0 = place })) ≡ true
  unfolding erasable
  erase_allowed p =
      by_test (is_page_erase o)
      (λ t.
      let needs = page_erase_needs o t in
      let may : grants (ruling_of_page c.setup (image_page_of (record { 0 = place }))).rights erase_right ≡ true =
      rw needs.1 at (span_grants c o k (image_page_of (record { 0 = place })) h some passed there needs.0) in
      simp (may, or-true))
      (λ t.
      let may : get_or c.setup.settings.erase (bank_of_page c.setup.pages (image_page_of (record { 0 = place }))) false ≡ true =
      rw there at (place_permitted c.setup o k (accepted_passes c.setup o passed).1 (rw t at p) some) in
      rw may)

-- ---- one call

module _ (Q : ℕ → Type 0) (place : ℕ) (c : Controller) (h : valid c ≡ true)
    (program : programmable c.setup (image_page_of (record { 0 = place })) ≡ true → (old w : ℕ) → Q old → Q (programmed old w))
    (erase : erasable c.setup (image_page_of (record { 0 = place })) ≡ true → Q all_ones) where
  -- A step keeps what programs and erases of the place keep,
  step_keeps : (f : Flash) → StepLeaves c f → Q (get_or f.words place 0) → Q (get_or (step c f).flash.words place 0)
  step_keeps f (same e) q = rw e q
  step_keeps f (programs o k r e) q =
      let w = busy_parts c (Program o k) h r in
      rw e (set_keeps Q place f.words (place_of c.setup.pages o k).0 _
      (λ x. program (program_allowed c o k place h w.left w.asked x w.kind) _ _) q)
  step_keeps f (erases o k r e) q =
      let w = busy_parts c (Erase o k) h r in
      rw e (set_keeps Q place f.words (place_of c.setup.pages o k).0 _
      (λ x y. erase (erase_allowed c o k place h w.left w.asked x w.kind)) q)

  -- and so does a whole operation.
  whole_keeps : (f : Flash) (o : Operation) (b : List ℕ) → WholeChanges c f o b → Q (get_or f.words place 0)
      → Q (get_or (whole c f o b).flash.words place 0)
  whole_keeps f o b (same e) q = rw e q
  whole_keeps f o b (programs a p e) q =
      rw e (all_keep Q place c.setup.pages o _ f (total_words c.setup.pages o)
      (λ k some x old. program (program_allowed c o k place h some a x p) old _) q)
  whole_keeps f o b (erases a p e) q =
      rw e (all_keep Q place c.setup.pages o _ f (total_words c.setup.pages o)
      (λ k some x old y. erase (erase_allowed c o k place h some a x p)) q)

-- RMA keeps what holds of a word of ones.
wiped_keeps : (Q : ℕ → Type 0) → Q all_ones → (d i : ℕ) (l : List ℕ) (place : ℕ) → Q (get_or l place 0) → Q (get_or (wiped d i l) place 0)
unfolding wiped
wiped_keeps Q ones d i [] place q = q
wiped_keeps Q ones d i (w ∷ l) zero q = by_test (is_wiped d (record { 0 = i })) (λ t. rw t ones) (λ t. rw t q)
wiped_keeps Q ones d i (w ∷ l) (suc place) q = wiped_keeps Q ones d (suc i) l place q

rma_keeps : (Q : ℕ → Type 0) (place : ℕ) (c : Controller) (f : Flash) → Q all_ones → Q (get_or f.words place 0)
    → Q (get_or (rma c f).flash.words place 0)
unfolding rma
rma_keeps Q place c f ones q =
    by_test (accepts (rma_answer c f)) (λ a. rw a (wiped_keeps Q ones c.setup.pages 0 f.words place q)) (λ a. rw a q)

-- Every call keeps what programs and erases of the place, and RMA, keep.
call_keeps_word : (Q : ℕ → Type 0) (place : ℕ) (s : State) {k : Call} → valid s.controller ≡ true
    → (programmable s.controller.setup (image_page_of (record { 0 = place })) ≡ true → (old w : ℕ) → Q old → Q (programmed old w))
    → (erasable s.controller.setup (image_page_of (record { 0 = place })) ≡ true → Q all_ones) → (is_rma k ≡ true → Q all_ones)
    → Touches s k → Q (get_or s.flash.words place 0) → Q (get_or (perform s k).state.flash.words place 0)
unfolding perform
call_keeps_word Q place s h program erase wipe (same e) q = rw e q
call_keeps_word Q place s h program erase wipe steps q = step_keeps Q place s.controller h program erase s.flash (step_leaves _ _) q
call_keeps_word Q place s h program erase wipe (runs o b) q =
    whole_keeps Q place s.controller h program erase s.flash o _ (whole_changes _ _ o _) q
call_keeps_word Q place s h program erase wipe wipes q = rma_keeps Q place s.controller s.flash (wipe refl) q
call_keeps_word Q place s h program erase wipe (rounds e) q =
    rw e (step_keeps Q place s.controller h program erase s.flash (step_leaves _ _) q)

-- ---- any list of calls

-- What is not so is not.
refuted : {P : Type 0} (t : Bool) → not t ≡ true → t ≡ true → P
refuted true n y = absurd (true≢false (sym n))
refuted false n y = absurd (true≢false (sym y))

-- No bit of a page that may not be erased rises.
pub none_rises : NoneRises
none_rises s [] place bit shaped h guard low = low
none_rises s (k ∷ ks) place bit shaped h guard low =
    let may : Bool = erasable s.controller.setup (image_page_of place) in
    let now : Bool = not may && not (is_rma k) in
    let g : now ≡ true = and_left now _ guard in
    let kept = call_keeps s k shaped h in
    none_rises (perform s k).state ks place bit kept.0 kept.1 (and_right now _ guard)
    (call_keeps_word (λ (w : ℕ). w / 2 ^ bit % 2 ≡ 0) place.0 s h (λ m old w q. programmed_zero old w bit q)
    (refuted may (and_left (not may) _ g)) (refuted (is_rma k) (and_right (not may) _ g)) (flash_touched s k) low)

-- The low n bits of a word of ones are 1.
low_ones : ℕ → Bool
low_ones zero = true
low_ones (suc n) = eqb (all_ones / 2 ^ n % 2) 1 && low_ones n

low_one : (n bit : ℕ) → low_ones n ≡ true → bit < n → all_ones / 2 ^ bit % 2 ≡ 1
unfolding low_ones
low_one zero bit h m = absurd (omega arith)
low_one (suc n) bit h m =
    by_test (eqb bit n)
    (λ t. let e : bit ≡ n = eqb-true _ _ t in rw e (eqb-true _ _ (and_left (eqb (all_ones / 2 ^ n % 2) 1) _ h)))
    (λ t. let ne : bit ≡ n → ⊥ = eqb-false _ _ t in low_one n bit (and_right (eqb (all_ones / 2 ^ n % 2) 1) _ h) (omega (arith, ne)))

one_bit : (bit : ℕ) → bit < 32 → all_ones / 2 ^ bit % 2 ≡ 1
unfolding low_ones
one_bit bit m = low_one 32 bit refl m

-- No bit of a page that may not be programmed falls.
pub none_falls : NoneFalls
none_falls s [] place bit shaped h guard m high = high
none_falls s (k ∷ ks) place bit shaped h guard m high =
    let may : Bool = programmable s.controller.setup (image_page_of place) in
    let kept = call_keeps s k shaped h in
    none_falls (perform s k).state ks place bit kept.0 kept.1 (and_right (not may) _ guard) m
    (call_keeps_word (λ (w : ℕ). w / 2 ^ bit % 2 ≡ 1) place.0 s h (λ y. refuted may (and_left (not may) _ guard) y)
    (λ y. one_bit bit m) (λ y. one_bit bit m) (flash_touched s k) high)
