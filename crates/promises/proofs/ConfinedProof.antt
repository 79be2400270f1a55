-- Confinement: a protected page keeps every word. Assumes nothing.
use Prim.Native.Nat.{ℕ, zero, suc, ◌/◌, ◌<◌}
use native.Mathlib.Omega.{arith}
use mathlib.Core.Path.{◌≡◌, refl, sym, ◌∙◌}
use mathlib.Core.Bool.{Bool, true, false, ◌&&◌, ◌||◌, not, and-false, true≢false}
use mathlib.Core.List.{List, [], ◌∷◌}
use lib.ListN.{get_or}
use borrow.Author.Tests.{eqb-true}
use Rattle.model.specs.Geometry.{bank_of_page}
use Rattle.model.specs.Kinds.{is_program, is_page_erase, is_bank_erase, right_needed, program_right, erase_right}
use Rattle.model.specs.Places.{total_words, place_of}
use Rattle.model.specs.State.{Flash}
use Rattle.model.specs.Rights.{grants, ruling_of_page}
use Rattle.model.specs.Refusals.{accepts}
use Rattle.model.specs.Checks.{operation_answer}
use Rattle.model.specs.Valid.{valid}
use Rattle.model.specs.Steps.{step}
use Rattle.model.specs.Whole.{whole}
use Rattle.model.specs.declared.ImagePage.{ImagePage}
use Rattle.model.specs.declared.Operation.{Operation}
use Rattle.model.specs.declared.Work.TheVariants.{Program, Erase}
use Rattle.model.specs.declared.Setup.{Setup}
use Rattle.model.specs.declared.Controller.{Controller}
use Rattle.model.proofs.Bool.{and_left, and_right, by_test}
use Rattle.model.proofs.Answers.{accepted_passes}
use Rattle.model.proofs.Pages.{place_granted, place_permitted}
use Rattle.model.proofs.Flashes.{other_page}
use Rattle.model.proofs.Order.{pages_bound}
use Rattle.model.proofs.Moving.{busy_parts}
use Rattle.model.proofs.StepLaws.{StepLeaves, same, programs, erases, step_leaves}
use Rattle.plans.proofs.Firsts.{stored_first}
use Rattle.plans.proofs.Changes.{WholeChanges, same, programs, erases, whole_changes}
use Rattle.promises.specs.Calls.{Call, State, perform}
use Rattle.promises.specs.Confined.{protected, words_of, is_rma, Confined}
use Rattle.promises.proofs.Validity.{call_keeps}
use Rattle.promises.proofs.FlashLaws.{Touches, same, steps, runs, wipes, rounds, flash_touched}

-- ---- a page that may be changed is not protected

module _ (s : Setup) (q : ImagePage) where
  -- Neither where its bank may be erased,
  bank_open : get_or s.settings.erase (bank_of_page s.pages q) false ≡ true → protected s q ≡ false
  unfolding protected
  bank_open h = rw h

  -- nor where it may be programmed,
  program_open : grants (ruling_of_page s q).rights program_right ≡ true → protected s q ≡ false
  unfolding protected
  program_open h = simp (h, and-false)

  -- nor where it may be erased.
  erase_open : grants (ruling_of_page s q).rights erase_right ≡ true → protected s q ≡ false
  unfolding protected
  erase_open h = simp (h, and-false)

-- ---- the right that a program or a page erase needs

-- A program needs the program right,
pub program_needs : (o : Operation) → is_program o ≡ true → (is_bank_erase o ≡ false) × (right_needed o ≡ program_right)
program_needs o h = let e : o.kind ≡ 1 = eqb-true _ _ h in rw e (refl, refl)

-- and a page erase the erase right.
pub page_erase_needs : (o : Operation) → is_page_erase o ≡ true → (is_bank_erase o ≡ false) × (right_needed o ≡ erase_right)
page_erase_needs o h = let e : o.kind ≡ 2 = eqb-true _ _ h in rw e (refl, refl)

-- ---- the page with the next place of work in progress is not protected

module _ (c : Controller) (o : Operation) (k : ℕ) (q : ImagePage) (h : valid c ≡ true)
    (some : k < total_words c.setup.pages o) (passed : accepts (operation_answer c.setup o) ≡ true)
    (here : (place_of c.setup.pages o k).0 / 256 ≡ q.0) where
  -- A page of a span grants the right that the operation needs,
  pub span_grants : is_bank_erase o ≡ false → grants (ruling_of_page c.setup q).rights (right_needed o) ≡ true
  span_grants b =
      let checks = accepted_passes c.setup o passed in
      rw here at (place_granted c.setup o k checks.1 b (pages_bound c h).0 checks.0 some)

  -- so none of a program is protected,
  program_changes : is_program o ≡ true → protected c.setup q ≡ false
  program_changes p = let needs = program_needs o p in program_open c.setup q (rw needs.1 at (span_grants needs.0))

  -- and none of an erase: a bank erase has its bank's permission.
  erase_changes : (is_page_erase o || is_bank_erase o) ≡ true → protected c.setup q ≡ false
  erase_changes p =
      by_test (is_page_erase o)
      (λ t. let needs = page_erase_needs o t in erase_open c.setup q (rw needs.1 at (span_grants needs.0)))
      (λ t. bank_open c.setup q (rw here at (place_permitted c.setup o k (accepted_passes c.setup o passed).1 (rw t at p) some)))

-- ---- one call, and any list of calls

-- A step leaves the words of a protected page as they were,
step_confined : (c : Controller) (f : Flash) (q : ImagePage) → valid c ≡ true → protected c.setup q ≡ true → StepLeaves c f
    → words_of (step c f).flash q ≡ words_of f q
step_confined c f q h guard (same e) = rw e
step_confined c f q h guard (programs o k r e) =
    let w = busy_parts c (Program o k) h r in
    rw e (other_page f.words (place_of c.setup.pages o k).0 _ q.0
    (λ x. true≢false (sym guard ∙ program_changes c o k q h w.left w.asked x w.kind)))
step_confined c f q h guard (erases o k r e) =
    let w = busy_parts c (Erase o k) h r in
    rw e (other_page f.words (place_of c.setup.pages o k).0 _ q.0
    (λ x. true≢false (sym guard ∙ erase_changes c o k q h w.left w.asked x w.kind)))

-- so does what stores no word of the page,
stored_confined : (d : ℕ) (o : Operation) (new : ℕ → ℕ → ℕ) (f : Flash) (q : ImagePage) (n : ℕ)
    → ((k : ℕ) → k < n → (place_of d o k).0 / 256 ≡ q.0 → ⊥) → words_of (stored_first d o new n f) q ≡ words_of f q
unfolding stored_first
stored_confined d o new f q zero away = refl
stored_confined d o new f q (suc n) away =
    other_page (stored_first d o new n f).words (place_of d o n).0 _ q.0 (away n (omega arith))
    ∙ stored_confined d o new f q n (λ k h. away k (omega arith))

-- hence a whole operation,
whole_confined : (c : Controller) (f : Flash) (o : Operation) (b : List ℕ) (q : ImagePage) → valid c ≡ true
    → protected c.setup q ≡ true → WholeChanges c f o b → words_of (whole c f o b).flash q ≡ words_of f q
whole_confined c f o b q h guard (same e) = rw e
whole_confined c f o b q h guard (programs a p e) =
    rw e (stored_confined c.setup.pages o _ f q (total_words c.setup.pages o)
    (λ k some x. true≢false (sym guard ∙ program_changes c o k q h some a x p)))
whole_confined c f o b q h guard (erases a p e) =
    rw e (stored_confined c.setup.pages o _ f q (total_words c.setup.pages o)
    (λ k some x. true≢false (sym guard ∙ erase_changes c o k q h some a x p)))

-- and every call but RMA.
call_confined : (s : State) {k : Call} (q : ImagePage) → valid s.controller ≡ true
    → (protected s.controller.setup q && not (is_rma k)) ≡ true → Touches s k
    → words_of (perform s k).state.flash q ≡ words_of s.flash q
unfolding perform
call_confined s q h guard (same e) = rw e
call_confined s q h guard steps =
    step_confined s.controller s.flash q h (and_left (protected s.controller.setup q) _ guard) (step_leaves _ _)
call_confined s q h guard (runs o b) =
    whole_confined s.controller s.flash o _ q h (and_left (protected s.controller.setup q) _ guard) (whole_changes _ _ o _)
call_confined s q h guard wipes = absurd (true≢false (sym (and_right (protected s.controller.setup q) _ guard)))
call_confined s q h guard (rounds e) =
    rw e (step_confined s.controller s.flash q h (and_left (protected s.controller.setup q) _ guard) (step_leaves _ _))

-- Call by call.
pub confined : Confined
confined s [] q shaped h guard = refl
confined s (k ∷ ks) q shaped h guard =
    let now : Bool = protected s.controller.setup q && not (is_rma k) in
    let kept = call_keeps s k shaped h in
    confined (perform s k).state ks q kept.0 kept.1 (and_right now _ guard) ∙ call_confined s q h (and_left now _ guard) (flash_touched s k)
