-- A 0 bit becomes 1 only by an erase or RMA that covers it. Assumes nothing.
use Prim.Native.Nat.{ℕ, zero, suc, ◌/◌, ◌%◌, ◌^◌, ◌<◌, ◌≤◌}
use native.Mathlib.Nat.{zero-add, min-le_left}
use native.Mathlib.Omega.{arith}
use mathlib.Core.Path.{◌≡◌, sym, ◌∙◌}
use mathlib.Core.Bool.{true}
use mathlib.Core.List.{List}
use lib.Dec.{eqb, ltb}
use lib.ListN.{length, get_or, set}
use lib.Seq.{set_out, get_or-set_same, get_or-set_other}
use borrow.Author.Tests.{ltb-true, ltb-false, eqb-true, eqb-false}
use Rattle.model.specs.Words.{programmed}
use Rattle.model.specs.Refusals.{accepts}
use Rattle.model.specs.Lifecycle.{is_wiped, rma_answer, rma}
use Rattle.model.specs.Places.{total_words, place_of}
use Rattle.model.specs.Steps.{step}
use Rattle.model.specs.Whole.{whole}
use Rattle.model.specs.declared.Operation.{Operation}
use Rattle.model.specs.declared.Controller.{Controller}
use Rattle.model.specs.State.{Flash}
use Rattle.model.proofs.Bool.{by_test}
use Rattle.model.proofs.Words.{programmed_bit}
use Rattle.model.proofs.Lifecycle.{wiped_other}
use Rattle.model.proofs.StepLaws.{StepLeaves, same, programs, erases, step_leaves}
use Rattle.model.specs.declared.BusWord.{BusWord}
use Rattle.plans.specs.Plan.{programming, erasing}
use Rattle.plans.proofs.Firsts.{stored_first}
use Rattle.plans.proofs.Changes.{WholeChanges, same, programs, erases, whole_changes}
use Rattle.promises.specs.Calls.{Call, State, perform}
use Rattle.promises.specs.Confined.{bit_of, step_erases, has_word_at, whole_erases, erases_place, RisesByErase}
use Rattle.promises.proofs.FlashLaws.{Touches, same, steps, runs, wipes, rounds, flash_touched}

-- A bit is not both 0 and 1.
never : {b : ℕ} → b ≡ 0 → b ≡ 1 → ⊥
never h i = omega arith

-- Programming keeps a 0 bit 0,
pub programmed_zero : (old new bit : ℕ) → old / 2 ^ bit % 2 ≡ 0 → programmed old new / 2 ^ bit % 2 ≡ 0
programmed_zero old new bit h =
    let a : ℕ = old / 2 ^ bit % 2 in
    let b : ℕ = new / 2 ^ bit % 2 in
    programmed_bit old new bit ∙ omega (arith, min-le_left a b)

-- wherever it is done.
program_keeps : (l : List ℕ) (p new place bit : ℕ) → get_or l place 0 / 2 ^ bit % 2 ≡ 0
    → get_or (set l p (programmed (get_or l p 0) new)) place 0 / 2 ^ bit % 2 ≡ 0
program_keeps l p new place bit h =
    by_test (eqb place p)
    (λ t.
    let e : place ≡ p = eqb-true _ _ t in
    by_test (ltb p (length l))
    (λ u. let in_List : p < length l = ltb-true _ _ u in rw (e, get_or-set_same) (programmed_zero (get_or l p 0) new bit (rw e at h)))
    (λ u. let past : length l ≤ p = ltb-false _ _ u in rw (set_out l p _ past) h))
    (λ t. rw (get_or-set_other l p place _ 0 (eqb-false _ _ t)) h)

-- A step raises a bit only where it erases,
step_rises : (c : Controller) (f : Flash) (place : BusWord) (bit : ℕ) → StepLeaves c f → bit_of f place bit ≡ 0
    → bit_of (step c f).flash place bit ≡ 1 → step_erases c.setup.pages c.progress place ≡ true
step_rises c f place bit (same e) h i = absurd (never h (rw e at i))
step_rises c f place bit (programs o k r e) h i =
    absurd (never (program_keeps f.words (place_of c.setup.pages o k).0 _ place.0 bit h) (rw e at i))
step_rises c f place bit (erases o k r e) h i =
    let covers : eqb (place_of c.setup.pages o k).0 place.0 ≡ true =
    by_test (eqb (place_of c.setup.pages o k).0 place.0) (λ t. t)
    (λ t.
    let ne : place.0 ≡ (place_of c.setup.pages o k).0 → ⊥ = λ x. eqb-false _ _ t (sym x) in
    absurd (never h (rw (e, get_or-set_other) at i))) in
    rw r covers

-- the programs of a whole operation keep a 0 bit 0,
programs_keep : (d : ℕ) (o : Operation) (b : List ℕ) (f : Flash) (place : BusWord) (bit n : ℕ) → bit_of f place bit ≡ 0
    → bit_of (stored_first d o (programming b) n f) place bit ≡ 0
unfolding stored_first
programs_keep d o b f place bit zero h = h
programs_keep d o b f place bit (suc n) h =
    program_keeps (stored_first d o (programming b) n f).words (place_of d o n).0 _ place.0 bit (programs_keep d o b f place bit n h)

-- its erases raise one only where a word of it is,
erases_rise : (d : ℕ) (o : Operation) (f : Flash) (place : BusWord) (bit n : ℕ) → bit_of f place bit ≡ 0
    → bit_of (stored_first d o erasing n f) place bit ≡ 1 → has_word_at d o n place ≡ true
unfolding stored_first
erases_rise d o f place bit zero h i = absurd (never h i)
erases_rise d o f place bit (suc n) h i =
    by_test (eqb (place_of d o n).0 place.0) (λ t. rw t)
    (λ t.
    let ne : place.0 ≡ (place_of d o n).0 → ⊥ = λ x. eqb-false _ _ t (sym x) in
    rw t (erases_rise d o f place bit n h (rw get_or-set_other at i)))

-- so it raises one only where it erases,
whole_rises : (c : Controller) (f : Flash) (o : Operation) (b : List ℕ) (place : BusWord) (bit : ℕ) → WholeChanges c f o b
    → bit_of f place bit ≡ 0 → bit_of (whole c f o b).flash place bit ≡ 1 → whole_erases c.setup.pages o place ≡ true
whole_rises c f o b place bit (same e) h i = absurd (never h (rw e at i))
whole_rises c f o b place bit (programs a p e) h i =
    absurd (never (programs_keep c.setup.pages o b f place bit (total_words c.setup.pages o) h) (rw e at i))
whole_rises c f o b place bit (erases a p e) h i =
    rw p (erases_rise c.setup.pages o f place bit (total_words c.setup.pages o) h (rw e at i))

-- and RMA only where it wipes.
rma_rises : (c : Controller) (f : Flash) (place : BusWord) (bit : ℕ) → bit_of f place bit ≡ 0 → bit_of (rma c f).flash place bit ≡ 1
    → is_wiped c.setup.pages place ≡ true
unfolding rma
rma_rises c f place bit h i =
    by_test (is_wiped c.setup.pages place) (λ t. t)
    (λ t.
    by_test (accepts (rma_answer c f))
    (λ a. absurd (never h (rw (a, wiped_other c.setup.pages 0 f.words place.0 (rw (zero-add place.0) t)) at i)))
    (λ a. absurd (never h (rw a at i))))

-- No other call changes the flash.
call_rises : (s : State) {k : Call} (place : BusWord) (bit : ℕ) → Touches s k → bit_of s.flash place bit ≡ 0
    → bit_of (perform s k).state.flash place bit ≡ 1 → erases_place s.controller k place ≡ true
unfolding perform
call_rises s place bit (same e) h i = absurd (never h (rw e at i))
call_rises s place bit steps h i = step_rises s.controller s.flash place bit (step_leaves _ _) h i
call_rises s place bit (runs o b) h i = whole_rises s.controller s.flash o _ place bit (whole_changes _ _ o _) h i
call_rises s place bit wipes h i = rma_rises s.controller s.flash place bit h i
call_rises s place bit (rounds e) h i = step_rises s.controller s.flash place bit (step_leaves _ _) h (rw e at i)

pub rises_by_erase : RisesByErase
rises_by_erase s k place bit h i = call_rises s place bit (flash_touched s k) h i
