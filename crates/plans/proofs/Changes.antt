-- What of the flash decides a whole operation's answer, and what it changes there. Assumes nothing.
use Prim.Native.Nat.{ℕ}
use mathlib.Core.Path.{◌≡◌, refl, sym, ◌∙◌}
use mathlib.Core.Bool.{true, false, ◌||◌}
use mathlib.Core.List.{List}
use Rattle.model.specs.Kinds.{is_read, is_program, is_page_erase, is_bank_erase}
use Rattle.model.specs.Places.{total_words}
use Rattle.model.specs.State.{Flash}
use Rattle.model.specs.Rights.{readable_words}
use Rattle.model.specs.Refusals.{accepts}
use Rattle.model.specs.Checks.{operation_answer}
use Rattle.model.specs.Valid.{valid_with}
use Rattle.model.specs.Steps.{starts}
use Rattle.model.specs.Whole.{whole_answer, short_buffer, whole}
use Rattle.model.specs.declared.Operation.{Operation}
use Rattle.model.specs.declared.Work.TheVariants.{Erase}
use Rattle.model.specs.declared.Controller.{Controller}
use Rattle.model.proofs.Bool.{by_test}
use Rattle.model.proofs.DeniedReads.{others_accepted}
use Rattle.model.proofs.WorkParts.{work_parts}
use Rattle.plans.specs.Plan.{Plan, Refused, Recorded, Reads, Programs, Erases, places_of, plan_started, plan_of, programming, erasing, performed}
use Rattle.plans.proofs.Cases.{PlanCase, refuses, records, begins, plan_case}
use Rattle.plans.proofs.Firsts.{stored_first, stored_firsts}
use Rattle.plans.proofs.Wholes.{erase_begun}
use Rattle.plans.proofs.ClosedFormProof.{closed_form}

-- ---- its answer does not depend on the words of the flash

plan_answers : (c : Controller) (f g : Flash) (o : Operation) (b : List ℕ) (p : Plan)
    → (performed c f o b p).result.answer ≡ (performed c g o b p).result.answer
unfolding performed
plan_answers c f g o b (Refused a) = refl
plan_answers c f g o b (Recorded a) = refl
plan_answers c f g o b (Reads a readable ps) = refl
plan_answers c f g o b (Programs ps) = refl
plan_answers c f g o b (Erases ps) = refl

pub whole_answers : (c : Controller) (f g : Flash) (o : Operation) (b : List ℕ) → valid_with c f ≡ valid_with c g
    → (whole c f o b).result.answer ≡ (whole c g o b).result.answer
unfolding plan_of whole_answer
whole_answers c f g o b same =
    let plans : plan_of c f o b ≡ plan_of c g o b = rw same in
    rw (closed_form c f o b, closed_form c g o b, plans) (plan_answers c f g o b (plan_of c g o b))

-- ---- the flash

-- It is as it was, or each word of an accepted program or erase is stored at its place.
pub data WholeChanges (c : Controller) (f : Flash) (o : Operation) (b : List ℕ) : Type 0 where
  same : (whole c f o b).flash ≡ f → WholeChanges c f o b
  programs : accepts (operation_answer c.setup o) ≡ true → is_program o ≡ true
      → (whole c f o b).flash ≡ stored_first c.setup.pages o (programming b) (total_words c.setup.pages o) f → WholeChanges c f o b
  erases : accepts (operation_answer c.setup o) ≡ true → (is_page_erase o || is_bank_erase o) ≡ true
      → (whole c f o b).flash ≡ stored_first c.setup.pages o erasing (total_words c.setup.pages o) f → WholeChanges c f o b

module _ (c : Controller) (f : Flash) (o : Operation) (b : List ℕ) where
  by_plan : (p : Plan) → plan_of c f o b ≡ p → (whole c f o b).flash ≡ (performed c f o b p).flash
  by_plan p e = rw (closed_form c f o b, e)

  module _ (free : accepts (whole_answer c f) ≡ true) (room : short_buffer o b ≡ false) (s : starts o (operation_answer c.setup o) ≡ true)
      (e : plan_of c f o b ≡ plan_started c.setup o (operation_answer c.setup o)) where
    started_changes : WholeChanges c f o b
    unfolding performed places_of
    started_changes =
        by_test (is_read o)
        (λ r. same (by_plan (Reads (operation_answer c.setup o) (readable_words c.setup o) (places_of c.setup.pages o)) (e ∙ rw r)))
        (λ r.
        let ok : accepts (operation_answer c.setup o) ≡ true = others_accepted c.setup o r s in
        by_test (is_program o)
        (λ p.
        programs ok p
        (by_plan (Programs (places_of c.setup.pages o)) (e ∙ rw (r, p)) ∙ sym (stored_firsts o (programming b) f c.setup.pages _)))
        (λ p.
        erases ok (work_parts _ _ (Erase o 0) (erase_begun c f o b free room s r p).work).kind
        (by_plan (Erases (places_of c.setup.pages o)) (e ∙ rw (r, p)) ∙ sym (stored_firsts o erasing f c.setup.pages _))))

  case_changes : PlanCase c f o b → WholeChanges c f o b
  unfolding performed
  case_changes (refuses a n u e) = same (by_plan (Refused a) e)
  case_changes (records n e) = same (by_plan (Recorded (operation_answer c.setup o)) e)
  case_changes (begins free room s e) = started_changes free room s e

  pub whole_changes : WholeChanges c f o b
  whole_changes = case_changes (plan_case c f o b)
