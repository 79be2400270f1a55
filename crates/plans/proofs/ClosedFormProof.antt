-- A whole operation leaves what its plan does. Assumes nothing.
use Prim.Native.Nat.{ℕ}
use mathlib.Core.Path.{◌≡◌, ◌∙◌}
use mathlib.Core.Bool.{true, false}
use mathlib.Core.List.{List}
use mathlib.Core.Logic.{⊎_elim}
use Rattle.model.specs.Kinds.{is_read, is_program}
use Rattle.model.specs.State.{Flash}
use Rattle.model.specs.Rights.{readable_words}
use Rattle.model.specs.Refusals.{accepts}
use Rattle.model.specs.Checks.{operation_answer}
use Rattle.model.specs.Errors.{recorded}
use Rattle.model.specs.Steps.{starts}
use Rattle.model.specs.Whole.{whole_answer, short_buffer, whole}
use Rattle.model.specs.declared.Operation.{Operation}
use Rattle.model.specs.declared.Controller.{Controller}
use Rattle.model.proofs.Bool.{which, by_test}
use Rattle.model.proofs.DeniedReads.{others_told}
use Rattle.plans.specs.Plan.{ClosedForm, Plan, Reads, Programs, Erases, places_of, plan_answered, plan_of, programming, erasing, performed}
use Rattle.plans.proofs.Firsts.{places_length, read_all, stored_firsts, changed_firsts}
use Rattle.plans.proofs.Wholes.{whole_read, whole_program, whole_erase, whole_recorded}

module _ (c : Controller) (f : Flash) (o : Operation) (b : List ℕ) (free : accepts (whole_answer c f) ≡ true)
    (room : short_buffer o b ≡ false) where
  -- The whole operation leaves what this plan does.
  Performs : Plan → Type 0
  Performs p = whole c f o b ≡ performed c f o b p

  -- ---- an operation that starts

  module _ (s : starts o (operation_answer c.setup o) ≡ true) where
    -- A read, accepted or denied, delivers its words,
    read : is_read o ≡ true → Performs (Reads (operation_answer c.setup o) (readable_words c.setup o) (places_of c.setup.pages o))
    unfolding Performs performed places_of
    read r = whole_read c f o b free room s r ∙ rw (read_all, places_length)

    -- a program, which is accepted, stores the buffer's words at its places,
    program : is_read o ≡ false → is_program o ≡ true → Performs (Programs (places_of c.setup.pages o))
    unfolding Performs performed places_of recorded
    program r p =
        whole_program c f o b free room s r p
        ∙ rw (stored_firsts o (programming b) f, changed_firsts o (programming b) f, others_told c.setup o r s)

    -- and an erase stores ones.
    erase : is_read o ≡ false → is_program o ≡ false → Performs (Erases (places_of c.setup.pages o))
    unfolding Performs performed places_of recorded
    erase r p =
        whole_erase c f o b free room s r p ∙ rw (stored_firsts o erasing f, changed_firsts o erasing f, others_told c.setup o r s)

  -- ---- so each answer's plan is performed,

  answered : Performs (plan_answered c.setup o (operation_answer c.setup o))
  unfolding Performs performed
  answered =
      by_test (starts o (operation_answer c.setup o))
      (λ s.
      rw s
      (by_test (is_read o) (λ r. rw r (read s r))
      (λ r. rw r (by_test (is_program o) (λ p. rw p (program s r p)) (λ p. rw p (erase s r p))))))
      (λ e. rw e (whole_recorded c f o b free room e))

  -- and it is the operation's plan.
  pub started : whole c f o b ≡ performed c f o b (plan_of c f o b)
  unfolding plan_of Performs
  started = rw (free, room) answered

-- ---- whatever the checks answer

module _ (c : Controller) (f : Flash) (o : Operation) (b : List ℕ) where
  -- Refused by checks 1 to 4,
  refused : accepts (whole_answer c f) ≡ false → whole c f o b ≡ performed c f o b (plan_of c f o b)
  unfolding whole plan_of performed
  refused e = rw e

  -- or by 6: nothing changes.
  short : accepts (whole_answer c f) ≡ true → short_buffer o b ≡ true → whole c f o b ≡ performed c f o b (plan_of c f o b)
  unfolding whole plan_of performed
  short free s = rw (free, s)

-- A whole operation, by its calls, leaves what its plan does.
pub closed_form : ClosedForm
closed_form c f o b =
    ⊎_elim (λ free. ⊎_elim (short c f o b free) (started c f o b free) (which (short_buffer o b)))
    (refused c f o b)
    (which (accepts (whole_answer c f)))
