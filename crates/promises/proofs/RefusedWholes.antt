-- What a refused whole operation leaves, by its answer. Assumes nothing.
use Prim.Native.Nat.{ℕ}
use native.Mathlib.Omega.{arith}
use mathlib.Core.Path.{◌≡◌, refl, ap}
use mathlib.Core.Bool.{true, false, and-false}
use mathlib.Core.List.{List, append_assoc}
use borrow.Author.Tests.{eqb-true}
use Rattle.model.specs.Kinds.{is_read, is_program}
use Rattle.model.specs.Places.{total_words}
use Rattle.model.specs.State.{Flash}
use Rattle.model.specs.Rights.{readable_words}
use Rattle.model.specs.Refusals.{number_of, accepts, is_denied_read}
use Rattle.model.specs.Checks.{operation_answer}
use Rattle.model.specs.Errors.{is_recorded, recorded}
use Rattle.model.specs.Steps.{starts}
use Rattle.model.specs.Whole.{WholeLeaves, whole, leaving}
use Rattle.model.specs.declared.Operation.{Operation}
use Rattle.model.specs.declared.Controller.{Controller}
use Rattle.model.specs.Refusals.{Answer}
use Rattle.model.specs.Refusals.{accepted}
use Rattle.model.proofs.Bool.{by_test, or_right}
use Rattle.model.proofs.Places.{moving_words}
use Rattle.model.proofs.Answers.{accepts_not, unrecorded_undenied}
use Rattle.plans.specs.Plan.{Plan, Refused, Recorded, Reads, places_of, plan_started, plan_of, performed}
use Rattle.plans.proofs.Firsts.{places_length, read_cut}
use Rattle.plans.proofs.Cases.{PlanCase, refuses, records, begins, plan_case}
use Rattle.plans.proofs.ClosedFormProof.{closed_form}
use Rattle.promises.specs.Calls.{Whole}
use Rattle.promises.specs.Refused.{buffer_by, left_by}
use Rattle.promises.specs.Unknown.{state_of}

-- What refusal a leaves.
abbrev pub left_refused : Controller → Flash → Operation → List ℕ → Answer → WholeLeaves
left_refused c f o b a = leaving (left_by c (Whole o b) (number_of a)) a 0 f (buffer_by (state_of c f) o b (number_of a))

module _ (c : Controller) (f : Flash) (o : Operation) (b : List ℕ) where
  -- The plan, if it is refused, leaves that.
  LeavesRefused : Plan → Type 0
  LeavesRefused p =
      (number_of (performed c f o b p).result.answer ≡ 0 → ⊥)
      → performed c f o b p ≡ left_refused c f o b (performed c f o b p).result.answer

  -- One that is refused before its start is not recorded,
  unmoved_left : (a : Answer) → is_recorded (number_of a) ≡ false → LeavesRefused (Refused a)
  unfolding LeavesRefused performed recorded
  unmoved_left a u h = rw (u, unrecorded_undenied (number_of a) u, and-false)

  -- one that does not start is,
  recorded_left : (a : Answer) → starts o a ≡ false → LeavesRefused (Recorded a)
  unfolding LeavesRefused performed
  recorded_left a n h = rw (or_right (accepts a) _ n)

  -- a read that starts and is refused is a denied one: it delivers its true words, and then ones,
  read_left : (a : Answer) → is_read o ≡ true → starts o a ≡ true → LeavesRefused (Reads a (readable_words c.setup o) (places_of c.setup.pages o))
  unfolding LeavesRefused performed places_of
  read_left a r s h =
      let d : is_denied_read o (number_of a) ≡ true = rw (accepts_not a h) at s in
      let all : total_words c.setup.pages o ≡ o.count = moving_words c.setup.pages o (omega (arith, eqb-true o.kind 0 r)) in
      rw (d, read_cut c.setup o r f, places_length, all, append_assoc)

  -- and what else starts is accepted.
  accepted_left : (p : Plan) → (performed c f o b p).result.answer ≡ accepted → LeavesRefused p
  unfolding LeavesRefused
  accepted_left p e h = absurd (h (ap number_of e))

  started_left : (a : Answer) → starts o a ≡ true → LeavesRefused (plan_started c.setup o a)
  unfolding performed
  started_left a s =
      by_test (is_read o) (λ r. rw r (read_left a r s))
      (λ r. rw r (by_test (is_program o) (λ p. rw p (accepted_left _ refl)) (λ p. rw p (accepted_left _ refl))))

  plan_left : PlanCase c f o b → LeavesRefused (plan_of c f o b)
  plan_left (refuses a n u e) = rw e (unmoved_left a u)
  plan_left (records n e) = rw e (recorded_left (operation_answer c.setup o) n)
  plan_left (begins free room s e) = rw e (started_left (operation_answer c.setup o) s)

  -- So does the operation.
  pub whole_left : (number_of (whole c f o b).result.answer ≡ 0 → ⊥) → whole c f o b ≡ left_refused c f o b (whole c f o b).result.answer
  unfolding LeavesRefused
  whole_left = rw (closed_form c f o b) (plan_left (plan_case c f o b))
