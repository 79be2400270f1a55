-- What of a state decides the plans: the setup, and the answer of checks 1 to 4. A whole operation leaves both as they were.
-- Assumes nothing.
use Prim.Native.Nat.{ℕ}
use mathlib.Core.Path.{◌≡◌, refl, ap}
use mathlib.Core.Bool.{true, false}
use mathlib.Core.List.{List}
use lib.Dec.{eqb}
use Rattle.model.specs.Queue.{empty_queue, queue_of, is_empty}
use Rattle.model.specs.State.{Flash, with_errors, with_queues, with_reads, with_programs}
use Rattle.model.specs.Refusals.{number_of, accepts}
use Rattle.model.specs.Errors.{is_recorded, recorded, error_address}
use Rattle.model.specs.Valid.{errors_fit, both_empty, valid_with}
use Rattle.model.specs.Whole.{WholeLeaves, whole_answer}
use Rattle.model.specs.declared.ByteAddress.{ByteAddress}
use Rattle.model.specs.declared.Errors.{Errors}
use Rattle.model.specs.declared.Queues.{Queues}
use Rattle.model.specs.declared.Operation.{Operation}
use Rattle.model.specs.declared.Setup.{Setup}
use Rattle.model.specs.declared.Controller.{Controller}
use Rattle.model.specs.Refusals.{Answer}
use Rattle.model.proofs.Bool.{and_left, and_right, or_left, or_right, by_test}
use Rattle.model.proofs.Flashes.{same_fits}
use Rattle.model.proofs.Valid.{valid_parts}
use Rattle.model.proofs.Starting.{recorded_fits}
use Rattle.model.proofs.Free.{whole_free, free_again}
use Rattle.plans.specs.Plan.{Plan, Refused, Recorded, Reads, Programs, Erases, plan_of, performed}
use Rattle.shuffles.specs.Shuffle.{Kinds, kinds_in, union}
use Rattle.shuffles.proofs.Union.{no_kinds, union_none}
use Rattle.shuffles.proofs.Pages.{AsLong}
use Rattle.shuffles.proofs.Places.{plan_long}

-- ---- the plan, by what decides it

-- What decides it.
pub record View : Type 0 where
  pub setup : Setup
  pub answer : Answer

-- Of a controller and a flash.
unfoldable pub view_of : Controller → Flash → View
view_of c f = record { setup = c.setup; answer = whole_answer c f }

-- States with one view have one plan.
pub same_plan : (c d : Controller) (f g : Flash) (o : Operation) (b : List ℕ) → view_of c f ≡ view_of d g
    → plan_of c f o b ≡ plan_of d g o b
unfolding plan_of view_of
same_plan c d f g o b e = rw (ap (λ (v : View). v.answer) e, ap (λ (v : View). v.setup) e)

-- Where checks 1 to 4 refuse, it is their refusal.
pub refused_plan : (c : Controller) (f : Flash) (o : Operation) (b : List ℕ) → accepts (whole_answer c f) ≡ false
    → plan_of c f o b ≡ Refused (whole_answer c f)
unfolding plan_of
refused_plan c f o b h = rw h

-- ---- what a plan leaves of the controller: the queues empty where words went through them, and a kind recorded

-- The queues,
abbrev pub queues_after : Plan → Queues → Queues
queues_after (Refused a) q = q
queues_after (Recorded a) q = q
queues_after (Reads a readable ps) q = with_reads q empty_queue
queues_after (Programs ps) q = with_programs q empty_queue
queues_after (Erases ps) q = q

-- and the error record.
abbrev pub errors_after : Setup → Operation → Plan → Errors → Errors
errors_after s o (Refused a) e = e
errors_after s o (Recorded a) e = recorded (number_of a) (error_address s (number_of a) o) e
errors_after s o (Reads a readable ps) e = recorded (number_of a) (error_address s (number_of a) o) e
errors_after s o (Programs ps) e = e
errors_after s o (Erases ps) e = e

-- Nothing else of the controller changes.
pub plan_controller : (c : Controller) (f : Flash) (o : Operation) (b : List ℕ) (p : Plan)
    → (performed c f o b p).result.controller
    ≡ with_errors (with_queues c (queues_after p c.queues)) (errors_after c.setup o p c.errors)
unfolding performed
plan_controller c f o b (Refused a) = refl
plan_controller c f o b (Recorded a) = refl
plan_controller c f o b (Reads a readable ps) = refl
plan_controller c f o b (Programs ps) = refl
plan_controller c f o b (Erases ps) = refl

-- Empty queues stay empty.
queues_empty : (p : Plan) (q : Queues) → both_empty q ≡ true → both_empty (queues_after p q) ≡ true
unfolding queue_of
queues_empty (Refused a) q h = h
queues_empty (Recorded a) q h = h
queues_empty (Reads a readable ps) q h = and_right (is_empty q.reads) _ h
queues_empty (Programs ps) q h = rw (and_left (is_empty q.reads) _ h)
queues_empty (Erases ps) q h = h

-- A record that fits still does.
errors_fit_lem : (s : Setup) (o : Operation) (p : Plan) (e : Errors) → errors_fit e ≡ true → errors_fit (errors_after s o p e) ≡ true
errors_fit_lem s o (Refused a) e h = h
errors_fit_lem s o (Recorded a) e h = recorded_fits (number_of a) (error_address s (number_of a) o) e h
errors_fit_lem s o (Reads a readable ps) e h = recorded_fits (number_of a) (error_address s (number_of a) o) e h
errors_fit_lem s o (Programs ps) e h = h
errors_fit_lem s o (Erases ps) e h = h

-- ---- checks 1 to 4 answer after a plan as they did before it

-- Where they accept,
still_accepted : (c : Controller) (f g : Flash) (o : Operation) (p : Plan) → AsLong g f → accepts (whole_answer c f) ≡ true
    → whole_answer (with_errors (with_queues c (queues_after p c.queues)) (errors_after c.setup o p c.errors)) g ≡ whole_answer c f
unfolding whole_answer valid_with
still_accepted c f g o p e h =
    let v = whole_free c f h in
    let empty = queues_empty p c.queues (rw v.reads v.programs) in
    let fits = errors_fit_lem c.setup o p c.errors (valid_parts c v.fits).errors in
    rw (
      free_again c (errors_after c.setup o p c.errors) (queues_after p c.queues) v fits empty,
      v.fits,
      same_fits c.setup.pages g f e,
      empty,
      v.reads,
      v.programs,
    )

-- and where they refuse, since nothing changes: a whole operation leaves the view as it was.
pub view_stays : (c : Controller) (f : Flash) (o : Operation) (b : List ℕ)
    → view_of (performed c f o b (plan_of c f o b)).result.controller (performed c f o b (plan_of c f o b)).flash ≡ view_of c f
unfolding view_of performed
view_stays c f o b = by_test (accepts (whole_answer c f)) yes no
  where
    leaves : WholeLeaves
    leaves = performed c f o b (plan_of c f o b)

    yes : accepts (whole_answer c f) ≡ true → view_of leaves.result.controller leaves.flash ≡ view_of c f
    yes h =
        rw (plan_controller c f o b (plan_of c f o b))
        (ap (λ (a : Answer). record { setup = c.setup; answer = a })
        (still_accepted c f leaves.flash o (plan_of c f o b) (plan_long c f o b (plan_of c f o b)) h))

    no : accepts (whole_answer c f) ≡ false → view_of leaves.result.controller leaves.flash ≡ view_of c f
    no h = rw (refused_plan c f o b h)

-- ---- the kinds that a plan records

-- The kind of an answer: 5, 7, 8 or 9.
abbrev kind_is : Answer → Kinds
kind_is a = record {
  malformed = eqb (number_of a) 5;
  range = eqb (number_of a) 7;
  window = eqb (number_of a) 8;
  denied = eqb (number_of a) 9;
}

-- What a plan adds to the record,
abbrev pub kinds_by : Plan → Kinds
kinds_by (Refused a) = no_kinds
kinds_by (Recorded a) = kind_is a
kinds_by (Reads a readable ps) = kind_is a
kinds_by (Programs ps) = no_kinds
kinds_by (Erases ps) = no_kinds

-- An answer's kind joins, if it has one.
kind_joins : (a : Answer) (at : ByteAddress) (e : Errors) → kinds_in (recorded (number_of a) at e) ≡ union (kinds_in e) (kind_is a)
unfolding recorded
kind_joins a at e = by_test (is_recorded (number_of a)) (λ t. rw t) other
  where
    other : is_recorded (number_of a) ≡ false → kinds_in (recorded (number_of a) at e) ≡ union (kinds_in e) (kind_is a)
    other t =
        let five : eqb (number_of a) 5 ≡ false = or_left (eqb (number_of a) 5) _ t in
        let t₁ = or_right (eqb (number_of a) 5) _ t in
        let seven : eqb (number_of a) 7 ≡ false = or_left (eqb (number_of a) 7) _ t₁ in
        let t₂ = or_right (eqb (number_of a) 7) _ t₁ in
        let eight : eqb (number_of a) 8 ≡ false = or_left (eqb (number_of a) 8) _ t₂ in
        let nine : eqb (number_of a) 9 ≡ false = or_right (eqb (number_of a) 8) _ t₂ in
        rw (t, five, seven, eight, nine) (union_none (kinds_in e))

-- is what it adds to the recorded kinds.
pub kinds_after : (s : Setup) (o : Operation) (p : Plan) (e : Errors) → kinds_in (errors_after s o p e) ≡ union (kinds_in e) (kinds_by p)
kinds_after s o (Refused a) e = union_none (kinds_in e)
kinds_after s o (Recorded a) e = kind_joins a (error_address s (number_of a) o) e
kinds_after s o (Reads a readable ps) e = kind_joins a (error_address s (number_of a) o) e
kinds_after s o (Programs ps) e = union_none (kinds_in e)
kinds_after s o (Erases ps) e = union_none (kinds_in e)
