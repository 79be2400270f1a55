-- Demand 3: whole operations have the laws that the theorem on shuffles asks for. Assumes nothing.
use mathlib.Core.Path.{◌≡◌, refl, sym, ap, ◌∙◌}
use lib.ListN.{length}
use Rattle.model.specs.Whole.{WholeLeaves}
use Rattle.model.specs.declared.Controller.{Controller}
use Rattle.plans.specs.Plan.{performed}
use Rattle.plans.proofs.ClosedFormProof.{closed_form}
use Rattle.shuffles.specs.Shuffle.{Job, State, after, given_of, given, plan_at, Demand3, AllAlike}
use Rattle.shuffles.proofs.Places.{plan_long, plan_off, plan_same}
use Rattle.shuffles.proofs.Views.{view_of, same_plan, plan_controller, errors_after, view_stays, kinds_by, kinds_after}
use Rattle.shuffles.proofs.Commute.{Laws, commutes, one_end}

-- A state that plans can't tell from s₀.
pub record Like (s₀ s : State) : Type 0 where
  pub view : view_of s.controller s.flash ≡ view_of s₀.controller s₀.flash
  pub long : length s.flash.words ≡ length s₀.flash.words

-- A state is like itself.
pub like_itself : (s : State) → Like s s
like_itself s = record { view = refl; long = refl }

-- What a job leaves, by its plan.
abbrev pub leaves_at : State → Job → WholeLeaves
leaves_at s j = performed s.controller s.flash j.operation j.buffer (plan_at s j)

-- In closed form: what a job leaves,
pub after_is : (s : State) (j : Job) → after s j ≡ record { controller = (leaves_at s j).result.controller; flash = (leaves_at s j).flash }
unfolding after
after_is s j =
    ap (λ (w : WholeLeaves). record { controller = w.result.controller; flash = w.flash })
    (closed_form s.controller s.flash j.operation j.buffer)

-- and what it gives.
pub given_is : (s : State) (j : Job) → given s j ≡ given_of (leaves_at s j)
unfolding given
given_is s j = ap given_of (closed_form s.controller s.flash j.operation j.buffer)

-- The error record after a job.
pub errors_are : (s : State) (j : Job) → (after s j).controller.errors
    ≡ errors_after s.controller.setup j.operation (plan_at s j) s.controller.errors
errors_are s j =
    ap (λ (t : State). t.controller.errors) (after_is s j)
    ∙ ap (λ (c : Controller). c.errors) (plan_controller s.controller s.flash j.operation j.buffer (plan_at s j))

-- A job leaves a state like s₀ like s₀.
pub stays : (s₀ s : State) (j : Job) → Like s₀ s → Like s₀ (after s j)
stays s₀ s j h = rw (after_is s j) (record {
  view = view_stays s.controller s.flash j.operation j.buffer ∙ h.view;
  long = plan_long s.controller s.flash j.operation j.buffer (plan_at s j) ∙ h.long;
})

-- There each job has the plan that it has at s₀.
pub plan_like : (s₀ s : State) (j : Job) → Like s₀ s → plan_at s j ≡ plan_at s₀ j
plan_like s₀ s j h = same_plan s.controller s₀.controller s.flash s₀.flash j.operation j.buffer h.view

-- The laws of a job, at states like s₀.
pub laws : (s₀ : State) → Laws (Like s₀) (length s₀.flash.words) (plan_at s₀) kinds_by
laws s₀ = record {
  same_plan = plan_like s₀;
  stays = stays s₀;
  long = λ s h. h.long;
  frame = λ s j h.
      rw (after_is s j, ← plan_like s₀ s j h) (plan_off s.controller s.flash j.operation j.buffer (plan_at s j));
  local = λ s t j h k a. rw (after_is s j, after_is t j, given_is s j, given_is t j, plan_like s₀ s j h, plan_like s₀ t j k)
      (plan_same s.controller t.controller s.flash t.flash j.operation j.buffer (plan_at s₀ j)
      (h.long ∙ sym k.long) a);
  records = λ s j h. rw (errors_are s j, ← plan_like s₀ s j h)
      (kinds_after s.controller.setup j.operation (plan_at s j) s.controller.errors);
}

-- ---- the theorem

-- Demand 3: the laws hold at states like the one at the start.
pub demand3 : Demand3
demand3 s way xs ys zs apart w =
    commutes (Like s) (length s.flash.words) (plan_at s) kinds_by (laws s) s (like_itself s) apart w

-- So all shuffles end alike.
pub all_alike : AllAlike
all_alike s way way' xs ys zs zs' apart w w' =
    one_end s (demand3 s way xs ys zs apart w) (demand3 s way' xs ys zs' apart w')
