-- What changes a lost count. Assumes nothing.
use Rattle.std.specs.Prelude.{None, Some, Err}
use mathlib.Core.Path.{◌≡◌, refl}
use mathlib.Core.Bool.{Bool, true, false, not, cond, true≢false}
use Rattle.model.specs.State.{with_inputs, with_settings, with_errors, no_errors}
use Rattle.model.specs.Refusals.{accepts, check, or_else, ready_answer}
use Rattle.model.specs.Errors.{clear}
use Rattle.model.specs.Settings.{setting_answer, set_inputs, configured, set_region, set_default, set_info, set_erase}
use Rattle.model.specs.Lifecycle.{reset, initialise_answer, initialise, rma_answer, rma_controller, rma}
use Rattle.model.specs.Valid.{valid}
use Rattle.model.specs.Steps.{start_answer, start, push_answer, push, pop_answer, pop}
use Rattle.model.specs.Host.{host_read}
use Rattle.model.specs.Rounds.{round}
use Rattle.model.specs.declared.Settings.{Settings}
use Rattle.model.specs.declared.Refusal.TheVariants.{Invalid}
use Rattle.model.specs.declared.Controller.{Controller}
use Rattle.model.proofs.Bool.{by_test}
use Rattle.model.proofs.Rounds.{step_leaves_alone}
use Rattle.plans.proofs.Left.{whole_leaves}
use Rattle.promises.specs.Calls.{Reset, SetInputs, SetRegion, SetDefault, SetInfo, SetErase, Initialise, Start, Step, Push, Pop, Whole, HostRead, ViewPage, Clear, Rma, Round, perform}
use Rattle.fairness.specs.Fair.{StartsAtZero, CountsStay}

pub starts_at_zero : StartsAtZero
unfolding perform reset
starts_at_zero s d h = rw h

-- A call leaves them, accepted or refused, if what it leaves accepted does.
either : (b : Bool) (next c : Controller) → next.physical ≡ c.physical → (cond b next c).physical ≡ c.physical
either true next c e = e
either false next c e = refl

configured_leaves : (c : Controller) (x : Settings) (fits : Bool) → (configured c x fits).controller.physical ≡ c.physical
unfolding configured
configured_leaves c x fits = either (accepts (setting_answer c fits)) (with_settings c x) c refl

pub counts_stay : CountsStay
unfolding perform set_inputs set_region set_default set_info set_erase initialise start push pop host_read clear rma round
counts_stay s (Reset d) r a = absurd (true≢false r)
counts_stay s (SetInputs i) r a = either (accepts (setting_answer s.controller true)) (with_inputs s.controller i) s.controller refl
counts_stay s (SetRegion n g) r a = configured_leaves s.controller _ _
counts_stay s (SetDefault x) r a = configured_leaves s.controller _ _
counts_stay s (SetInfo bank t page p) r a = configured_leaves s.controller _ _
counts_stay s (SetErase bank on) r a = configured_leaves s.controller _ _
counts_stay s Initialise r a = by_test (accepts (initialise_answer s.controller s.flash)) (λ t. rw t) (λ t. rw t)
counts_stay s (Start o) r a = by_test (accepts (start_answer s.controller)) (λ t. rw t) (λ t. rw t)
counts_stay s Step r a = (step_leaves_alone s.controller s.flash).1
counts_stay s (Push w) r a =
    let c = s.controller in
    by_test (accepts (or_else (ready_answer (valid c) c.phase) (push_answer c c.progress))) (λ t. rw t) (λ t. rw t)
counts_stay s Pop r a = by_test (accepts (pop_answer s.controller)) (λ t. rw t) (λ t. rw t)
counts_stay s (Whole o b) r a = (whole_leaves s.controller s.flash o b).1
counts_stay s (HostRead x) r a = refl
counts_stay s (ViewPage p) r a = refl
counts_stay s Clear r a = either (accepts (check (not (valid s.controller)) (Err Invalid))) (with_errors s.controller no_errors) s.controller refl
counts_stay s Rma r a = either (accepts (rma_answer s.controller s.flash)) (rma_controller s.controller) s.controller refl
counts_stay s (Round None false) r a = refl
counts_stay s (Round None true) r a = absurd (true≢false a)
counts_stay s (Round (Some x) false) r a = refl
counts_stay s (Round (Some x) true) r a = absurd (true≢false a)
