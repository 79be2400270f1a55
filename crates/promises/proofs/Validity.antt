-- A valid state stays valid. Assumes nothing.
use mathlib.Core.Path.{◌≡◌}
use mathlib.Core.Bool.{true}
use mathlib.Core.List.{[], ◌∷◌}
use Rattle.model.specs.Lifecycle.{reset}
use Rattle.model.specs.Host.{host_read}
use Rattle.model.specs.Valid.{valid}
use Rattle.promises.specs.Calls.{Call, State, Shaped, Reset, SetInputs, SetRegion, SetDefault, SetInfo, SetErase, Initialise, Start, Step, Push, Pop, Whole, HostRead, ViewPage, Clear, Rma, Round, perform}
use Rattle.promises.specs.Validity.{ValidStays, ResetIsValid}
use Rattle.promises.proofs.Fields.{Valid, parts, together}
use Rattle.promises.proofs.KeepSettings.{inputs_keep, region_keeps, default_keeps, page_keeps, erase_keeps}
use Rattle.promises.proofs.KeepPhases.{reset_valid, reset_keeps, initialise_keeps, rma_keeps, clear_keeps}
use Rattle.promises.proofs.KeepQueues.{push_keeps, pop_keeps}
use Rattle.promises.proofs.KeepSteps.{step_keeps}
use Rattle.promises.proofs.KeepStart.{start_keeps}
use Rattle.promises.proofs.KeepWholes.{whole_keeps}
use Rattle.promises.proofs.KeepRounds.{round_keeps}

-- Each call leaves a valid state valid,
pub perform_keeps : (s : State) (k : Call) → Valid s.controller → Valid (perform s k).state.controller
unfolding perform host_read
perform_keeps s (Reset d) v = reset_keeps s.controller v d
perform_keeps s (SetInputs i) v = inputs_keep s.controller v i
perform_keeps s (SetRegion n g) v = region_keeps s.controller v n g
perform_keeps s (SetDefault r) v = default_keeps s.controller v r
perform_keeps s (SetInfo bank t page p) v = page_keeps s.controller v bank t page p
perform_keeps s (SetErase bank on) v = erase_keeps s.controller v bank on
perform_keeps s Initialise v = initialise_keeps s.controller v s.flash
perform_keeps s (Start o) v = start_keeps s.controller o v
perform_keeps s Step v = step_keeps s.controller s.flash v
perform_keeps s (Push w) v = push_keeps s.controller v _
perform_keeps s Pop v = pop_keeps s.controller v
perform_keeps s (Whole o b) v = whole_keeps s.controller s.flash o _ v
perform_keeps s (HostRead a) v = v
perform_keeps s (ViewPage p) v = v
perform_keeps s Clear v = clear_keeps s.controller v
perform_keeps s Rma v = rma_keeps s.controller v s.flash
perform_keeps s (Round h b) v = round_keeps s.controller s.flash h b v

pub call_keeps : (s : State) (k : Call) → Shaped s.controller → valid s.controller ≡ true
    → Shaped (perform s k).state.controller × (valid (perform s k).state.controller ≡ true)
call_keeps s k h v = together (perform s k).state.controller (perform_keeps s k (parts s.controller h v))

-- so every list of calls does.
pub valid_stays : ValidStays
valid_stays s [] h v = (h, v)
valid_stays s (k ∷ ks) h v = let (h', v') = call_keeps s k h v in valid_stays (perform s k).state ks h' v'

-- Reset makes any state valid.
pub reset_is_valid : ResetIsValid
unfolding perform reset
reset_is_valid s d fit = together (perform s (Reset d)).state.controller (rw fit (reset_valid d fit))
