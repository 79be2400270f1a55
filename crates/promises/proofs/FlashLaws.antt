-- Which calls may change the flash. Assumes nothing.
use Rattle.std.specs.Prelude.{None, Some}
use Prim.Native.Nat.{ℕ}
use mathlib.Core.Path.{◌≡◌, refl}
use mathlib.Core.Bool.{true, false}
use mathlib.Core.List.{List}
use Rattle.model.specs.Steps.{step}
use Rattle.model.specs.Host.{host_read}
use Rattle.model.specs.Rounds.{round}
use Rattle.model.specs.declared.ByteAddress.{ByteAddress}
use Rattle.model.specs.Rounds.{HostRequest}
use Rattle.model.specs.declared.Operation.{Operation}
use Rattle.model.proofs.Rounds.{BothAsked, host, instead, both, both_asked}
use Rattle.promises.specs.Calls.{Call, State, Reset, SetInputs, SetRegion, SetDefault, SetInfo, SetErase, Initialise, Start, Step, Push, Pop, Whole, HostRead, ViewPage, Clear, Rma, Round, perform}

-- Only a step, a round's too, a whole operation and RMA may change the flash.
pub data Touches (s : State) : Call → Type 0 where
  same : {k : Call} → (perform s k).state.flash ≡ s.flash → Touches s k
  steps : Touches s Step
  runs : (o : Operation) (b : List ℕ) → Touches s (Whole o b)
  wipes : Touches s Rma
  rounds : {h : HostRequest} → (perform s (Round h true)).state.flash ≡ (step s.controller s.flash).flash → Touches s (Round h true)

both_touch : (s : State) {a : ByteAddress} → BothAsked s.controller s.flash a → Touches s (Round (Some a) true)
unfolding perform host_read
both_touch s {a} (host t few e) = same {k = Round (Some a) true} (rw e)
both_touch s {a} (instead t many e) = rounds {h = Some a} (rw e)
both_touch s {a} (both t e) = rounds {h = Some a} (rw e)

pub flash_touched : (s : State) (k : Call) → Touches s k
unfolding perform round
flash_touched s (Reset d) = same refl
flash_touched s (SetInputs i) = same refl
flash_touched s (SetRegion n g) = same refl
flash_touched s (SetDefault r) = same refl
flash_touched s (SetInfo bank t page p) = same refl
flash_touched s (SetErase bank on) = same refl
flash_touched s Initialise = same refl
flash_touched s (Start o) = same refl
flash_touched s Step = steps
flash_touched s (Push w) = same refl
flash_touched s Pop = same refl
flash_touched s (Whole o b) = runs o b
flash_touched s (HostRead a) = same refl
flash_touched s (ViewPage p) = same refl
flash_touched s Clear = same refl
flash_touched s Rma = wipes
flash_touched s (Round None false) = same refl
flash_touched s (Round None true) = rounds refl
flash_touched s (Round (Some a) false) = same refl
flash_touched s (Round (Some a) true) = both_touch s (both_asked s.controller s.flash a)
