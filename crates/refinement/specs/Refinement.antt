-- Refinement: the registers after a call stand for the model's controller after the call. So what is promised of the model's
-- controllers is promised of what lies in the registers.
use Rattle.std.specs.Prelude.{ℕ, ◌≤◌, ◌≡◌, Bool, List, length}
use Rattle.model.specs.State.{Flash}
use Rattle.model.specs.Errors.{clear}
use Rattle.model.specs.Settings.{set_inputs, set_region, set_default, set_info, set_erase}
use Rattle.model.specs.Lifecycle.{reset, initialise, rma}
use Rattle.model.specs.Steps.{start, push, pop, step}
use Rattle.model.specs.Rounds.{round}
use Rattle.model.specs.Whole.{whole}
use Rattle.model.specs.declared.Inputs.{Inputs}
use Rattle.model.specs.declared.Region.{Region}
use Rattle.model.specs.declared.PageSetting.{PageSetting}
use Rattle.model.specs.declared.Operation.{Operation}
use Rattle.model.specs.Rounds.{HostRequest}
use Rattle.registers.specs.Layout.{register_count}
use Rattle.registers.specs.Registers.{decode}
use Rattle.calls.specs.Calls.{set_inputs_in, set_region_in, set_default_in, set_info_in, set_erase_in, clear_in, push_in, pop_in, initialise_in, step_in, rma_in, reset_in, start_in, whole_in, round_in}

-- On these registers, whatever a call is given, and accepted or refused. (Host reads and views change no register.)
pub record RefinesOn (s : List ℕ) : Type 0 where
  -- Reset, initialise and RMA.
  pub resets : (d : ℕ) → decode (reset_in s d).registers ≡ (reset (decode s) d).controller
  pub initialises : (f : Flash) → decode (initialise_in s f).registers ≡ (initialise (decode s) f).controller
  pub wipes : (f : Flash) → decode (rma_in s f).registers ≡ (rma (decode s) f).result.controller
  -- The inputs, and each setting.
  pub inputs : (i : Inputs) → decode (set_inputs_in s i).registers ≡ (set_inputs (decode s) i).controller
  pub region : (i : ℕ) (g : Region) → decode (set_region_in s i g).registers ≡ (set_region (decode s) i g).controller
  pub default : (r : ℕ) → decode (set_default_in s r).registers ≡ (set_default (decode s) r).controller
  pub info : (bank t page : ℕ) (p : PageSetting)
      → decode (set_info_in s bank t page p).registers ≡ (set_info (decode s) bank t page p).controller
  pub erase : (bank : ℕ) (on : Bool) → decode (set_erase_in s bank on).registers ≡ (set_erase (decode s) bank on).controller
  -- A start. Its operation's type is a byte, as the code's types say: no rule looks at it where it isn't used.
  pub starts : (o : Operation) → o.info ≤ 255 → decode (start_in s o).registers ≡ (start (decode s) o).controller
  -- A step, a push and a pop.
  pub steps : (f : Flash) → decode (step_in s f).registers ≡ (step (decode s) f).result.controller
  pub pushes : (w : ℕ) → decode (push_in s w).registers ≡ (push (decode s) w).controller
  pub pops : decode (pop_in s).registers ≡ (pop (decode s)).controller
  -- A round.
  pub rounds : (f : Flash) (host : HostRequest) (step : Bool)
      → decode (round_in s f host step).registers ≡ (round (decode s) f host step).result.controller
  -- A whole operation, with a lent buffer.
  pub completes : (f : Flash) (o : Operation) (b : List ℕ)
      → decode (whole_in s f o b).registers ≡ (whole (decode s) f o b).result.controller
  -- The error record cleared.
  pub clears : decode (clear_in s).registers ≡ (clear (decode s)).controller

-- Of all registers, those that encode nothing too: they stand for a controller with a D of 0, which every call but reset leaves.
abbrev pub Refines : Type 0
Refines = (s : List ℕ) → length s ≡ register_count → RefinesOn s
